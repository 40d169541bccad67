-- What an event makes of all that is kept between two calls.
use Rattle.std.proofs.Common.{◌≡◌, ℕ, ◌+◌, ◌-◌, ◌<◌, Bool, true, false, List, [], ◌∷◌, ◌++◌, length, length-take, get_or, take, slice_get, Some, sym, ◌∙◌, ap, subst, arith}
use Rattle.std.specs.Prelude.{All}
use Rattle.std.proofs.lemmas.Option.{slice_get-get_or}
use Rattle.std.proofs.lemmas.List.{get_or-take}
use Rattle.std.proofs.lemmas.List.Elements.{All-contains, All-push, Contains-push}
use Rattle.bx_cnf.specs.Literals.{Literal, negated}
use Rattle.bx_cnf.specs.Formulas.{Formula, IsFormula}
use Rattle.bx_cnf.specs.Assignments.{IsFree, IsActive}
use Rattle.bx_least_set.specs.Numbers.{IsLeast, IsNone}
use Rattle.bx_watch.specs.declared.lists.Entry.{Entry}
use Rattle.bx_watch.specs.declared.reading.Reading.{Reading}
use Rattle.bx_watch.specs.Lists.{place}
use Rattle.bx_watch.specs.Watching.{Watch, IsOver, AreApart, NoneActive, IsFirst}
use Rattle.bx_watch.specs.Readings.{Assigned, IsTrail, TakesLast, IsRead, is_open}
use Rattle.bx_watch.specs.Keeping.{Tables, IsWhole, IsKept, AreIn, ArePending, Falsifies, Releases, Cleans, watch_of}
use Rattle.bx_watch.proofs.Trails.{AreApart-assigned, AreApart-freed, All-front}
use Rattle.bx_watch.proofs.ClauseReads.{blocked-inactive, read-blocked}
use Rattle.bx_watch.proofs.Parking.{pending-now, pending-pushed, pending-popped}
use Rattle.bx_watch.proofs.Firsts.{first-clause}
use Rattle.bx_watch.proofs.Keeps.{kept-with, kept-assigned, pending-assigned, kept-freed, place-below}

pub whole-cleaned : (f : Formula) (a : Assigned) (u v : Tables) (parked : List (List Entry)) → IsFormula f → IsTrail a → a.vars ≡ f.vars → IsKept f a.literals u → Cleans f a.literals u v parked → IsWhole f a v parked
whole-cleaned f a u v parked formed trail size kept cleans = record {
  formed = formed;
  trail = trail;
  one_size = size;
  kept = kept-with f a.literals u v kept cleans.lists_stay cleans.pairs_stay cleans.sized;
  parking = cleans.parking;
  pending = cleans.pending;
  clean = cleans.clean;
}

-- a literal is assigned
pub trail-assigned : (a : Assigned) (l : Literal) → IsTrail a → IsOver a.vars l → IsFree a.literals l → IsTrail (record a { literals = a.literals ++ l ∷ [] })
trail-assigned a l is over free = record { over = All-push (IsOver a.vars) a.literals l is.over over; apart = AreApart-assigned a.literals l is.apart free }

pub assigned-pending : (f : Formula) (a : Assigned) (t u : Tables) (parked : List (List Entry)) (l : Literal) → IsWhole f a t parked → IsFree a.literals l → Falsifies f a.literals (negated l) t u → ArePending f (a.literals ++ l ∷ []) u.pending parked
assigned-pending f a t u parked l whole free falsifies = pending-pushed f a.literals t.pending u.pending parked l whole.pending falsifies.more
    (pending-assigned f a.literals t.pending u l whole.formed (AreApart-assigned a.literals l whole.trail.apart free) falsifies.kept falsifies.settled (pending-now f a.literals t.pending parked whole.pending) falsifies.more)

pub assigned-whole : (f : Formula) (a : Assigned) (u v : Tables) (parked new : List (List Entry)) (t : Tables) (l : Literal) → IsWhole f a t parked → IsOver a.vars l → IsFree a.literals l → Falsifies f a.literals (negated l) t u
    → Cleans f (a.literals ++ l ∷ []) u v new → IsWhole f (record a { literals = a.literals ++ l ∷ [] }) v new
assigned-whole f a u v parked new t l whole over free falsifies cleans =
    whole-cleaned f (record a { literals = a.literals ++ l ∷ [] }) u v new whole.formed (trail-assigned a l whole.trail over free) whole.one_size (kept-assigned f a.literals u l falsifies.kept falsifies.settled) cleans

-- the last literal is freed
pub trail-freed : (a b : Assigned) (l : Literal) → IsTrail a → TakesLast a b (Some l) → IsTrail b
trail-freed a b l is takes = record {
  over = subst (λ (n : ℕ). All (IsOver n) b.literals) (sym takes.vars_stay) (All-front (IsOver a.vars) b.literals l (subst (All (IsOver a.vars)) takes.split is.over));
  apart = AreApart-freed b.literals l (subst AreApart takes.split is.apart);
}

pub freed-listed : (f : Formula) (a b : Assigned) (t : Tables) (parked : List (List Entry)) (l : Literal) → IsWhole f a t parked → TakesLast a b (Some l) → place l < length parked
freed-listed f a b t parked l whole takes =
    let over : IsOver a.vars l = All-contains (IsOver a.vars) (b.literals ++ l ∷ []) l (subst (All (IsOver a.vars)) takes.split whole.trail.over) (Contains-push b.literals l) in
    omega (arith, place-below a.vars l over, whole.one_size, whole.parking.sized)

pub freed-pending : (f : Formula) (a b : Assigned) (t u : Tables) (parked left : List (List Entry)) (l : Literal) → IsWhole f a t parked → TakesLast a b (Some l) → Releases l t u parked left → ArePending f b.literals u.pending left
freed-pending f a b t u parked left l whole takes releases =
    pending-popped f b.literals t u parked left l (subst (λ (ls : List Literal). ArePending f ls t.pending parked) takes.split whole.pending) releases

pub freed-whole : (f : Formula) (a b : Assigned) (t u v : Tables) (parked left new : List (List Entry)) (l : Literal) → IsWhole f a t parked → TakesLast a b (Some l) → Releases l t u parked left → Cleans f b.literals u v new → IsWhole f b v new
freed-whole f a b t u v parked left new l whole takes releases cleans = whole-cleaned f b u v new whole.formed (trail-freed a b l whole.trail takes) (takes.vars_stay ∙ whole.one_size)
    (kept-freed f b.literals t u l parked left (subst (λ (ls : List Literal). IsKept f ls t) takes.split whole.kept) releases) cleans

-- what contracts see of a whole one
pub seen : (whole : Bool) (f : Formula) (a : Assigned) (w : Watch) → whole ≡ true → watch_of whole f a ≡ w → record { vars = f.vars; clauses = f.clauses; trail = a.literals } ≡ w
seen whole f a w is view = sym (ap (λ (b : Bool). watch_of b f a) is) ∙ view

pub none-active : (f : Formula) (trail : List Literal) (pending : List Bool) → AreIn f trail pending → IsNone pending → NoneActive trail f.clauses
none-active f trail pending are none k d below active = true_false (sym (are k (get_or f.clauses k d) (slice_get-get_or f.clauses k d below) active) ∙ none k) where
  true_false : true ≡ false → ⊥
  true_false e = cc

pub none-before : (f : Formula) (trail : List Literal) (pending : List Bool) (n : ℕ) → AreIn f trail pending → IsLeast pending n → NoneActive trail (take n f.clauses)
none-before f trail pending n are least k d below active =
    let before : k < n = omega (arith, below, length-take n f.clauses) in
    let within : k < length f.clauses = omega (arith, below, length-take n f.clauses) in
    let same : get_or (take n f.clauses) k d ≡ get_or f.clauses k d = get_or-take n f.clauses k d before in
    true_false (sym (are k (get_or f.clauses k d) (slice_get-get_or f.clauses k d within) (subst (IsActive trail) same active)) ∙ least.none_before k before) where
      true_false : true ≡ false → ⊥
      true_false e = cc

pub first-pending : (f : Formula) (a : Assigned) (t : Tables) (parked : List (List Entry)) (n : ℕ) (clause : List Literal) (IsSo : List Literal → Type 0) → IsWhole f a t parked → IsLeast t.pending n → slice_get f.clauses n ≡ Some clause → IsSo clause
    → IsFirst (record { vars = f.vars; clauses = f.clauses; trail = a.literals }) (n + 1) IsSo
first-pending f a t parked n clause IsSo whole least at is =
    first-clause (record { vars = f.vars; clauses = f.clauses; trail = a.literals }) n clause IsSo (ap (λ k. slice_get f.clauses k) (less n) ∙ at) is (none-before f a.literals t.pending n (pending-now f a.literals t.pending parked whole.pending) least) where
      less : (n : ℕ) → n + 1 - 1 ≡ n
      less n = omega arith

pub least-open : (f : Formula) (a : Assigned) (t : Tables) (parked : List (List Entry)) (n : ℕ) (clause : List Literal) (reading : Reading) → IsWhole f a t parked → IsLeast t.pending n → slice_get f.clauses n ≡ Some clause
    → IsRead a.literals clause reading → is_open reading ≡ false → ⊥
least-open f a t parked n clause reading whole least at read closed = blocked-inactive a.literals clause whole.trail.apart (read-blocked a.literals clause reading read closed) (whole.clean n clause least at)

pub trail-none : (vars : ℕ) → IsTrail (record { vars = vars; literals = [] })
trail-none vars = record {
  over = λ k d below. absurd (omega (arith, below));
  apart = λ i j d before below. absurd (omega (arith, below));
}
