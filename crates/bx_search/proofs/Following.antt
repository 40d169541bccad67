-- Each step that the search learns follows from the clauses before it.
use Rattle.std.proofs.Common.{◌≡◌, ◌≢◌, ℕ, zero, suc, ◌+◌, ◌-◌, ◌<◌, ◌≤◌, inl, inr, true, false, not, ◌==◌, List, [], ◌∷◌, ◌++◌, length, map, reverse, take, Option, Some, None, slice_get, refl, sym, ◌∙◌, ap, subst, append_assoc, length-append, arith}
use Rattle.std.specs.Prelude.{Contains, IfSome, slice_index_or}
use Rattle.std.proofs.lemmas.Bool.{cases_order, eq-eqb, not-true}
use Rattle.std.proofs.lemmas.Option.{slice_get_within}
use Rattle.std.proofs.lemmas.List.{map-append, reverse-append, reverse-reverse, take-append-le, take_all}
use Rattle.bx_logic.proofs.Members.{Member, Member-map, Contains-from_member, Member-from_contains, AllByRecursion-from_member}
use Rattle.bx_cnf.specs.Literals.{Literal, negated}
use Rattle.bx_cnf.specs.Formulas.{Formula}
use Rattle.bx_cnf.specs.Assignments.{IsFree, IsUnit}
use Rattle.bx_proof.specs.Steps.{Step, StepList}
use Rattle.bx_proof.specs.Accepted.{Follows, EachFollows, with_steps}
use Rattle.bx_queue.proofs.Orders.{find-some}
use Rattle.bx_watch.specs.Watching.{IsFirst}
use Rattle.bx_watch.proofs.Trails.{fresh}
use Rattle.bx_search.specs.States.{Assigned, State, clauses_of, literals_of, watch_of, current_level, is_assigned, first_free}
use Rattle.bx_search.specs.Searching.{Goes, After, IsSearch, IsConflict, learned, jump_level, levels_from}
use Rattle.bx_search.specs.Searching.Goes.{Propagates, Decides, Learns}
use Rattle.bx_search.specs.declared.outcome.Outcome.TheVariants.{Unsat}
use Rattle.bx_search.proofs.Kept.{Falls, or-false}
use Rattle.bx_search.proofs.Rising.{Rises, rises-after, falls-reversed}
use Rattle.bx_search.proofs.Backed.{IsReason, IsBacked, IsNew, AreBacked, IsConsistent, consistent, backed-more, backed-up_to}
use Rattle.bx_search.proofs.Leading.{onto-left, on-reversed, learned-follows}

pub from-reversed : (trail : List Assigned) (b : Assigned) → Member b (reverse trail) → Member b trail
from-reversed trail b h = subst (Member b) (reverse-reverse trail) (onto-left b (reverse trail) [] h)

pushed : (clauses : List (List Literal)) (trail : List Assigned) (a : Assigned) → IsBacked clauses (reverse trail) a.literal a.level a.reason → IsNew a.literal (reverse trail)
    → AreBacked clauses (reverse trail) → AreBacked clauses (reverse (trail ++ a ∷ []))
pushed clauses trail a backed new rest = subst (AreBacked clauses) (sym (reverse-append trail (a ∷ []))) (backed, new, rest)

-- a unit clause is a reason
new-unit : (trail : List Assigned) (l : Literal) → IsFree (literals_of trail) l → IsNew l (reverse trail)
new-unit trail l free = AllByRecursion-from_member (λ (b : Assigned). b.literal.var ≢ l.var) (reverse trail)
    (λ b h. fresh (literals_of trail) l b.literal free (Contains-from_member b.literal (literals_of trail) (Member-map (λ (z : Assigned). z.literal) b trail (from-reversed trail b h))))

unit-reason : (formula : Formula) (s : State) (id : ℕ) (l : Literal) → IsFirst (watch_of formula s) id (λ clause. IsUnit (literals_of s.trail) clause l) → IsReason (clauses_of formula s) (reverse s.trail) l id
unit-reason formula s id l first = record {
  clause = first.clause;
  above = first.above;
  stands = first.stands;
  place = first.is_so.0.place;
  here = first.is_so.0.stands;
  others = λ k m at other. on-reversed s.trail (negated m) (Member-from_contains (negated m) (literals_of s.trail) (first.is_so.0.others k m at other));
}

-- a decision is the first of its level
falls-all : (top : ℕ) (trail : List Assigned) (b : Assigned) → Falls top trail → Member b trail → b.level ≤ top
falls-all top [] b f h = absurd h
falls-all top (a ∷ before) b f (inl e) = subst (λ (z : Assigned). z.level ≤ top) e f.0
falls-all top (a ∷ before) b f (inr h) = let low = falls-all a.level before b f.1 h in omega (arith, low, f.0)

pub unassigned : (trail : List Assigned) (var : ℕ) (b : Assigned) → is_assigned trail var ≡ false → Member b trail → b.literal.var ≢ var
unassigned [] var b none h e = absurd h
unassigned (a ∷ trail) var b none (inl x) e = no (sym (eq-eqb a.literal.var var (ap (λ (z : Assigned). z.literal.var) x ∙ e)) ∙ (or-false (a.literal.var == var) (is_assigned trail var) none).0) where
  no : true ≡ false → ⊥
  no h = cc
unassigned (a ∷ trail) var b none (inr h) e = unassigned trail var b (or-false (a.literal.var == var) (is_assigned trail var) none).1 h e

pub free-first : (s : State) (var : ℕ) → first_free s ≡ Some var → is_assigned s.trail var ≡ false
free-first s var first =
    let found : IfSome (Some var) (λ v. Contains s.queue v × (not (is_assigned s.trail v) ≡ true)) =
    subst (λ (o : Option ℕ). IfSome o (λ v. Contains s.queue v × (not (is_assigned s.trail v) ≡ true))) first (find-some (λ v. not (is_assigned s.trail v)) s.queue) in
    not-true (is_assigned s.trail var) found.1

new-decision : (s : State) (l : Literal) → first_free s ≡ Some l.var → IsNew l (reverse s.trail)
new-decision s l first = AllByRecursion-from_member (λ (b : Assigned). b.literal.var ≢ l.var) (reverse s.trail)
    (λ b h. unassigned s.trail l.var b (free-first s l.var first) (from-reversed s.trail b h))

pub with-step : (clauses : List (List Literal)) (steps : List Step) (step : Step) → with_steps clauses steps ++ step.literals ∷ [] ≡ with_steps clauses (steps ++ step ∷ [])
with-step clauses steps step = append_assoc clauses (map (λ (x : Step). x.literals) steps) (step.literals ∷ []) ∙ ap (λ ls. clauses ++ ls) (sym (map-append (λ (x : Step). x.literals) steps (step ∷ [])))

abbrev pub IsBackedState : Formula → State → Type 0
IsBackedState formula s = AreBacked (clauses_of formula s) (reverse s.trail)

backed-goes : (formula : Formula) (budget : ℕ) (s t : State) → Goes formula budget s t → Rises 0 s.trail → IsBackedState formula s → IsBackedState formula t
backed-goes formula budget s t (Propagates id l least next) rises backed =
    subst (IsBackedState formula) (sym next)
    (pushed (clauses_of formula s) s.trail _ (unit-reason formula s id l least) (new-unit s.trail l least.is_so.1) backed)
backed-goes formula budget s t (Decides var quiet first next) rises backed =
    subst (IsBackedState formula) (sym next)
    (pushed (clauses_of formula s) s.trail _ (
      omega arith,
      AllByRecursion-from_member (λ (b : Assigned). b.level < current_level s.trail + 1) (reverse s.trail)
          (λ b h. let low = falls-all (current_level s.trail) (reverse s.trail) b (falls-reversed s.trail rises) h in omega (arith, low)),
    )
    (new-decision s (record { var = var; positive = slice_index_or s.phases (var - 1) false }) first) backed)
backed-goes formula budget s t (Learns id step conflict within some next) rises backed =
    subst (IsBackedState formula) (sym next)
    (subst (λ cs. AreBacked cs (reverse (learned formula s id step).trail)) (with-step formula.clauses s.steps step)
    (backed-more (clauses_of formula s) (step.literals ∷ []) (reverse (learned formula s id step).trail)
    (backed-up_to (clauses_of formula s) (jump_level (length s.steps + 1) (levels_from (clauses_of formula s) s.trail id)) (current_level s.trail) s.trail (falls-reversed s.trail rises) backed)))

pub backed-after : (formula : Formula) (budget events : ℕ) (s : State) → After formula budget events s → IsBackedState formula s
backed-after formula budget zero s is = subst (IsBackedState formula) (sym is) tt
backed-after formula budget (suc events) s (before, after, goes) =
    backed-goes formula budget before s goes (rises-after formula budget events before after) (backed-after formula budget events before after)

-- no literal of the trail and its negation both stand on it
pub consistent-after : (formula : Formula) (budget events : ℕ) (s : State) → After formula budget events s → IsConsistent s.trail
consistent-after formula budget events s after l h k =
    consistent (clauses_of formula s) (reverse s.trail) (backed-after formula budget events s after) l (on-reversed s.trail l h) (on-reversed s.trail (negated l) k)

conflict-follows : (formula : Formula) (budget events : ℕ) (s : State) (id : ℕ) (step : Step) → After formula budget events s → IsConflict formula s id step → Follows (clauses_of formula s) step
conflict-follows formula budget events s id step after conflict =
    learned-follows (clauses_of formula s) s.trail id conflict.least.clause step (backed-after formula budget events s after)
    conflict.least.above conflict.least.stands conflict.least.is_so conflict.learned

-- one step more
pub get-front : {X : Type 0} (xs ys : List X) (k : ℕ) → k < length xs → slice_get (xs ++ ys) k ≡ slice_get xs k
get-front [] ys k l = absurd (omega (arith, l))
get-front (x ∷ xs) ys zero l = refl
get-front (x ∷ xs) ys (suc k) l = get-front xs ys k (omega (arith, l))

pub get-last : {X : Type 0} (xs : List X) (y : X) (k : ℕ) → k ≡ length xs → slice_get (xs ++ y ∷ []) k ≡ Some y
get-last [] y zero e = refl
get-last [] y (suc k) e = absurd (omega (arith, e))
get-last (x ∷ xs) y zero e = absurd (omega (arith, e))
get-last (x ∷ xs) y (suc k) e = get-last xs y k (omega (arith, e))

each-pushed : (clauses : List (List Literal)) (steps : List Step) (step : Step) → EachFollows clauses steps → Follows (with_steps clauses steps) step → EachFollows clauses (steps ++ step ∷ [])
each-pushed clauses steps step each follows k other at = elim (cases_order k (length steps)) [
  | inl end ↦
      let is : step ≡ other = some-same step other (sym (get-last steps step k end) ∙ at) in
      let front : take k (steps ++ step ∷ []) ≡ steps = take-append-le k steps (step ∷ []) (omega (arith, end)) ∙ take_all k steps (omega (arith, end)) in
      rw front (subst (Follows (with_steps clauses steps)) is follows)
  | inr (inl before) ↦
      rw (take-append-le k steps (step ∷ []) (omega (arith, before))) (each k other (sym (get-front steps (step ∷ []) k before) ∙ at))
  | inr (inr behind) ↦
      absurd (let l = slice_get_within (steps ++ step ∷ []) k other at in omega (arith, l, behind, length-append steps (step ∷ [])))
] where
  some-same : (a b : Step) → Some a ≡ Some b → a ≡ b
  some-same a b e = cc

each-goes : (formula : Formula) (budget events : ℕ) (s t : State) → After formula budget events s → Goes formula budget s t → EachFollows formula.clauses s.steps → EachFollows formula.clauses t.steps
each-goes formula budget events s t after (Propagates id l least next) each = subst (λ (u : State). EachFollows formula.clauses u.steps) (sym next) each
each-goes formula budget events s t after (Decides var quiet first next) each = subst (λ (u : State). EachFollows formula.clauses u.steps) (sym next) each
each-goes formula budget events s t after (Learns id step conflict within some next) each =
    subst (λ (u : State). EachFollows formula.clauses u.steps) (sym next)
    (each-pushed formula.clauses s.steps step each (conflict-follows formula budget events s id step after conflict))

pub each-after : (formula : Formula) (budget events : ℕ) (s : State) → After formula budget events s → EachFollows formula.clauses s.steps
each-after formula budget zero s is = subst (λ (u : State). EachFollows formula.clauses u.steps) (sym is) (λ k step at. absurd (none step at)) where
  none : (x : Step) → None ≡ Some x → ⊥
  none x e = cc
each-after formula budget (suc events) s (before, after, goes) =
    each-goes formula budget events before s after goes (each-after formula budget events before after)

pub each-of_log : (formula : Formula) (budget count : ℕ) (log : StepList) → IsSearch formula budget (Unsat log) count → EachFollows formula.clauses log.steps
each-of_log formula budget count log search_is =
    let (id, step, conflict, within, empty, is) = search_is.ends in
    subst (λ (x : StepList). EachFollows formula.clauses x.steps) (sym is)
    (each-pushed formula.clauses search_is.last.steps step (each-after formula budget search_is.events search_is.last search_is.after)
    (conflict-follows formula budget search_is.events search_is.last id step search_is.after conflict))
