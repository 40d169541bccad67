-- The parts of a solver agree after a literal is assigned, and after one is freed.
use Rattle.std.proofs.Common.{◌≡◌, ◌≢◌, ℕ, suc, ◌+◌, ◌-◌, ◌<◌, inl, inr, Bool, true, false, not, ◌==◌, ◌||◌, cond, List, [], ◌∷◌, ◌++◌, length, get_or, set, take, find, Option, Some, Result, Ok, Err, refl, sym, ◌∙◌, ap, ap₂, subst, arith, length-append, length-set}
use Rattle.std.specs.Prelude.{All, Contains, IfSome, OnOk, count_by}
use Rattle.std.proofs.lemmas.Bool.{cases_eq, eq-eqb, ne_eqb, not-true}
use Rattle.std.proofs.lemmas.Option.{get_or_from_slice_get, slice_get_within}
use Rattle.std.proofs.lemmas.List.{get_or-set_same, get_or-set_other, get_or_push, get_or_default, take-append-le, take_all}
use Rattle.std.proofs.lemmas.List.Elements.{All-contains, Contains-push}
use Rattle.std.proofs.lemmas.List.Folds.{list_any-append}
use Rattle.std.proofs.lemmas.List.Sums.{sum_by-set}
use Rattle.bx_logic.proofs.Members.{Member, Member-map_cases, Member-from_contains, Contains-from_member}
use Rattle.bx_cnf.specs.Literals.{Literal, negated}
use Rattle.bx_cnf.specs.Formulas.{Formula, IsClause, IsFormula}
use Rattle.bx_cnf.specs.Assignments.{IsFree}
use Rattle.bx_proof.specs.Steps.{StepList}
use Rattle.bx_queue.specs.Queue.{Queue, IsQueue, IsVariable, is_taken}
use Rattle.bx_queue.specs.Queue as queue
use Rattle.bx_queue.proofs.Orders.{IsQueue-marks, find-some}
use Rattle.bx_watch.specs.Watching.{Watch, IsWatch, IsOver, AreApart, Frees, IsLeastActive}
use Rattle.bx_watch.specs.declared.active.Active.TheVariants.{Unit}
use Rattle.bx_watch.proofs.ClauseReads.{literal-over}
use Rattle.bx_watch.proofs.Trails.{fresh, take-front}
use Rattle.bx_search.specs.States.{Assigned, State, literals_of, watch_of, is_assigned, first_free}
use Rattle.bx_search.specs.Trails.{Assignment, IsAssignment}
use Rattle.bx_search.specs.Marks.{unmarked as no_marks}
use Rattle.bx_search.specs.Solving.{state_of, AreTaken, IsSolver, Becomes}
use Rattle.bx_search.specs.declared.solver.Solver.{Solver}
use Rattle.bx_search.proofs.Trails.{literals-push, literal-on, entry-new}
use Rattle.bx_search.specs.Searching.{moved_in_turn}
use Rattle.bx_search.proofs.Queues.{queue-moved}
use Rattle.bx_search.proofs.Following.{unassigned}

-- ---- free variables

none-assigned : (trail : List Assigned) (var : ℕ) → ((b : Assigned) → Contains trail b → b.literal.var ≢ var) → is_assigned trail var ≡ false
none-assigned [] var none = refl
none-assigned (a ∷ trail) var none =
    rw (ne_eqb a.literal.var var (none a (0, omega arith, refl))) (none-assigned trail var (λ b (k, below, is). none b (suc k, omega (arith, below), is)))

pub free-unassigned : (trail : List Assigned) (l : Literal) → IsFree (literals_of trail) l → is_assigned trail l.var ≡ false
free-unassigned trail l free = none-assigned trail l.var (λ b has. fresh (literals_of trail) l b.literal free (literal-on trail b has))

pub unassigned-free : (trail : List Assigned) (l : Literal) → is_assigned trail l.var ≡ false → IsFree (literals_of trail) l
unassigned-free trail l none = (apart l refl, apart (negated l) refl) where
  apart : (m : Literal) → m.var ≡ l.var → Contains (literals_of trail) m → ⊥
  apart m same has =
      let (b, on, is) = Member-map_cases (λ (z : Assigned). z.literal) m trail (Member-from_contains m (literals_of trail) has) in
      unassigned trail l.var b none on (ap (λ (z : Literal). z.var) is ∙ same)

-- a literal more is assigned
assigned-push : (trail : List Assigned) (a : Assigned) (v : ℕ) → is_assigned (trail ++ a ∷ []) v ≡ (is_assigned trail v || (a.literal.var == v))
assigned-push trail a v = list_any-append (λ (b : Assigned). b.literal.var == v) trail (a ∷ []) ∙ ap (λ b. is_assigned trail v || b) (or-none (a.literal.var == v)) where
  or-none : (b : Bool) → (b || false) ≡ b
  or-none true = refl
  or-none false = refl

or-true : (b : Bool) → (b || true) ≡ true
or-true true = refl
or-true false = refl

or-none : (b : Bool) → (b || false) ≡ b
or-none true = refl
or-none false = refl

-- marks that are set and reset
abbrev unset : Bool → ℕ
unset b = cond (not b) 1 0

count-taken : (taken : List Bool) (i : ℕ) → i < length taken → get_or taken i false ≡ false → count_by not (set taken i true) + 1 ≡ count_by not taken
count-taken taken i below free = omega (arith, sum_by-set unset taken i true false below, ap unset free)

count-freed : (taken : List Bool) (i : ℕ) → i < length taken → get_or taken i false ≡ true → count_by not (set taken i false) ≡ count_by not taken + 1
count-freed taken i below held = omega (arith, sum_by-set unset taken i false false below, ap unset held)

-- a mark that isn't set is counted
count-free : (taken : List Bool) (i : ℕ) → i < length taken → get_or taken i false ≡ false → 0 < count_by not taken
count-free taken i below free = omega (arith, count-taken taken i below free)

pub taken-push : (vars : ℕ) (taken : List Bool) (trail : List Assigned) (a : Assigned) → AreTaken vars taken trail → IsVariable vars a.literal.var → is_assigned trail a.literal.var ≡ false
    → AreTaken vars (set taken (a.literal.var - 1) true) (trail ++ a ∷ [])
taken-push vars taken trail a are variable free =
    let i : ℕ = a.literal.var - 1 in
    let within : i < length taken = omega (arith, are.each_has, variable.0, variable.1) in
    let none : get_or taken i false ≡ false = are.same a.literal.var variable ∙ free in
    record {
      each_has = length-set taken i true ∙ are.each_has;
      same = λ v is. elim (cases_eq a.literal.var v) [
        | inl e ↦
            subst (λ n. get_or (set taken i true) (n - 1) false ≡ true) e (get_or-set_same taken i true false within)
            ∙ sym (assigned-push trail a v ∙ rw (eq-eqb a.literal.var v e) (or-true (is_assigned trail v)))
        | inr other ↦
            get_or-set_other taken i (v - 1) true false (λ e. other (omega (arith, variable.0, is.0, e)))
            ∙ (are.same v is ∙ sym (assigned-push trail a v ∙ rw (ne_eqb a.literal.var v other) (or-none (is_assigned trail v))))
      ];
      count = omega (arith, are.count, count-taken taken i within none, length-append trail (a ∷ []));
    }

-- there is room for a variable that is free
pub taken-room : (vars : ℕ) (taken : List Bool) (trail : List Assigned) (v : ℕ) → AreTaken vars taken trail → IsVariable vars v → is_assigned trail v ≡ false → length trail < vars
taken-room vars taken trail v are variable free =
    omega (arith, are.count, count-free taken (v - 1) (omega (arith, are.each_has, variable.0, variable.1)) (are.same v variable ∙ free))

-- ---- the queue

pub clause-variables : (vars : ℕ) (ls : List Literal) → IsClause vars ls → All (λ l. IsVariable vars l.var) ls
clause-variables vars ls clause k d below =
    let over = literal-over vars ls k (get_or ls k d) clause below (get_or_default ls k d (get_or ls k d) below) in (omega (arith, over.0), over.1)

find-same : (f g : ℕ → Bool) (xs : List ℕ) → ((v : ℕ) → Member v xs → f v ≡ g v) → find f xs ≡ find g xs
find-same f g [] same = refl
find-same f g (x ∷ xs) same = rw (same x (inl refl)) (ap (λ o. cond (g x) (Some x) o) (find-same f g xs (λ v h. same v (inr h))))

pub first-same : (s : Solver) → IsSolver s → first_free (state_of s) ≡ queue.first_free s.queue
first-same s is = find-same (λ v. not (is_assigned s.trail.entries v)) (λ v. not (is_taken s.queue v)) s.queue.order
    (λ v h. ap not (sym (is.takes.same v (subst (λ n. IsVariable n v) is.takes.each_has (is.ordered.within v (Contains-from_member v s.queue.order h))))))

-- the first free variable is one, and is free
pub first-free : (s : Solver) (v : ℕ) → IsSolver s → first_free (state_of s) ≡ Some v → IsVariable s.clauses.now.vars v × (is_assigned s.trail.entries v ≡ false)
first-free s v is first =
    let found : IfSome (Some v) (λ u. Contains s.queue.order u × (not (is_assigned s.trail.entries u) ≡ true)) =
    subst (λ (o : Option ℕ). IfSome o (λ u. Contains s.queue.order u × (not (is_assigned s.trail.entries u) ≡ true))) first (find-some (λ u. not (is_assigned s.trail.entries u)) s.queue.order) in
    (subst (λ n. IsVariable n v) is.takes.each_has (is.ordered.within v found.0), not-true (is_assigned s.trail.entries v) found.1)

-- ---- the literal of a unit clause

pub unit-over : (w : Watch) (id : ℕ) (l : Literal) → IsWatch w → IsLeastActive w (Unit id l) → IsOver w.vars l
unit-over w id l formed least =
    let clause = least.clause in
    let place = least.is_so.0.place in
    let among : Contains w.clauses clause = (id - 1, slice_get_within w.clauses (id - 1) clause least.stands, get_or_from_slice_get w.clauses (id - 1) clause clause least.stands) in
    literal-over w.vars clause place l (All-contains (IsClause w.vars) w.clauses clause formed.formula.each among)
    (slice_get_within clause place l least.is_so.0.stands) (sym (get_or_from_slice_get clause place l l least.is_so.0.stands))

-- ---- a literal is assigned

-- what is assigned has changed, and phases with it, and the parts agree still
pub resized : (old new : Solver) (entries : List Assigned) (taken : List Bool) (phases : List Bool) → IsSolver old → AreTaken old.clauses.now.vars taken entries
    → new.clauses.now ≡ old.clauses.now
    → new.watched ≡ record old.watched { trail = literals_of entries }
    → new.queue ≡ record old.queue { taken = taken }
    → new.trail ≡ record old.trail { entries = entries }
    → new.phases.items ≡ phases → length phases ≡ length old.phases.items
    → new.steps ≡ old.steps
    → new.spent ≡ old.spent
    → new.analysis.marks ≡ old.analysis.marks
    → Becomes old new (record (state_of old) { trail = entries; phases = phases })
resized old new entries taken phases is are formula watched queued trail phased same steps spent marks = record {
  agrees = record {
    formed = subst IsFormula (sym formula) is.formed;
    watches = watched ∙ ap (λ (w : Watch). record w { trail = literals_of entries }) is.watches
        ∙ sym (ap (λ (f : Formula). watch_of f (state_of new)) formula
        ∙ ap₂ (λ (log : StepList) (t : Assignment). watch_of old.clauses.now (record (state_of old) { trail = t.entries; steps = log.steps })) steps trail);
    vars = ap (λ (t : Assignment). t.vars) trail ∙ is.vars ∙ sym (ap (λ (f : Formula). f.vars) formula);
    ordered = subst IsQueue (sym queued) (IsQueue-marks old.queue.order old.queue.taken taken (are.each_has ∙ sym is.takes.each_has) is.ordered);
    takes = subst (λ (f : Formula). AreTaken f.vars new.queue.taken new.trail.entries) (sym formula)
        (subst (λ (q : Queue). AreTaken old.clauses.now.vars q.taken new.trail.entries) (sym queued)
        (subst (λ (t : Assignment). AreTaken old.clauses.now.vars taken t.entries) (sym trail) are));
    phased = ap (λ (ps : List Bool). length ps) phased ∙ same ∙ is.phased ∙ sym (ap (λ (f : Formula). f.vars) formula);
    numbered = subst (λ (f : Formula). length f.clauses < 4294967295 → new.steps.first ≡ length f.clauses + 1) (sym formula)
        (λ small. ap (λ (log : StepList). log.first) steps ∙ is.numbered small);
    unmarked = marks ∙ is.unmarked ∙ sym (ap (λ (f : Formula). no_marks f.vars) formula);
  };
  formula = formula;
  state = ap₂ (λ (q : Queue) (t : Assignment). record { trail = t.entries; queue = q.order; phases = new.phases.items; steps = new.steps.steps; spent = new.spent }) queued trail
      ∙ ap₂ (λ (ps : List Bool) (log : StepList). record { trail = entries; queue = old.queue.order; phases = ps; steps = log.steps; spent = new.spent }) phased steps
      ∙ ap (λ n. record { trail = entries; queue = old.queue.order; phases = phases; steps = old.steps.steps; spent = n }) spent;
}

pub assigns : (old new : Solver) (a : Assigned) (phases : List Bool) → IsSolver old → IsVariable old.clauses.now.vars a.literal.var → is_assigned old.trail.entries a.literal.var ≡ false
    → new.clauses.now ≡ old.clauses.now
    → new.watched ≡ record old.watched { trail = old.watched.trail ++ a.literal ∷ [] }
    → new.queue ≡ record old.queue { taken = set old.queue.taken (a.literal.var - 1) true }
    → new.trail ≡ record old.trail { entries = old.trail.entries ++ a ∷ [] }
    → new.phases.items ≡ phases → length phases ≡ length old.phases.items
    → new.steps ≡ old.steps
    → new.spent ≡ old.spent
    → new.analysis.marks ≡ old.analysis.marks
    → Becomes old new (record (state_of old) { trail = old.trail.entries ++ a ∷ []; phases = phases })
assigns old new a phases is variable free formula watched =
    let longer : old.watched.trail ++ a.literal ∷ [] ≡ literals_of (old.trail.entries ++ a ∷ []) =
    ap (λ (w : Watch). w.trail ++ a.literal ∷ []) is.watches ∙ sym (literals-push old.trail.entries a) in
    resized old new (old.trail.entries ++ a ∷ []) (set old.queue.taken (a.literal.var - 1) true) phases is
    (taken-push old.clauses.now.vars old.queue.taken old.trail.entries a is.takes variable free) formula
    (watched ∙ ap (λ (t : List Literal). record old.watched { trail = t }) longer)

-- ---- the last literal is freed

pub last-over : (vars : ℕ) (entries front : List Assigned) (last : Assigned) → All (IsOver vars) (literals_of entries) → entries ≡ front ++ last ∷ [] → IsOver vars last.literal
last-over vars entries front last over split =
    All-contains (IsOver vars) (literals_of entries) last.literal over (literal-on entries last (subst (λ (es : List Assigned). Contains es last) (sym split) (Contains-push front last)))

pub last-assigned : (entries front : List Assigned) (last : Assigned) → entries ≡ front ++ last ∷ [] → is_assigned entries last.literal.var ≡ true
last-assigned entries front last split =
    ap (λ es. is_assigned es last.literal.var) split ∙ assigned-push front last last.literal.var ∙ rw (eq-eqb last.literal.var last.literal.var refl) (or-true (is_assigned front last.literal.var))

last-new : (front : List Assigned) (last : Assigned) → AreApart (literals_of (front ++ last ∷ [])) → is_assigned front last.literal.var ≡ false
last-new front last apart = none-assigned front last.literal.var
    (λ b has. entry-new (front ++ last ∷ []) (length front) last apart (omega (arith, length-append front (last ∷ []))) (sym (get_or_push front last last (length front) refl)) b
    (subst (λ (es : List Assigned). Contains es b) (sym (take-append-le (length front) front (last ∷ []) (omega arith) ∙ take_all (length front) front (omega arith))) has))

taken-pop : (vars : ℕ) (taken : List Bool) (front : List Assigned) (last : Assigned) → AreTaken vars taken (front ++ last ∷ []) → IsVariable vars last.literal.var → is_assigned front last.literal.var ≡ false
    → AreTaken vars (set taken (last.literal.var - 1) false) front
taken-pop vars taken front last are variable free =
    let i : ℕ = last.literal.var - 1 in
    let within : i < length taken = omega (arith, are.each_has, variable.0, variable.1) in
    let held : get_or taken i false ≡ true = are.same last.literal.var variable ∙ last-assigned (front ++ last ∷ []) front last refl in
    record {
      each_has = length-set taken i false ∙ are.each_has;
      same = λ v is. elim (cases_eq last.literal.var v) [
        | inl e ↦
            subst (λ n. get_or (set taken i false) (n - 1) false ≡ false) e (get_or-set_same taken i false false within)
            ∙ sym (subst (λ n. is_assigned front n ≡ false) e free)
        | inr other ↦
            get_or-set_other taken i (v - 1) false false (λ e. other (omega (arith, variable.0, is.0, e)))
            ∙ (are.same v is ∙ (assigned-push front last v ∙ rw (ne_eqb last.literal.var v other) (or-none (is_assigned front v))))
      ];
      count = omega (arith, are.count, count-freed taken i within held, length-append front (last ∷ []));
    }

-- two lists with an item behind each are one, and so are the lists
push-same : (xs ys : List Literal) (x y : Literal) → xs ++ x ∷ [] ≡ ys ++ y ∷ [] → xs ≡ ys
push-same xs ys x y e = sym (take-front xs x) ∙ (ap (λ (zs : List Literal). take (length zs - 1) zs) e ∙ take-front ys y)

pub frees : (old new : Solver) (front : List Assigned) (last : Assigned) → IsSolver old → IsAssignment old.trail → old.trail.entries ≡ front ++ last ∷ []
    → new.clauses.now ≡ old.clauses.now
    → Frees old.watched new.watched last.literal.var
    → new.queue ≡ record old.queue { taken = set old.queue.taken (last.literal.var - 1) false }
    → new.trail ≡ record old.trail { entries = front }
    → new.phases.items ≡ old.phases.items
    → new.steps ≡ old.steps
    → new.spent ≡ old.spent
    → new.analysis.marks ≡ old.analysis.marks
    → Becomes old new (record (state_of old) { trail = front })
frees old new front last is formed split formula freed queued trail phased =
    let over : IsOver old.trail.vars last.literal = last-over old.trail.vars old.trail.entries front last formed.over split in
    let variable : IsVariable old.clauses.now.vars last.literal.var = (omega (arith, over.0), omega (arith, over.1, is.vars)) in
    let free : is_assigned front last.literal.var ≡ false = last-new front last (subst (λ (es : List Assigned). AreApart (literals_of es)) split formed.apart) in
    let whole : old.watched.trail ≡ literals_of front ++ last.literal ∷ [] =
    ap (λ (w : Watch). w.trail) is.watches ∙ (ap literals_of split ∙ literals-push front last) in
    let shorter : new.watched.trail ≡ literals_of front = push-same new.watched.trail (literals_of front) _ last.literal (sym freed.split ∙ whole) in
    resized old new front (set old.queue.taken (last.literal.var - 1) false) old.phases.items is
    (taken-pop old.clauses.now.vars old.queue.taken front last (subst (AreTaken old.clauses.now.vars old.queue.taken) split is.takes) variable free) formula
    (freed.kept ∙ ap (λ (t : List Literal). record old.watched { trail = t }) shorter) queued trail phased refl

pub on-ok : {T E P Q : Type 0} (r : Result T E) → OnOk r P → (P → Q) → OnOk r Q
on-ok (Ok x) p f = f p
on-ok (Err e) p f = tt

pub itself : (s : Solver) → IsSolver s → Becomes s s (state_of s)
itself s is = record { agrees = is; formula = refl; state = refl }

-- one state after the other
pub then-becomes : (a b d : Solver) (s t : State) → Becomes a b s → Becomes b d t → Becomes a d t
then-becomes a b d s t one other = record { agrees = other.agrees; formula = other.formula ∙ one.formula; state = other.state }

pub becomes-is : (a b : Solver) (s t : State) → Becomes a b s → s ≡ t → Becomes a b t
becomes-is a b s t one e = record { agrees = one.agrees; formula = one.formula; state = one.state ∙ e }

-- another order of the queue
pub reordered : (s : Solver) (ls : List Literal) (q : Queue) → IsSolver s → IsClause s.clauses.now.vars ls → q ≡ record s.queue { order = moved_in_turn ls s.queue.order } → IsSolver (record s { queue = q })
reordered s ls q is clause e = subst (λ (r : Queue). IsSolver (record s { queue = r })) (sym e) (record {
  formed = is.formed;
  watches = is.watches;
  vars = is.vars;
  ordered = queue-moved ls s.queue.order s.queue.taken (λ l h. variables l h) is.ordered;
  takes = is.takes;
  phased = is.phased;
  numbered = is.numbered;
  unmarked = is.unmarked;
}) where
  variables : (l : Literal) → Member l ls → IsVariable (length s.queue.taken) l.var
  variables l h =
      let v = All-contains (λ (m : Literal). IsVariable s.clauses.now.vars m.var) ls l (clause-variables s.clauses.now.vars ls clause) (Contains-from_member l ls h) in
      subst (λ n. IsVariable n l.var) (sym is.takes.each_has) v
