-- What a step that is learned is: a step of its number, over the variables of the formula.
use Rattle.std.proofs.Common.{◌≡◌, ℕ, zero, suc, ◌+◌, ◌-◌, ◌<◌, ◌≤◌, inl, inr, Bool, true, false, ◌==◌, ap₂, List, [], ◌∷◌, ◌++◌, length, get_or, map, reverse, Option, Some, None, sym, ◌∙◌, ap, subst, arith, length-append}
use Rattle.std.specs.Prelude.{option_to_list}
use Rattle.std.proofs.lemmas.List.{length-map}
use Rattle.std.proofs.lemmas.Option.{slice_get_within}
use Rattle.bx_logic.proofs.Members.{Member, Member-append_cases}
use Rattle.bx_logic.proofs.Ordered.{Member-get_or}
use Rattle.bx_cnf.specs.Literals.{Literal}
use Rattle.bx_cnf.specs.Formulas.{Formula, IsClause}
use Rattle.bx_proof.specs.Steps.{Step, IsStep}
use Rattle.bx_watch.specs.Watching.{IsLeastActive}
use Rattle.bx_watch.specs.declared.active.Active.TheVariants.{False}
use Rattle.bx_search.specs.States.{Assigned, State, clauses_of, watch_of, current_level}
use Rattle.bx_search.specs.Learning.{variables, reason_variables, is_marked, is_replaced, keeping, replacing, treated, treated_from, IsLearned}
use Rattle.bx_search.specs.Searching.{Goes, After, IsConflict, cost, up_to, jump_level, moved_in_turn, learned}
use Rattle.bx_search.specs.Searching.Goes.{Propagates, Decides, Learns}
use Rattle.bx_search.specs.Solving.{IsReached, state_of, step_of, IsSolver, Becomes, Analyzes}
use Rattle.bx_search.specs.declared.solver.Solver.{Solver}
use Rattle.bx_search.specs.declared.analyze.Analysis.{Analysis}
use Rattle.bx_search.proofs.Kept.{by_treatment}
use Rattle.bx_search.proofs.Backed.{IsBacked, AreBacked}
use Rattle.bx_search.proofs.Following.{backed-after}
use Rattle.bx_search.proofs.Accepting.{learned-within, within-after}

-- each reason is the number of a clause
reasons-within : (clauses : List (List Literal)) (current : ℕ) (marked : List ℕ) (trail : List Assigned) (h : ℕ) → AreBacked clauses trail
    → Member h (treated clauses current marked trail).reasons → (0 < h) × (h ≤ length clauses)
reasons-within clauses current marked [] h backed = λ m. absurd m
reasons-within clauses current marked (a ∷ before) h backed =
    by_treatment (λ t. Member h t.reasons → (0 < h) × (h ≤ length clauses)) (is_marked marked a) (is_replaced current marked before a)
    (replacing a (treated clauses current (marked ++ reason_variables clauses a.reason) before)) (keeping a (treated clauses current marked before)) (treated clauses current marked before)
    (λ m r on. elim (Member-append_cases h (treated clauses current (marked ++ reason_variables clauses a.reason) before).reasons (option_to_list a.reason) on) [
      | inl rest ↦ reasons-within clauses current (marked ++ reason_variables clauses a.reason) before h backed.2 rest
      | inr own ↦ reason a.reason backed.0 own
    ])
    (λ m r on. reasons-within clauses current marked before h backed.2 on)
    (λ m on. reasons-within clauses current marked before h backed.2 on)
  where
    reason : (r : Option ℕ) → IsBacked clauses before a.literal a.level r → Member h (option_to_list r) → (0 < h) × (h ≤ length clauses)
    reason None is on = absurd on
    reason (Some id) is (inl e) =
        let within = slice_get_within clauses (id - 1) is.clause is.stands in
        subst (λ n. (0 < n) × (n ≤ length clauses)) e (is.above, omega (arith, within, is.above))
    reason (Some id) is (inr none) = absurd none

-- a step has a hint
pub hinted : (clauses : List (List Literal)) (trail : List Assigned) (id : ℕ) (step : Step) → IsLearned clauses trail id step → 0 < length step.hints
hinted clauses trail id step learns = omega (arith, ap (λ (hs : List ℕ). length hs) learns.hints, length-append (treated_from clauses trail id).reasons (id ∷ []))

-- what was spent is within the budget, and each step cost something
abbrev IsBounded : ℕ → State → Type 0
IsBounded budget s = (length s.steps ≤ s.spent) × (s.spent ≤ budget)

bounded-goes : (formula : Formula) (budget : ℕ) (s t : State) → Goes formula budget s t → IsBounded budget s → IsBounded budget t
bounded-goes formula budget s t (Propagates id l least next) is = subst (IsBounded budget) (sym next) is
bounded-goes formula budget s t (Decides var quiet first next) is = subst (IsBounded budget) (sym next) is
bounded-goes formula budget s t (Learns id step conflict within some next) is =
    subst (IsBounded budget) (sym next)
    (omega (arith, is.0, length-append s.steps (step ∷ []), hinted (clauses_of formula s) s.trail id step conflict.learned), within)

pub bounded-after : (formula : Formula) (budget events : ℕ) (s : State) → After formula budget events s → IsBounded budget s
bounded-after formula budget zero s is = subst (IsBounded budget) (sym is) (omega arith, omega arith)
bounded-after formula budget (suc events) s (before, after, goes) = bounded-goes formula budget before s goes (bounded-after formula budget events before after)

pub is-bounded : (formula : Formula) (budget : ℕ) (s : State) → IsReached formula budget s → (length s.steps ≤ s.spent) × (s.spent ≤ budget)
is-bounded formula budget s (events, after) = bounded-after formula budget events s after

-- a solver in a conflict, with the step that is learned from it
pub record IsAnalyzed (s : Solver) (budget id : ℕ) : Type 0 where
  pub agrees : IsSolver s
  pub reached : IsReached s.clauses.now budget (state_of s)
  pub conflict : IsConflict s.clauses.now (state_of s) id (step_of s)

pub analyzed : (old new : Solver) (budget id : ℕ) → IsReached old.clauses.now budget (state_of old) → IsLeastActive (watch_of old.clauses.now (state_of old)) (False id) → Analyzes old new id
    → IsAnalyzed new budget id
analyzed old new budget id reached fails is = record {
  agrees = is.becomes.agrees;
  reached = subst (λ (f : Formula). IsReached f budget (state_of new)) (sym is.becomes.formula) (subst (IsReached old.clauses.now budget) (sym is.becomes.state) reached);
  conflict = subst (λ (f : Formula). IsConflict f (state_of new) id (step_of new)) (sym is.becomes.formula)
      (subst (λ (t : State). IsConflict old.clauses.now t id (step_of new)) (sym is.becomes.state) (record { least = fails; learned = is.learned }));
}

pub analyzed-clause : (s : Solver) (budget id : ℕ) → IsAnalyzed s budget id → IsClause s.clauses.now.vars s.analysis.literals.items
analyzed-clause s budget id is = record {
  ascending = is.conflict.learned.ascending;
  within = λ k d below. learned-within (clauses_of s.clauses.now (state_of s)) s.clauses.now.vars s.trail.entries id (step_of s) is.conflict.learned
      (within-after s.clauses.now budget is.reached.0 (state_of s) is.agrees.formed is.reached.1).trail
      (get_or s.analysis.literals.items k d) (Member-get_or s.analysis.literals.items k d below);
}

pub clauses-count : (formula : Formula) (s : State) → length (clauses_of formula s) ≡ length formula.clauses + length s.steps
clauses-count formula s = length-append formula.clauses (map (λ (x : Step). x.literals) s.steps) ∙ ap (λ n. length formula.clauses + n) (length-map s.steps (λ (x : Step). x.literals))

pub analyzed-step : (s : Solver) (budget id : ℕ) → IsAnalyzed s budget id → length s.clauses.now.clauses + budget ≤ 4294967295 → s.spent + cost (step_of s) ≤ budget
    → IsStep (s.steps.first + length s.steps.steps) (step_of s)
analyzed-step s budget id is room within =
    let clauses : List (List Literal) = clauses_of s.clauses.now (state_of s) in
    let bounded = is-bounded s.clauses.now budget (state_of s) is.reached in
    let some : 0 < length s.analysis.hints.items = hinted clauses s.trail.entries id (step_of s) is.conflict.learned in
    let first : s.steps.first ≡ length s.clauses.now.clauses + 1 = is.agrees.numbered (omega (arith, room, within, some)) in
    let count = clauses-count s.clauses.now (state_of s) in
    let clause = analyzed-clause s budget id is in
    record {
      numbered = omega (arith, first, bounded.0, within, some, room);
      clause = record { ascending = clause.ascending; within = λ k d below. omega (arith, clause.within k d below, is.agrees.formed.vars) };
      hinted = some;
      before = λ k d below. named first count (get_or s.analysis.hints.items k d) (Member-get_or s.analysis.hints.items k d below);
    } where
      named : s.steps.first ≡ length s.clauses.now.clauses + 1 → length (clauses_of s.clauses.now (state_of s)) ≡ length s.clauses.now.clauses + length s.steps.steps
          → (h : ℕ) → Member h s.analysis.hints.items → (0 < h) × (h < s.steps.first + length s.steps.steps)
      named first count h on =
          let clauses : List (List Literal) = clauses_of s.clauses.now (state_of s) in
          elim (Member-append_cases h (treated_from clauses s.trail.entries id).reasons (id ∷ []) (subst (Member h) is.conflict.learned.hints on)) [
            | inl reason ↦ (
                let backed = backed-after s.clauses.now budget is.reached.0 (state_of s) is.reached.1 in
                let w = reasons-within clauses (current_level s.trail.entries) (variables clauses id) (reverse s.trail.entries) h backed reason in
                (w.0, omega (arith, w.1, first, count))
                )
            | inr last ↦ elim last [
              | inl e ↦ (
                  let w = slice_get_within clauses (id - 1) is.conflict.least.clause is.conflict.least.stands in
                  subst (λ n. (0 < n) × (n < s.steps.first + length s.steps.steps)) e (is.conflict.least.above, omega (arith, w, is.conflict.least.above, first, count))
                  )
              | inr none ↦ absurd none
            ]
          ]

pub analyzed-room : (s : Solver) (budget id : ℕ) → IsAnalyzed s budget id → length s.clauses.now.clauses + budget ≤ 4294967295 → s.spent + cost (step_of s) ≤ budget
    → length (clauses_of s.clauses.now (state_of s)) < 4294967295
analyzed-room s budget id is room within =
    let bounded = is-bounded s.clauses.now budget (state_of s) is.reached in
    let some : 0 < length s.analysis.hints.items = hinted (clauses_of s.clauses.now (state_of s)) s.trail.entries id (step_of s) is.conflict.learned in
    omega (arith, clauses-count s.clauses.now (state_of s), bounded.0, within, some, room)

-- where a step was added its number is one behind those of the formula
pub numbered-steps : (s : Solver) (budget : ℕ) → IsSolver s → IsReached s.clauses.now budget (state_of s) → length s.clauses.now.clauses + budget ≤ 4294967295 → 0 < length s.steps.steps
    → s.steps.first ≡ length s.clauses.now.clauses + 1
numbered-steps s budget is reached room some =
    let bounded = is-bounded s.clauses.now budget (state_of s) reached in is.numbered (omega (arith, bounded.0, bounded.1, room, some))

-- the three steps of learning make one
pub learned-becomes : (old new added gone : Solver) (id : ℕ) → Analyzes old new id
    → Becomes new added (record (state_of new) { steps = new.steps.steps ++ step_of new ∷ []; spent = new.spent + cost (step_of new) })
    → added.analysis ≡ new.analysis
    → Becomes added gone (record (state_of added) {
      trail = up_to (jump_level (length added.steps.steps) added.analysis.levels.items) added.trail.entries;
      queue = moved_in_turn added.analysis.literals.items added.queue.order;
    })
    → Becomes old gone (learned old.clauses.now (state_of old) id (step_of new))
learned-becomes old new added gone id is adds kept goes = record {
  agrees = goes.agrees;
  formula = goes.formula ∙ adds.formula ∙ is.becomes.formula;
  state = goes.state
      ∙ ap₂ (λ (s : State) (a : Analysis). record s { trail = up_to (jump_level (length s.steps) a.levels.items) s.trail; queue = moved_in_turn a.literals.items s.queue }) adds.state kept
      ∙ ap (λ (s : State). record s {
        trail = up_to (jump_level (length (s.steps ++ step_of new ∷ [])) new.analysis.levels.items) s.trail;
        queue = moved_in_turn new.analysis.literals.items s.queue;
        steps = s.steps ++ step_of new ∷ [];
        spent = s.spent + cost (step_of new);
      }) is.becomes.state
      ∙ ap₂ (λ (n : ℕ) (levels : List ℕ). record (state_of old) {
        trail = up_to (jump_level n levels) old.trail.entries;
        queue = moved_in_turn new.analysis.literals.items old.queue.order;
        steps = old.steps.steps ++ step_of new ∷ [];
        spent = old.spent + cost (step_of new);
      }) (length-append old.steps.steps (step_of new ∷ [])) is.levels;
}

pub filled : (b : Bool) (xs : List Literal) → b ≡ (length xs == 0) → b ≡ false → xs ≡ [] → ⊥
filled b xs is other none = false-true (sym other ∙ is ∙ ap (λ (ys : List Literal). length ys == 0) none) where
  false-true : false ≡ true → ⊥
  false-true e = cc
