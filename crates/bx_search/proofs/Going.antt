-- What a solver does between two conflicts and at one, as events of the search.
use Rattle.std.proofs.Common.{◌≡◌, ℕ, Bool, zero, suc, ◌+◌, ◌-◌, ◌<◌, ◌≤◌, inl, inr, List, [], ◌∷◌, ◌++◌, length, Some, None, Result, Ok, Err, refl, sym, ◌∙◌, ap, subst, arith, length-append}
use Rattle.std.specs.Prelude.{IfOk}
use Rattle.std.proofs.lemmas.Bool.{cases_order}
use Rattle.bx_cnf.specs.Formulas.{Formula, IsFormula}
use Rattle.bx_proof.specs.Steps.{Step, StepList}
use Rattle.bx_watch.specs.Watching.{IsLeastActive}
use Rattle.bx_watch.specs.declared.active.Active.TheVariants.{False}
use Rattle.bx_search.specs.States.{State, start, clauses_of, watch_of, first_free}
use Rattle.bx_search.specs.Searching.{Goes, After, Ends, IsConflict, IsQuiet, IsSearch, cost}
use Rattle.bx_search.specs.Searching.Goes.{Propagates, Decides, Learns}
use Rattle.bx_search.specs.Solving.{IsReached, state_of, IsSolver, Becomes, GoesTo, LearnsTo, Moves, Finds, EndsSo, TurnsTo, IsAnswer}
use Rattle.bx_search.specs.declared.outcome.Outcome.{Outcome}
use Rattle.bx_search.specs.declared.outcome.Outcome.TheVariants.{Sat, Unsat, Stopped}
use Rattle.bx_search.specs.declared.solver.Solver.{Solver}
use Rattle.bx_search.specs.declared.solver.Next.TheVariants.{Assigned as Grows, Conflict, Complete}
use Rattle.bx_search.specs.declared.learn.Learned.TheVariants.{Beyond, Empty, Clause}
use Rattle.bx_search.specs.declared.search.Turn.TheVariants.{Learned as More, Complete as Whole, Beyond as Over, Empty as None_left}
use Rattle.bx_search.proofs.OneEnd.{one-after, no-later}
use Rattle.bx_search.proofs.Learned.{hinted}
use Rattle.bx_search.proofs.Accepting.{log-accepted}
use Rattle.bx_search.proofs.Values.{search-solves}

-- ---- between two conflicts

pub moves-itself : (s : Solver) → IsSolver s → Moves s s
moves-itself s is = record { agrees = is; formula = refl; steps = refl; spent = refl; reached = λ budget r. r }

pub moves-more : (a b d : Solver) → Moves a b → GoesTo b d Grows → Moves a d
moves-more a b d m (s, becomes, steps, spent, longer, goes) = record {
  agrees = becomes.agrees;
  formula = becomes.formula ∙ m.formula;
  steps = ap (λ (t : State). t.steps) becomes.state ∙ steps ∙ m.steps;
  spent = ap (λ (t : State). t.spent) becomes.state ∙ spent ∙ m.spent;
  reached = λ budget r. let (events, after) = m.reached budget r in
      subst (IsReached a.clauses.now budget) (sym becomes.state) (suc events, (state_of b, after, subst (λ (f : Formula). Goes f budget (state_of b) s) m.formula (goes budget)));
}

pub moves-smaller : (b d : Solver) → GoesTo b d Grows → d.clauses.now.vars - length d.trail.entries < b.clauses.now.vars - length b.trail.entries
moves-smaller b d (s, becomes, steps, spent, longer, goes) =
    omega (arith, becomes.agrees.takes.count, ap (λ (f : Formula). f.vars) becomes.formula, longer, ap (λ (t : State). length t.trail) becomes.state)

moves-still : (a b d : Solver) → Moves a b → Becomes b d (state_of b) → Moves a d
moves-still a b d m becomes = record {
  agrees = becomes.agrees;
  formula = becomes.formula ∙ m.formula;
  steps = ap (λ (t : State). t.steps) becomes.state ∙ m.steps;
  spent = ap (λ (t : State). t.spent) becomes.state ∙ m.spent;
  reached = λ budget r. subst (IsReached a.clauses.now budget) (sym becomes.state) (m.reached budget r);
}

pub moves-conflict : (a b d : Solver) (id : ℕ) → Moves a b → GoesTo b d (Conflict id) → Moves a d
moves-conflict a b d id m (becomes, least) = moves-still a b d m becomes

pub moves-complete : (a b d : Solver) → Moves a b → GoesTo b d Complete → Moves a d
moves-complete a b d m (becomes, quiet, first) = moves-still a b d m becomes

pub finds-conflict : (b d : Solver) (id : ℕ) → GoesTo b d (Conflict id) → Finds d (Some id)
finds-conflict b d id (becomes, least) =
    subst (λ (f : Formula). IsLeastActive (watch_of f (state_of d)) (False id)) (sym becomes.formula)
    (subst (λ (s : State). IsLeastActive (watch_of b.clauses.now s) (False id)) (sym becomes.state) least)

pub finds-complete : (b d : Solver) → GoesTo b d Complete → Finds d None
finds-complete b d (becomes, quiet, first) = (
  subst (λ (f : Formula). IsQuiet f (state_of d)) (sym becomes.formula) (subst (IsQuiet b.clauses.now) (sym becomes.state) quiet),
  subst (λ (s : State). first_free s ≡ None) (sym becomes.state) first,
)

-- ---- at a conflict, and at the end

pub turns-complete : (old new : Solver) (budget : ℕ) → IsReached old.clauses.now budget (state_of old) → Moves old new → Finds new None → TurnsTo budget old new Whole
turns-complete old new budget reached m (quiet, first) = (
  m.agrees.vars ∙ ap (λ (f : Formula). f.vars) m.formula,
  (state_of new, m.reached budget reached, (subst (λ (f : Formula). IsQuiet f (state_of new)) m.formula quiet, first, refl), ap (λ (ss : List Step). length ss) m.steps),
)

to-formula : (old mid : Solver) (id : ℕ) (step : Step) → Moves old mid → IsConflict mid.clauses.now (state_of mid) id step → IsConflict old.clauses.now (state_of mid) id step
to-formula old mid id step m conflict = subst (λ (f : Formula). IsConflict f (state_of mid) id step) m.formula conflict

pub turns-learned : (old mid new : Solver) (budget id : ℕ) → IsReached old.clauses.now budget (state_of old) → Moves old mid → LearnsTo budget id mid new Clause → TurnsTo budget old new More
turns-learned old mid new budget id reached m (step, conflict, within, some, becomes) =
    let (events, after) = m.reached budget reached in
    let next = becomes.state in
    let more : 0 < length step.hints = hinted (clauses_of mid.clauses.now (state_of mid)) mid.trail.entries id step conflict.learned in
    let spent : new.spent ≡ mid.spent + cost step = ap (λ (t : State). t.spent) becomes.state in (
      becomes.agrees,
      becomes.formula ∙ m.formula,
      subst (λ (f : Formula). IsReached f budget (state_of new)) m.formula (suc events, (state_of mid, subst (λ (f : Formula). After f budget events (state_of mid)) (sym m.formula) after, Learns id step conflict within some becomes.state)),
      omega (arith, ap (λ (t : State). length t.steps) becomes.state, length-append mid.steps.steps (step ∷ []), ap (λ (ss : List Step). length ss) m.steps),
      omega (arith, spent, more, m.spent),
      omega (arith, spent, within),
    )

pub turns-beyond : (old mid new : Solver) (budget id : ℕ) → IsReached old.clauses.now budget (state_of old) → Moves old mid → LearnsTo budget id mid new Beyond → TurnsTo budget old new Over
turns-beyond old mid new budget id reached m (becomes, (step, conflict, beyond)) = (
  state_of mid,
  m.reached budget reached,
  (id, step, to-formula old mid id step m conflict, beyond, ap (λ (t : State). t.spent) becomes.state),
  ap (λ (ss : List Step). length ss) m.steps,
)

pub turns-empty : (old mid new : Solver) (budget id : ℕ) → IsReached old.clauses.now budget (state_of old) → Moves old mid → LearnsTo budget id mid new Empty → TurnsTo budget old new None_left
turns-empty old mid new budget id reached m (step, conflict, within, empty, log) = (
  state_of mid,
  m.reached budget reached,
  (
    id,
    step,
    to-formula old mid id step m conflict,
    within,
    empty,
    log ∙ ap (λ (f : Formula). record { first = length f.clauses + 1; steps = mid.steps.steps ++ step ∷ [] }) m.formula,
  ),
  ap (λ (ss : List Step). length ss) m.steps,
)

-- ---- the whole search

pub is-search : (formula : Formula) (budget : ℕ) (old : Solver) (end : Outcome) → old.clauses.now ≡ formula → EndsSo budget old end → IsSearch formula budget end (length old.steps.steps)
is-search formula budget old end same (s, (events, after), ends, count) = record {
  events = events;
  last = s;
  after = subst (λ (f : Formula). After f budget events s) same after;
  ends = subst (λ (f : Formula). Ends f budget s end) same ends;
  count = sym count;
}

steps-goes : (formula : Formula) (budget : ℕ) (s t : State) → Goes formula budget s t → length s.steps ≤ length t.steps
steps-goes formula budget s t (Propagates id l least next) = omega (arith, ap (λ (u : State). length u.steps) next)
steps-goes formula budget s t (Decides var quiet first next) = omega (arith, ap (λ (u : State). length u.steps) next)
steps-goes formula budget s t (Learns id step conflict within some next) = omega (arith, ap (λ (u : State). length u.steps) next, length-append s.steps (step ∷ []))

-- steps are learned, and none is lost
steps-later : (formula : Formula) (budget early late : ℕ) (s t : State) → After formula budget early s → After formula budget late t → early ≤ late → length s.steps ≤ length t.steps
steps-later formula budget early zero s t a b l =
    let same : early ≡ zero = omega (arith, l) in
    omega (arith, ap (λ (u : State). length u.steps) (one-after formula budget zero s t (subst (λ k. After formula budget k s) same a) b))
steps-later formula budget early (suc late) s t a b l = elim (cases_order early (suc late)) [
  | inl same ↦ omega (arith, ap (λ (u : State). length u.steps) (one-after formula budget (suc late) s t (subst (λ k. After formula budget k s) same a) b))
  | inr (inl before) ↦ (let (q, after, went) = b in
      omega (arith, steps-later formula budget early late s q a after (omega (arith, before)), steps-goes formula budget q t went))
  | inr (inr behind) ↦ absurd (omega (arith, l, behind))
]

-- a search learns at least what was learned in a state that it reaches
pub learned-by_then : (formula : Formula) (budget n : ℕ) (s : State) (end : Outcome) → IsReached formula budget s → IsSearch formula budget end n → length s.steps ≤ n
learned-by_then formula budget n s end (events, after) is = elim (cases_order events is.events) [
  | inl same ↦ omega (arith, is.count, steps-later formula budget events is.events s is.last after is.after (omega (arith, same)))
  | inr (inl before) ↦ omega (arith, is.count, steps-later formula budget events is.events s is.last after is.after (omega (arith, before)))
  | inr (inr behind) ↦ absurd (no-later formula budget is.events events is.last s end is.after is.ends after behind)
]

-- a search that goes on, with a pulse that was asked so often
pub record IsRunning (formula : Formula) (budget : ℕ) (s : Solver) (asked_first asked stops_first stops : ℕ) : Type 0 where
  pub agrees : IsSolver s
  pub same : s.clauses.now ≡ formula
  pub reached : IsReached formula budget (state_of s)
  pub counted : asked ≡ asked_first + length s.steps.steps
  pub going : stops ≡ stops_first

pub running-first : (formula : Formula) (budget asked stops : ℕ) (s : Solver) → IsSolver s → s.clauses.now ≡ formula → state_of s ≡ start formula.vars → IsRunning formula budget s asked asked stops stops
running-first formula budget asked stops s is same state = record {
  agrees = is;
  same = same;
  reached = (zero, state);
  counted = omega (arith, ap (λ (t : State). length t.steps) state);
  going = refl;
}

pub running-on : (formula : Formula) (budget asked_first asked later stops_first stops still : ℕ) (old new : Solver) → IsRunning formula budget old asked_first asked stops_first stops
    → TurnsTo budget old new More → later ≡ asked + 1 → still ≡ stops → IsRunning formula budget new asked_first later stops_first still
running-on formula budget asked_first asked later stops_first stops still old new is (agrees, clauses, reached, more, above, within) later_is still_is = record {
  agrees = agrees;
  same = clauses ∙ is.same;
  reached = subst (λ (f : Formula). IsReached f budget (state_of new)) is.same reached;
  counted = omega (arith, later_is, is.counted, more);
  going = still_is ∙ is.going;
}

-- no more was asked than is learned
pub running-most : (formula : Formula) (budget asked_first asked stops_first stops : ℕ) (s : Solver) → IsRunning formula budget s asked_first asked stops_first stops
    → (end : Outcome) (n : ℕ) → IsSearch formula budget end n → asked ≤ asked_first + n
running-most formula budget asked_first asked stops_first stops s is end n found =
    omega (arith, is.counted, learned-by_then formula budget n (state_of s) end is.reached found)

pub answered-end : (formula : Formula) (budget : ℕ) (end : Outcome) (asked_first asked stops_first stops : ℕ) (s : Solver) → IsRunning formula budget s asked_first asked stops_first stops
    → EndsSo budget s end → IsAnswer formula budget end asked_first asked stops_first stops
answered-end formula budget end asked_first asked stops_first stops s is ends =
    let found : IsSearch formula budget end (length s.steps.steps) = is-search formula budget s end is.same ends in
    record {
      ended = λ other. (length s.steps.steps, found, is.counted);
      not_stopped = λ other. is.going;
      stopped = λ e. absurd (never e);
      some = λ e. absurd (never e);
      accepted = λ log e. log-accepted formula budget (length s.steps.steps) log (subst IsFormula is.same is.agrees.formed)
          (subst (λ (x : Outcome). IsSearch formula budget x (length s.steps.steps)) e found);
      solved = λ bits e. search-solves formula budget (length s.steps.steps) bits (subst IsFormula is.same is.agrees.formed)
          (subst (λ (x : Outcome). IsSearch formula budget x (length s.steps.steps)) e found);
    } where
      never : end ≡ Stopped → ⊥
      never e = subst (λ (x : Outcome). Ends s.clauses.now budget ends.0 x) e ends.2

pub answered-stop : (formula : Formula) (budget asked_first asked later stops_first stops last : ℕ) (old new : Solver) → IsRunning formula budget old asked_first asked stops_first stops
    → TurnsTo budget old new More → later ≡ asked + 1 → last ≡ stops + 1 → IsAnswer formula budget Stopped asked_first later stops_first last
answered-stop formula budget asked_first asked later stops_first stops last old new is turn later_is last_is =
    let on : IsRunning formula budget new asked_first later stops_first stops = running-on formula budget asked_first asked later stops_first stops stops old new is turn later_is refl in
    record {
      ended = λ other. absurd (other refl);
      not_stopped = λ other. absurd (other refl);
      stopped = λ e. omega (arith, last_is, is.going);
      some = λ e. omega (arith, on.counted, turn.3);
      accepted = λ log e. absurd (differ log e);
      solved = λ bits e. absurd (differs bits e);
    } where
      differ : (log : StepList) → Stopped ≡ Unsat log → ⊥
      differ log e = cc

      differs : (bits : List Bool) → Stopped ≡ Sat bits → ⊥
      differs bits e = cc

-- more is known of a value, if there is one
pub if-ok : {T E : Type 0} (r : Result T E) (P Q : T → Type 0) → IfOk r P → ((x : T) → P x → Q x) → IfOk r Q
if-ok (Ok x) P Q p more = more x p
if-ok (Err e) P Q p more = tt
