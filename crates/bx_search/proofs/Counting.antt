-- A search learns no more clauses that aren't empty than its budget is: each costs one at least.
use Rattle.std.proofs.Common.{◌≢◌, ℕ, zero, suc, ◌<◌, ◌≤◌, List, [], ◌∷◌, length, refl, ap, arith, length-append}
use Rattle.bx_cnf.specs.Formulas.{Formula}
use Rattle.bx_cnf.specs.Literals.{Literal}
use Rattle.bx_search.specs.States.{State}
use Rattle.bx_search.specs.Searching.{Goes, After, IsSearch}
use Rattle.bx_search.specs.Searching.Goes.{Propagates, Decides, Learns}
use Rattle.bx_search.specs.declared.outcome.Outcome.{Outcome}

nonempty : (literals : List Literal) → literals ≢ [] → 0 < length literals
nonempty [] some = absurd (some refl)
nonempty (l ∷ literals) some = omega arith

-- at most as many steps as were paid for, and no more than the budget
record IsPaid (budget : ℕ) (s : State) : Type 0 where
  pub steps : length s.steps ≤ s.spent
  pub within : s.spent ≤ budget

paid-goes : (formula : Formula) (budget : ℕ) (s t : State) → Goes formula budget s t → IsPaid budget s → IsPaid budget t
paid-goes formula budget s t (Propagates id l least next) p = record {
  steps = omega (arith, p.steps, ap (λ (u : State). length u.steps) next, ap (λ (u : State). u.spent) next);
  within = omega (arith, p.within, ap (λ (u : State). u.spent) next);
}
paid-goes formula budget s t (Decides var quiet first next) p = record {
  steps = omega (arith, p.steps, ap (λ (u : State). length u.steps) next, ap (λ (u : State). u.spent) next);
  within = omega (arith, p.within, ap (λ (u : State). u.spent) next);
}
paid-goes formula budget s t (Learns id step conflict within some next) p = record {
  steps = omega (arith, p.steps, ap (λ (u : State). length u.steps) next, length-append s.steps (step ∷ []), ap (λ (u : State). u.spent) next, nonempty step.literals some);
  within = omega (arith, within, ap (λ (u : State). u.spent) next);
}

paid-after : (formula : Formula) (budget events : ℕ) (s : State) → After formula budget events s → IsPaid budget s
paid-after formula budget zero s is = record {
  steps = omega (arith, ap (λ (u : State). length u.steps) is, ap (λ (u : State). u.spent) is);
  within = omega (arith, ap (λ (u : State). u.spent) is);
}
paid-after formula budget (suc events) s (before, after, goes) = paid-goes formula budget before s goes (paid-after formula budget events before after)

pub count-within : (formula : Formula) (budget count : ℕ) (end : Outcome) → IsSearch formula budget end count → count ≤ budget
count-within formula budget count end found =
    let paid = paid-after formula budget found.events found.last found.after in
    omega (arith, found.count, paid.steps, paid.within)
