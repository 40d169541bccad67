use Rattle.std.proofs.Common.{◌≡◌, ◌≤◌, ◌∷◌, [], true, get_or, refl, ap, arith}
use Rattle.std.specs.Prelude.{codes}
use Rattle.bx_cert.proofs.Words.{one_worded}
use Rattle.bx_cert.proofs.Lines.{bounds_there, same_limits}
use Rattle.bx_cert.proofs.scan.bounds_at.Goals as goal

pub returns-in_err-rest-clause-none : goal.returns-in_err-rest-clause-none
returns-in_err-rest-clause-none c = rw c.from_residual.ensures (λ limits budget rest at.
    c.in_err-rest.ensures.none (limits.area ∷ limits.width ∷ limits.height ∷ budget ∷ []) rest refl (bounds_there c.args.text.now limits budget rest at))

pub returns-then-not-are_limits-clause-none : goal.returns-then-not-are_limits-clause-none
returns-then-not-are_limits-clause-none c = λ limits budget rest at.
    let same = one_worded c.args.text.now (codes "limits") c.worded_at.new.numbers (limits.area ∷ limits.width ∷ limits.height ∷ budget ∷ []) c.in_ok-rest.rest.now rest (omega arith) c.in_ok-rest.ensures.found (bounds_there c.args.text.now limits budget rest at) in
    let is : c.are_limits.result ≡ true = c.are_limits.ensures.1 (same_limits c.worded_at.new.numbers limits (budget ∷ []) same.0 at.said.0) in
    cc

pub returns-then-not-is_budget-clause-none : goal.returns-then-not-is_budget-clause-none
returns-then-not-is_budget-clause-none c = λ limits budget rest at.
    let same = one_worded c.args.text.now (codes "limits") c.worded_at.new.numbers (limits.area ∷ limits.width ∷ limits.height ∷ budget ∷ []) c.in_ok-rest.rest.now rest (omega arith) c.in_ok-rest.ensures.found (bounds_there c.args.text.now limits budget rest at) in
    let own : get_or c.worded_at.new.numbers 3 0 ≡ budget = ap (λ xs. get_or xs 3 0) same.0 in
    let small : c.from-budget.result ≤ 67108864 = omega (arith, own, c.from-budget.ensures, at.said.1) in
    let is : c.is_budget.result ≡ true = c.is_budget.ensures.1 small in
    cc
