use Rattle.std.proofs.Common.{◌≡◌, true}
use Rattle.bx_check.proofs.Passing.{accepted_of, accepted_exact}
use Rattle.bx_check.proofs.checker.is_accepted.Goals as goal

pub returns : goal.returns
returns c =
    let yes : c.is_shaped.result ≡ true = cc in
    let shaped = c.is_shaped.ensures.0 yes in
    accepted_exact c.in_ok-failure.failure c.is_none.result c.args.clauses.now c.args.steps.now c.is_none.ensures c.in_ok-failure.ensures.pass (accepted_of c.args.clauses.now c.args.steps.now shaped.0 shaped.1 shaped.2)
