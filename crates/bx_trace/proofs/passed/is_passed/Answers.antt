use Rattle.bx_layout.proofs.Verdicts.{both-sides, left-fails}
use Rattle.bx_trace.specs.Tests.{IsPassedOn}
use Rattle.bx_trace.proofs.passed.is_passed.Goals as goal

pub returns-then-is_passed_on : goal.returns-then-is_passed_on
returns-then-is_passed_on c =
    both-sides (IsPassedOn c.args.net.now c.args.layout.now c.args.tile c.args.node) c.is_passed_on-then-is_passed_on.result
    (c.is_passed_on.ensures.0 c.if-is_passed_on.true) c.is_passed_on-then-is_passed_on.ensures

pub returns-else-is_passed_on : goal.returns-else-is_passed_on
returns-else-is_passed_on c =
    left-fails (IsPassedOn c.args.net.now c.args.layout.now c.args.tile c.args.node) c.is_passed_on.result c.if-is_passed_on.false c.is_passed_on.ensures
