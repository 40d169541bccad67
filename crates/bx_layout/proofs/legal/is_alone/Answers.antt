use Rattle.bx_layout.specs.Legal.{IsAloneOn}
use Rattle.bx_layout.proofs.Verdicts.{both-sides, left-fails}
use Rattle.bx_layout.proofs.legal.is_alone.Goals as goal

pub returns-then-is_alone_on : goal.returns-then-is_alone_on
returns-then-is_alone_on c =
    both-sides (IsAloneOn c.args.net.now c.args.layout.now c.args.v c.args.tile) c.is_alone_on-then-is_alone_on.result
    (c.is_alone_on.ensures.0 c.if-is_alone_on.true) c.is_alone_on-then-is_alone_on.ensures

pub returns-else-is_alone_on : goal.returns-else-is_alone_on
returns-else-is_alone_on c =
    left-fails (IsAloneOn c.args.net.now c.args.layout.now c.args.v c.args.tile) c.is_alone_on.result c.if-is_alone_on.false c.is_alone_on.ensures
