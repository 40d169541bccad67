use Rattle.std.proofs.Common.{arith}
use Rattle.bx_map.proofs.Visiting.{walk-is, walk-within}
use Rattle.bx_map.proofs.walk.walk_order.Goals as goal

pub returns-clause-order : goal.returns-clause-order
returns-clause-order c = walk-is c.args.net.now _ c.loop-j.j c.loop-j.invariant.order (omega arith)

pub returns-clause-within : goal.returns-clause-within
returns-clause-within c =
    walk-within c.args.net.now _ c.len.ensures.net (walk-is c.args.net.now _ c.loop-j.j c.loop-j.invariant.order (omega arith))
