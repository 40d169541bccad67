-- The number, with the count of tiles that the call gave.
use Rattle.std.proofs.Common.{◌+◌, ◌*◌, ap}
use Rattle.bx_encode.specs.Variables.{number}
use Rattle.bx_encode.proofs.frame.Frame.node_on.Goals as goal

pub returns-clause-is : goal.returns-clause-is
unfolding number
returns-clause-is c = ap (λ n. 1 + c.args.v * n + c.args.t) c.tile_count.ensures.is
