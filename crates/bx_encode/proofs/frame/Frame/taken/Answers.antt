-- The number, with the counts that the calls gave.
use Rattle.std.proofs.Common.{◌+◌, ◌*◌, ap, ◌∙◌, length}
use Rattle.bx_encode.specs.Variables.{number}
use Rattle.bx_encode.proofs.frame.Frame.taken.Goals as goal

pub returns-clause-is : goal.returns-clause-is
unfolding number
returns-clause-is c =
    ap (λ n. 1 + n * c.tile_count.result + c.args.t) c.node_count.ensures.is
    ∙ ap (λ n. 1 + length c.args.self.now.net.now.nodes * n + c.args.t) c.tile_count.ensures.is
