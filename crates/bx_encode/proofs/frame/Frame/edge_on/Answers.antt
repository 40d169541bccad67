-- The number, with the counts that the calls gave.
use Rattle.std.proofs.Common.{◌≡◌, ℕ, ◌+◌, ◌*◌, ap, ◌∙◌, length, arith}
use Rattle.bx_encode.specs.Variables.{number}
use Rattle.bx_encode.proofs.frame.Frame.edge_on.Goals as goal

same : (n m e b : ℕ) → 1 + (n + 3) * m + e * (2 * m) + b ≡ 1 + (n * m + m + 2 * m) + e * (2 * m) + b
same n m e b = omega arith

pub returns-clause-is : goal.returns-clause-is
unfolding number
returns-clause-is c =
    same c.node_count.result c.tile_count-tiles.result c.args.e c.args.b
    ∙ ap (λ n. 1 + (n * c.tile_count-tiles.result + c.tile_count-tiles.result + 2 * c.tile_count-tiles.result) + c.args.e * (2 * c.tile_count-tiles.result) + c.args.b) c.node_count.ensures.is
    ∙ ap (λ n. 1 + (length c.args.self.now.net.now.nodes * n + n + 2 * n) + c.args.e * (2 * n) + c.args.b) c.tile_count-tiles.ensures.is
