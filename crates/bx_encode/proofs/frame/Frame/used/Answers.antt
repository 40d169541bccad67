-- The number, with the counts that the calls gave.
use Rattle.std.proofs.Common.{◌≡◌, ℕ, ◌+◌, ◌*◌, ap, ◌∙◌, length, arith}
use Rattle.bx_encode.specs.Variables.{number}
use Rattle.bx_encode.proofs.frame.Frame.used.Goals as goal

same : (n m b : ℕ) → 1 + (n + 1) * m + b ≡ 1 + (n * m + m) + b
same n m b = omega arith

pub returns-clause-is : goal.returns-clause-is
unfolding number
returns-clause-is c =
    same c.node_count.result c.tile_count.result c.args.b
    ∙ ap (λ n. 1 + (n * c.tile_count.result + c.tile_count.result) + c.args.b) c.node_count.ensures.is
    ∙ ap (λ n. 1 + (length c.args.self.now.net.now.nodes * n + n) + c.args.b) c.tile_count.ensures.is
