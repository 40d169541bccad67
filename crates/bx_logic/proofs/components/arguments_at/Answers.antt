use Rattle.std.proofs.Common.{ℕ, ◌<◌, length}
use Rattle.bx_logic.proofs.Cycles.{all-read, item-arguments}
use Rattle.bx_logic.proofs.components.arguments_at.Goals as goal

pub returns-clause-within : goal.returns-clause-within
returns-clause-within c =
    all-read (λ (m : ℕ). m < length c.args.drivers.now) _ c.args.net _
    (item-arguments _ c.args.net _ _ c.requires.net c.index-drivers-net.is c.arguments.ensures) (c.requires.reads c.args.net)
