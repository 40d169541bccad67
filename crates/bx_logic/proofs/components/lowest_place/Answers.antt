use Rattle.std.proofs.Common.{ℕ, ◌∙◌, ap, min}
use Rattle.bx_logic.proofs.ComponentSteps.{lowest-more}
use Rattle.bx_logic.proofs.components.lowest_place.Goals as goal

pub loop-net-preserved : goal.loop-net-preserved
loop-net-preserved c =
    lowest-more c.args.places.now c.args.nets.now c.loop-net.net-index c.args.place c.loop-net.lowest c.min-lowest.result c.loop-net-test.true
    (c.min-lowest.ensures ∙ ap (λ (place : ℕ). min c.loop-net.lowest place) c.unwrap_or.ensures) c.loop-net.invariant
