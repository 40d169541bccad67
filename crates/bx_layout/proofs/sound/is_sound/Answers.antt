use Rattle.std.proofs.Common.{ap, arith, below_more}
use Rattle.bx_grid.specs.Tiles.{tile_count}
use Rattle.bx_layout.proofs.Verdicts.{confirmed}
use Rattle.bx_layout.proofs.sound.is_sound.Goals as goal

pub loop-tile-preserved : goal.loop-tile-preserved
loop-tile-preserved c = below_more _ _ c.loop-tile.invariant (c.is_sound_at.ensures.0 c.if-not-is_sound_at.false)

pub returns : goal.returns
returns c =
    let tiles = ap tile_count c.ratio-ratio.ensures.same in
    confirmed (λ t inside. c.loop-tile.invariant t (omega (arith, tiles)))
