use Rattle.std.proofs.Common.{ap, arith}
use Rattle.bx_grid.specs.Tiles.{tile_count}
use Rattle.bx_layout.proofs.Valuations.{written, only-valuation}
use Rattle.bx_layout.proofs.eval.eval_grid.Goals as goal

pub loop-tile-preserved : goal.loop-tile-preserved
loop-tile-preserved c =
    let tiles = ap tile_count c.ratio-ratio.ensures.same in
    written c.args.grid.now c.args.given.now c.loop-tile.borders c.loop-tile.tile c.border.result c.border-in-loop-tile.result c.sent-left.result.0 c.sent-left.result.1
    c.border.ensures c.border-in-loop-tile.ensures (omega (arith, tiles)) c.loop-tile.invariant c.sent-left.ensures.left c.sent-left.ensures.right

pub returns : goal.returns
returns c =
    let tiles = ap tile_count c.ratio-ratio.ensures.same in
    only-valuation c.args.grid.now c.args.given.now c.loop-tile.borders (record {
      whole = omega arith;
      each = λ t side inside. c.loop-tile.invariant t (omega (arith, tiles)) side;
    })
