use Rattle.std.proofs.Common.{ap, arith, ℕ, List}
use Rattle.bx_desk.proofs.Printing.{prints_nothing, prints_count, prints_counted, prints_as}
use Rattle.bx_grid.specs.Tiles.{tile_count}
use Rattle.bx_layout.specs.Grids.{FormGrid}
use Rattle.bx_draw.specs.Pictures.{tile_text_at}
use Rattle.bx_draw.proofs.Drawn.{tile_is}
use Rattle.bx_draw.proofs.picture.print_tiles.Goals as goal

pub loop-t-init : goal.loop-t-init
loop-t-init g c = prints_nothing _

pub loop-t-preserved : goal.loop-t-preserved
loop-t-preserved g c =
    let grid : FormGrid = c.args.grid.now in
    let places : List ℕ = c.args.places.now in
    prints_count (tile_text_at grid places) (tile_count grid.ratio) c.loop-t.t (omega (arith, ap tile_count c.ratio-ratio.ensures.same)) c.loop-t.invariant
    (prints_as (tile_is grid places c.ratio-ratio.result c.loop-t.t _ _ _ _ _ _ c.ratio-ratio.ensures.same c.column_and_row-x.ensures.column c.column_and_row-x.ensures.row c.from.ensures c.from-in-loop-t.ensures c.tile.ensures c.node_on-node.ensures) c.print_tile.ensures)

pub returns : goal.returns
returns g c =
    let grid : FormGrid = c.args.grid.now in
    prints_counted (tile_text_at grid c.args.places.now) (tile_count grid.ratio) c.loop-t.t (omega (arith, ap tile_count c.ratio-ratio.ensures.same)) c.loop-t.invariant
