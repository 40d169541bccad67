use Rattle.std.proofs.Common.{◌≡◌, ◌/◌, Some, sym, ap, ◌∙◌, arith}
use Rattle.bx_grid.specs.Tiles.{tile_count, below}
use Rattle.bx_grid.proofs.Neighbours.{below-inside}
use Rattle.bx_layout.specs.Layouts.{edge_on, enters, leaves}
use Rattle.bx_trace.proofs.Steps.{tile-inside, down-is}
use Rattle.bx_trace.proofs.ways.target.Goals as goal

pub arrival-requires-clause-tile : goal.arrival-requires-clause-tile
arrival-requires-clause-tile c =
    let same = ap tile_count c.ratio.ensures.same in
    let low = below-inside c.ratio.result (c.args.b / 2) c.in_ok-tile.tile c.side_of-side.result (sym c.below.ensures ∙ c.in_ok-tile.was) in
    omega (arith, same, low)

pub returns : goal.returns
returns c = λ N L e of known carries.
    let out : leaves L (c.args.b / 2) c.side_of-side.result ≡ Some e = ap (edge_on L) c.side_of-side.ensures ∙ carries in
    let under : below c.args.grid.now.ratio (c.args.b / 2) c.side_of-side.result ≡ Some c.in_ok-tile.tile =
    ap (λ r. below r (c.args.b / 2) c.side_of-side.result) (sym c.ratio.ensures.same) ∙ sym c.below.ensures ∙ c.in_ok-tile.was in
    let (come, lower) = down-is N c.args.grid.now c.args.nodes.now L of (c.args.b / 2) e c.side_of-side.result (tile-inside N c.args.grid.now c.args.nodes.now L of c.args.b c.requires.border) out c.in_ok-tile.tile under in
    c.arrival.ensures N L e of (λ b f low. known b f (omega (arith, lower))) (ap (enters L c.in_ok-tile.tile) c.opposite.ensures ∙ come)
