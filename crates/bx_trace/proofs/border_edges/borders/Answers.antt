use Rattle.std.proofs.Common.{None, ap, arith}
use Rattle.std.proofs.lemmas.List.{ext_get_or}
use Rattle.bx_grid.specs.Tiles.{tile_count}
use Rattle.bx_trace.proofs.border_edges.borders.Goals as goal

pub returns : goal.returns
returns c = λ L of straight targets.
    let same = ap tile_count of.forms.ratio in
    let ratio = ap tile_count c.ratio-ratio.ensures.same in
    let whole = c.loop-b.invariant.whole in
    let borders = of.legal.placed.borders in
    ext_get_or None c.loop-b.edges.items L.borders (omega (arith, same, ratio, whole, borders)) (λ b low. c.loop-b.invariant.known L of straight targets b (omega (arith, whole, low)))
