use Rattle.std.proofs.Common.{sym, ap, ◌∙◌, arith, ◌/◌}
use Rattle.bx_grid.specs.Tiles.{tile_count}
use Rattle.bx_layout.specs.Layouts.{edge_on}
use Rattle.bx_trace.specs.Known.{entry}
use Rattle.bx_trace.proofs.Steps.{tile-inside, no-form, wire-form, node-begins}
use Rattle.bx_trace.proofs.border_edges.carried.Goals as goal

pub returns-in_err-form : goal.returns-in_err-form
returns-in_err-form c = λ L of straight targets known.
    c.from_residual.ensures
    ∙ sym (no-form c.args.net.now c.args.grid.now c.args.nodes.now L of (c.args.b / 2) c.side_of-side.result (tile-inside c.args.net.now c.args.grid.now c.args.nodes.now L of c.args.b c.requires.border) (sym c.tile.ensures ∙ c.in_err-form.was))
    ∙ ap (edge_on L) c.side_of-side.ensures

pub border-requires : goal.border-requires
border-requires c =
    let small = c.ratio-ratio.ensures.grid.small in
    let same = ap tile_count c.ratio-ratio.ensures.same in
    omega (arith, small, same, c.requires.border)

pub returns-in-Some : goal.returns-in-Some
returns-in-Some c = λ L of straight targets known.
    c.begun.ensures L (c.args.b / 2)
    (node-begins c.args.net.now c.args.grid.now c.args.nodes.now L of (c.args.b / 2) c.in-Some.v c.in_ok-form.form _ straight (tile-inside c.args.net.now c.args.grid.now c.args.nodes.now L of c.args.b c.requires.border)
    c.in-Some.is (sym c.tile.ensures ∙ c.in_ok-form.was) (λ e out. ap (entry c.args.targets.now) c.border.ensures ∙ targets _ e (omega arith) out))
    ∙ ap (edge_on L) c.side_of-side.ensures

pub returns-in-None : goal.returns-in-None
returns-in-None c = λ L of straight targets known.
    let same = of.forms.ratio in
    c.passed.ensures L (sym same ∙ sym c.ratio-ratio.ensures.same)
    (wire-form c.args.net.now c.args.grid.now c.args.nodes.now L of (c.args.b / 2) c.in_ok-form.form (tile-inside c.args.net.now c.args.grid.now c.args.nodes.now L of c.args.b c.requires.border) c.in-None.is (sym c.tile.ensures ∙ c.in_ok-form.was))
    (λ b low. known b (omega arith))
    ∙ ap (edge_on L) c.side_of-side.ensures
