use Rattle.std.proofs.Common.{ap, sym, ◌∙◌, arith, below_more}
use Rattle.bx_grid.specs.Tiles.{tile_count}
use Rattle.bx_layout.specs.Grids.{form_at}
use Rattle.bx_layout.specs.TileForms.{HasForm}
use Rattle.bx_layout.proofs.Verdicts.{refuted, confirmed, denied}
use Rattle.bx_trace.proofs.Linear.{same-form-has, has-form-same}
use Rattle.bx_trace.proofs.forms.has_form_grid.Goals as goal

pub returns-then-not-is_same : goal.returns-then-not-is_same
returns-then-not-is_same c =
    let same = ap tile_count (c.requires.ratio ∙ sym c.ratio-ratio.ensures.same) in
    refuted (λ all. denied c.is_same.result _ c.is_same.ensures c.if-not-is_same.true
    (has-form-same c.tile_form-form.result c.tile.result (HasForm c.args.net.now c.args.layout.now c.loop-tile.tile) c.tile_form-form.ensures
    (λ form.
    let here = all.each c.loop-tile.tile form (omega (arith, same)) in
    ((λ is. here.0 (sym c.tile.ensures ∙ is)), (λ has. c.tile.ensures ∙ here.1 has)))))

pub loop-tile-preserved : goal.loop-tile-preserved
loop-tile-preserved c =
    below_more _ _ c.loop-tile.invariant
    (same-form-has c.tile_form-form.result (form_at c.args.grid.now c.loop-tile.tile) (HasForm c.args.net.now c.args.layout.now c.loop-tile.tile) c.tile_form-form.ensures
    (c.is_same.ensures.0 c.if-not-is_same.false ∙ c.tile.ensures))

pub returns : goal.returns
returns c =
    let same = ap tile_count (c.requires.ratio ∙ sym c.ratio-ratio.ensures.same) in
    confirmed (record { ratio = sym c.requires.ratio; each = λ t form inside. c.loop-tile.invariant t (omega (arith, same, inside)) form })
