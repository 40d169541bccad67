use Rattle.std.proofs.Common.{◌≡◌, ◌↔◌, ◌∙◌, ℕ, Some, length, ap, sym, arith}
use Rattle.bx_layout.specs.Grids.{FormGrid, form_at}
use Rattle.bx_layout.specs.Permits.{all_forms}
use Rattle.bx_layout.specs.TileForms.{HasForm}
use Rattle.bx_layout.proofs.Computing.{computes}
use Rattle.bx_layout.proofs.Soundness.{sound}
use Rattle.bx_layout.proofs.Verdicts.{pushed, some-tile}
use Rattle.bx_layout.proofs.forms.form_grid.Goals as goal

pub loop-tile-preserved : goal.loop-tile-preserved
loop-tile-preserved c =
    let items = c.loop-tile.tiles.ok.0 in (
      (λ some. c.tile_form.ensures.network),
      omega (arith, c.in_ok-push.ensures.len),
      pushed (λ t found. (form : ℕ) → (found ≡ Some form) ↔ HasForm c.args.net.now c.args.layout.now t form) c.loop-tile.tiles.items c.push.new.self.items c.tile_form.result c.loop-tile.tile
          c.in_ok-push.ensures.items (omega (arith, items)) c.loop-tile.invariant.2 c.tile_form.ensures.forms,
    )

pub returns-clause-forms : goal.returns-clause-forms
returns-clause-forms c =
    let items = c.loop-tile.tiles.ok.0 in
    record {
      ratio = ap (λ (g : FormGrid). g.ratio) c.new.ensures;
      whole = ap (λ (g : FormGrid). length g.tiles) c.new.ensures ∙ omega (arith, items);
      each = λ t form inside.
          let e = ap (λ (g : FormGrid). form_at g t) c.new.ensures in
          let has = c.loop-tile.invariant.2 t (omega arith) form in
          ((λ h. has.0 (sym e ∙ h)), (λ k. e ∙ has.1 k));
    }

pub returns-clause-sound : goal.returns-clause-sound
returns-clause-sound c =
    let wide = c.requires.grid.wide in
    let high = c.requires.grid.high in
    let some = some-tile c.args.layout.now.ratio.w c.args.layout.now.ratio.h wide high in
    sound c.args.net.now all_forms c.args.layout.now c.new.result (c.loop-tile.invariant.0 (omega arith)) c.requires (returns-clause-forms c)

pub returns-clause-computes : goal.returns-clause-computes
returns-clause-computes c = λ inputs.
    let wide = c.requires.grid.wide in
    let high = c.requires.grid.high in
    let some = some-tile c.args.layout.now.ratio.w c.args.layout.now.ratio.h wide high in
    computes c.args.net.now all_forms c.args.layout.now c.new.result inputs (c.loop-tile.invariant.0 (omega arith)) c.requires (returns-clause-forms c)
