-- What it means that a form grid is traced: it is sound, and computes the network.
use Rattle.std.proofs.Common.{◌≡◌, ◌↔◌, ℕ, List, length, sym, ap, ◌∙◌, subst}
use Rattle.bx_grid.specs.declared.ratio.Ratio.{Ratio}
use Rattle.bx_grid.specs.Tiles.{tile_count}
use Rattle.bx_network.specs.Networks.{Network, IsNetwork}
use Rattle.bx_layout.specs.declared.layout.Layout.{Layout}
use Rattle.bx_layout.specs.Grids.{FormGrid, IsSound}
use Rattle.bx_layout.specs.Legal.{IsLegal}
use Rattle.bx_layout.specs.Permits.{all_forms}
use Rattle.bx_layout.specs.Pins.{Computes, pins_of}
use Rattle.bx_layout.specs.TileForms.{IsFormGridOf}
use Rattle.bx_layout.proofs.Soundness.{grid-sound}
use Rattle.bx_layout.proofs.Computing.{grid-computes}
use Rattle.bx_trace.specs.Traced.{pins_on, IsTraced}

abbrev with_ratio : FormGrid → Ratio → FormGrid
with_ratio g r = record { ratio = r; tiles = g.tiles }

pub traced-sound : (N : Network) (g : FormGrid) (places : List ℕ) → IsNetwork N → IsTraced N g places → IsSound g
traced-sound N g places network t =
    subst (λ (r : Ratio). IsSound (with_ratio g r)) (sym t.forms.ratio) (grid-sound N all_forms t.layout network t.legal g.tiles t.forms.each)

pub traced-computes : (N : Network) (g : FormGrid) (places : List ℕ) (inputs : ℕ) → IsNetwork N → IsTraced N g places → Computes inputs g (pins_on N places) N
traced-computes N g places inputs network t =
    subst (λ (ps : List ℕ). Computes inputs g (pins_on N ps) N) t.stands
    (subst (λ (r : Ratio). Computes inputs (with_ratio g r) (pins_of N t.layout) N) (sym t.forms.ratio) (grid-computes N all_forms t.layout network t.legal g.tiles t.forms.each inputs))

pub traced-whole : (N : Network) (g : FormGrid) (places : List ℕ) → length g.tiles ≡ tile_count g.ratio → IsTraced N g places ↔ ((L : Layout) × (L.places ≡ places) × IsLegal N all_forms L × IsFormGridOf N L g)
traced-whole N g places whole = (
  (λ t. (t.layout, t.stands, t.legal, record { ratio = t.forms.ratio; whole = whole ∙ ap tile_count t.forms.ratio; each = t.forms.each })),
  (λ (L, stands, legal, forms). record { layout = L; stands = stands; legal = legal; forms = record { ratio = forms.ratio; each = forms.each } }),
)
