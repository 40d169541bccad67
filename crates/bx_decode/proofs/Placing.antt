-- A layout that true bits mean is placed, has its inputs and outputs at its ends, and stays on the grid.
use Rattle.std.proofs.Common.{◌≡◌, ℕ, ◌+◌, ◌<◌, Bool, true, List, length, Some, inl, inr, refl, sym, ◌∙◌, eqb-true}
use Rattle.bx_forms.specs.declared.kind.Kind.{Kind}
use Rattle.bx_forms.specs.declared.kind.Kind.TheVariants.{Input, Output}
use Rattle.bx_grid.specs.declared.ratio.Ratio.{Ratio}
use Rattle.bx_grid.specs.Tiles.{IsTile, y_of, border}
use Rattle.bx_layout.specs.declared.layout.Layout.{Layout}
use Rattle.bx_layout.specs.Layouts.{Stands, edge_on, leaves}
use Rattle.bx_layout.specs.Legal.{IsPlaced, StandsAtItsEnd, HasItsEnds, StaysOnGrid}
use Rattle.bx_layout.specs.Permits.{PermitTest}
use Rattle.bx_layout.proofs.Balances.{option-cases}
use Rattle.bx_network.specs.Networks.{Network}
use Rattle.bx_encode.specs.declared.variable.Variable.TheVariants.{NodeOn, EdgeOn}
use Rattle.bx_encode.specs.Windows.{fits_row, down_of, up_of}
use Rattle.bx_encode.proofs.Windows.{window-of}
use Rattle.bx_decode.specs.Meaning.{AreTrue, IsSet, Means}
use Rattle.bx_decode.proofs.Clauses.{IsOn}
use Rattle.bx_decode.proofs.Families.{apart, in-its-window, stays}

at-its-end : (kind : Kind) (r : Ratio) (t down up : ℕ) → fits_row kind down up (y_of r t) r.h ≡ true → StandsAtItsEnd kind r t
at-its-end Input r t down up h = eqb-true (y_of r t) 0 h
at-its-end Output r t down up h = eqb-true (y_of r t + 1) r.h h
at-its-end _ r t down up h = tt

module _ (N : Network) (permit : PermitTest) (L : Layout) (bits : List Bool) (all : AreTrue N permit L.ratio bits) (means : Means N L.ratio bits L) where
  pub node-set : (v t : ℕ) → Stands L v t → IsSet N L.ratio bits (NodeOn v t)
  node-set v t stands = (means.stands v t).0 stands

  pub stands-on : (v t : ℕ) → v < length N.nodes → IsTile L.ratio t → IsOn N L.ratio bits (NodeOn v t) → Stands L v t
  stands-on v t node tile on = (means.stands v t).1 ((node, tile), on)

  pub edge-set : (e b : ℕ) → edge_on L b ≡ Some e → IsSet N L.ratio bits (EdgeOn e b)
  edge-set e b carries = (means.carries e b).0 carries

  pub placed : IsPlaced N L
  placed = record {
    places = means.places;
    borders = means.borders;
    edges = λ b e carries. (edge-set e b carries).0.0;
    inside = λ v t stands. (node-set v t stands).0.1;
    apart = λ u v t one other.
        let a = node-set u t one in
        let b = node-set v t other in
        apart N permit L.ratio bits all u v t a.0.0 b.0.0 a.0.1 a.1 b.1;
  }

  pub has-its-ends : HasItsEnds N L
  has-its-ends v t node is stands =
      let ((low, tile), on) = node-set v t stands in
      let inside = in-its-window N permit L.ratio bits all v t low tile on in
      at-its-end node.kind L.ratio t (down_of N v) (up_of N v) (sym (window-of N v (y_of L.ratio t) L.ratio.h node.kind (node, is, refl)) ∙ inside)

  pub stays-on-grid : StaysOnGrid L
  stays-on-grid t side tile off = elim (option-cases (leaves L t side)) [
    | inl none ↦ none
    | inr (e, carries) ↦
        let ((edge, inside), on) = edge-set e (border t side) carries in
        absurd (stays N permit L.ratio bits all t e side tile edge off on)
  ]
