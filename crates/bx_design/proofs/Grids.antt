-- The form grid of a layout: there is one, its forms are of the table, and a permit of the table's forms allows
-- what the permit of all forms does.
use Rattle.std.proofs.Common.{◌≡◌, ℕ, suc, ◌<◌, List, [], ◌∷◌, length, map, Option, Some, None, inl, inr, refl, sym, ap, ap₂, ◌∙◌, subst, arith}
use Rattle.std.specs.Prelude.{slice_index_or, ◌↔◌}
use Rattle.std.proofs.lemmas.Bool.{cases_lt}
use Rattle.std.proofs.lemmas.List.{get_or_past}
use Rattle.bx_forms.specs.declared.kind.Kind.{Kind}
use Rattle.bx_forms.specs.declared.table.Shape.{Shape}
use Rattle.bx_forms.specs.declared.table.TheConstants.{FORMS}
use Rattle.bx_forms.specs.Forms.{IsForm, shape_of, shape_node, form_node}
use Rattle.bx_grid.specs.declared.ratio.Ratio.{Ratio}
use Rattle.bx_grid.specs.Tiles.{IsGrid, tile_count}
use Rattle.bx_network.specs.Networks.{Network}
use Rattle.bx_network.proofs.Lists.{got-within}
use Rattle.bx_layout.specs.declared.layout.Layout.{Layout}
use Rattle.bx_layout.specs.Grids.{FormGrid, IsFormGrid}
use Rattle.bx_layout.specs.TileForms.{HasForm, IsFormGridOf}

-- ---- one grid of forms

same-tile : (x y : Option ℕ) → ((z : ℕ) → (x ≡ Some z) ↔ (y ≡ Some z)) → x ≡ y
same-tile None None h = refl
same-tile (Some a) y h = sym ((h a).0 refl)
same-tile None (Some b) h = (h b).1 refl

same-tiles : (xs ys : List (Option ℕ)) → length xs ≡ length ys → ((t z : ℕ) → t < length xs → (slice_index_or xs t None ≡ Some z) ↔ (slice_index_or ys t None ≡ Some z)) → xs ≡ ys
same-tiles [] [] e h = refl
same-tiles [] (y ∷ ys) e h = absurd (omega arith)
same-tiles (x ∷ xs) [] e h = absurd (omega arith)
same-tiles (x ∷ xs) (y ∷ ys) e h = ap₂ (λ (z : Option ℕ) (zs : List (Option ℕ)). z ∷ zs) (same-tile x y (λ z. h 0 z (omega arith))) (same-tiles xs ys (omega arith) (λ t z l. h (suc t) z (omega arith)))

abbrev grid-of : Ratio → List (Option ℕ) → FormGrid
grid-of r xs = record { ratio = r; tiles = xs }

pub one-grid : (N : Network) (L : Layout) (g h : FormGrid) → IsFormGridOf N L g → IsFormGridOf N L h → g ≡ h
one-grid N L g h a b =
    let ratios : g.ratio ≡ h.ratio = a.ratio ∙ sym b.ratio in
    let tiles : g.tiles ≡ h.tiles = same-tiles g.tiles h.tiles (a.whole ∙ sym b.whole) (λ t form l.
    let inside : t < tile_count L.ratio = let whole = a.whole in omega arith in
    let p = a.each t form inside in
    let q = b.each t form inside in
    ((λ e. q.1 (p.0 e)), (λ e. p.1 (q.0 e)))) in
    ap₂ grid-of ratios tiles

-- ---- its forms

-- a form that holds a node is one of the table
form-of_node : (form : ℕ) (kind : Kind) → form_node form ≡ Some kind → IsForm form
form-of_node form kind e = some (shape_of form) refl e
  where
    some : (o : Option Shape) → shape_of form ≡ o → shape_node o ≡ Some kind → IsForm form
    some None f lost = absurd (cc)
    some (Some shape) f lost = omega (arith, got-within (map (λ line. line.1) FORMS) form shape f)

pub has-form : (N : Network) (L : Layout) (t form : ℕ) → HasForm N L t form → IsForm form
has-form N L t form (inl node) = form-of_node form node.node.kind node.form_of.uses.node
has-form N L t form (inr wire) = wire.wire_of.form

pub whole-grid : (N : Network) (L : Layout) (g : FormGrid) → IsGrid L.ratio → IsFormGridOf N L g → IsFormGrid g
whole-grid N L g grid is = record {
  grid = subst IsGrid (sym is.ratio) grid;
  whole = is.whole ∙ ap tile_count (sym is.ratio);
  forms = λ t form at. elim (cases_lt t (tile_count L.ratio)) [
    | inl inside ↦ has-form N L t form ((is.each t form inside).0 at)
    | inr past ↦
        let whole = is.whole in
        let lost : None ≡ Some form = sym (get_or_past g.tiles t None (omega arith)) ∙ at in
        absurd (cc)
  ];
}
