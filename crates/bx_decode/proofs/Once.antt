-- Bits mean one layout, and those of a layout mean that one.
use Rattle.std.proofs.Common.{◌≡◌, ℕ, ◌<◌, Bool, List, length, get_or, Option, Some, None, inl, inr, refl, sym, ap, ◌∙◌, arith}
use Rattle.std.proofs.lemmas.Bool.{cases_lt}
use Rattle.std.proofs.lemmas.List.{get_or_past, ext_get_or}
use Rattle.std.proofs.lemmas.Option.{get_or_from_slice_get, slice_get-get_or}
use Rattle.bx_grid.specs.declared.ratio.Ratio.{Ratio}
use Rattle.bx_layout.specs.declared.layout.Layout.{Layout}
use Rattle.bx_layout.specs.Layouts.{Stands, edge_on}
use Rattle.bx_layout.specs.Legal.{IsPlaced}
use Rattle.bx_layout.proofs.Balances.{option-cases}
use Rattle.bx_network.specs.Networks.{Network}
use Rattle.bx_network.proofs.Lists.{got-within}
use Rattle.bx_cnf.specs.Literals.{value_of}
use Rattle.bx_encode.specs.declared.variable.Variable.TheVariants.{NodeOn, EdgeOn}
use Rattle.bx_encode.specs.Bits.{AreBitsOf}
use Rattle.bx_encode.specs.Variables.{border_count, number}
use Rattle.bx_decode.specs.Meaning.{Means}

-- ---- one layout

same-layout : (L M : Layout) → L.ratio ≡ M.ratio → L.places ≡ M.places → L.borders ≡ M.borders → L ≡ M
same-layout L M ratio places borders =
    ap (λ (q : Ratio). of q L.places L.borders) ratio ∙ ap (λ (ps : List ℕ). of M.ratio ps L.borders) places ∙ ap (of M.ratio M.places) borders
  where
    of : Ratio → List ℕ → List (Option ℕ) → Layout
    of q ps bs = record { ratio = q; places = ps; borders = bs }

pub means-one : (N : Network) (r : Ratio) (bits : List Bool) (L M : Layout) → Means N r bits L → Means N r bits M → L ≡ M
means-one N r bits L M one other = same-layout L M (one.ratio ∙ sym other.ratio)
    (ext_get_or 0 L.places M.places (one.places ∙ sym other.places) place) (ext_get_or None L.borders M.borders (one.borders ∙ sym other.borders) (λ b low. edge b))
  where
    place : (v : ℕ) → v < length L.places → get_or L.places v 0 ≡ get_or M.places v 0
    place v low =
        let t = get_or L.places v 0 in
        let stands : Stands L v t = slice_get-get_or L.places v 0 low in
        let also : Stands M v t = (other.stands v t).1 ((one.stands v t).0 stands) in
        sym (get_or_from_slice_get M.places v t 0 also)

    edge : (b : ℕ) → edge_on L b ≡ edge_on M b
    edge b = elim (option-cases (edge_on L b)) [
      | inr (e, carries) ↦ carries ∙ sym ((other.carries e b).1 ((one.carries e b).0 carries))
      | inl none ↦ elim (option-cases (edge_on M b)) [
        | inl nothing ↦ none ∙ sym nothing
        | inr (e, carries) ↦ let also = (one.carries e b).1 ((other.carries e b).0 carries) in let clash : None ≡ Some e = sym none ∙ also in cc
      ]
    ]

-- ---- the bits of a layout

border-within : (N : Network) (L : Layout) (b e : ℕ) → IsPlaced N L → edge_on L b ≡ Some e → b < border_count L.ratio
border-within N L b e placed carries = elim (cases_lt b (border_count L.ratio)) [
  | inl low ↦ low
  | inr high ↦ let whole = placed.borders in let none = get_or_past L.borders b None (omega arith) in let clash : None ≡ Some e = sym none ∙ carries in cc
]

pub means-own : (N : Network) (L : Layout) (bits : List Bool) → IsPlaced N L → AreBitsOf N L bits → Means N L.ratio bits L
means-own N L bits placed are = record {
  ratio = refl;
  places = placed.places;
  borders = placed.borders;
  stands = λ v t. (
    (λ stands. let whole = placed.places in let low = got-within L.places v t stands in let node : v < length N.nodes = omega arith in let tile = placed.inside v t stands in ((node, tile), (are.each (NodeOn v t) (node, tile)).1 stands)),
    (λ (own, on). (are.each (NodeOn v t) own).0 on),
  );
  carries = λ e b. (
    (λ carries. let edge = placed.edges b e carries in let inside = border-within N L b e placed carries in ((edge, inside), (are.each (EdgeOn e b) (edge, inside)).1 carries)),
    (λ (own, on). (are.each (EdgeOn e b) own).0 on),
  );
}

-- ---- bits that say the same of places and borders

pub means-alike : (N : Network) (r : Ratio) (bits other : List Bool) (L : Layout) →
    ((v t : ℕ) → value_of bits (number N r (NodeOn v t)) ≡ value_of other (number N r (NodeOn v t))) →
    ((e b : ℕ) → value_of bits (number N r (EdgeOn e b)) ≡ value_of other (number N r (EdgeOn e b))) → Means N r bits L → Means N r other L
means-alike N r bits other L nodes edges means = record {
  ratio = means.ratio;
  places = means.places;
  borders = means.borders;
  stands = λ v t. (
    (λ stands. let (own, on) = (means.stands v t).0 stands in (own, (sym (nodes v t) ∙ on))),
    (λ (own, on). (means.stands v t).1 (own, (nodes v t ∙ on))),
  );
  carries = λ e b. (
    (λ carries. let (own, on) = (means.carries e b).0 carries in (own, (sym (edges e b) ∙ on))),
    (λ (own, on). (means.carries e b).1 (own, (edges e b ∙ on))),
  );
}
