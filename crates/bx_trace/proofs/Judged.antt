-- Where some legal layout has the form grid and the places, the one that is made from the forms is such a layout.
use Rattle.std.proofs.Common.{◌≡◌, ◌↔◌, ℕ, Bool, List, Option, sym, ap, ◌∙◌, subst}
use Rattle.std.specs.Prelude.{IsTrue}
use Rattle.bx_grid.specs.declared.ratio.Ratio.{Ratio}
use Rattle.bx_network.specs.Networks.{Network, IsNetwork}
use Rattle.bx_layout.specs.declared.layout.Layout.{Layout}
use Rattle.bx_layout.specs.Grids.{FormGrid}
use Rattle.bx_trace.specs.Known.{AreNodesAt, IsLayoutOf, IsStraight, KnowsTargets}
use Rattle.bx_trace.specs.Traced.{IsLegalWith, IsTraced}
use Rattle.bx_trace.proofs.Relabelled.{relabelled, new-legal, new-forms}
use Rattle.bx_trace.proofs.Straight.{partner, partner-twins, partner-back, straightened}

-- ---- the layout that is made

-- a layout with the form grid and the places in which no fan is crossed needlessly
record IsStraightWith (N : Network) (g : FormGrid) (places : List ℕ) (L : Layout) : Type 0 where
  stands : L.places ≡ places
  with : IsLegalWith N L g
  straight : IsStraight N L

straight-with : (N : Network) (g : FormGrid) (places : List ℕ) → IsNetwork N → (traced : IsTraced N g places) → (L : Layout) × IsStraightWith N g places L
straight-with N g places network traced =
    let L = traced.layout in
    let p = partner N L network traced.legal in
    let twins = partner-twins N L network traced.legal in
    let back = partner-back N L network traced.legal in (
      relabelled N L traced.legal p twins back,
      record {
        stands = traced.stands;
        with = record {
          legal = new-legal N L traced.legal p twins back;
          forms = record {
            ratio = traced.forms.ratio;
            each = λ t form inside.
                let was = traced.forms.each t form inside in
                let now = new-forms N L traced.legal p twins back t form in
                ((λ is. now.0 (was.0 is)), (λ has. was.1 (now.1 has)));
          };
        };
        straight = straightened N L network traced.legal;
      },
    )

abbrev pub laid : Ratio → List ℕ → List (Option ℕ) → Layout
laid r places edges = record { ratio = r; places = places; borders = edges }

pub made-with : (N : Network) (g : FormGrid) (places own : List ℕ) (r : Ratio) (nodes known targets told edges : List (Option ℕ)) →
    IsNetwork N → r ≡ g.ratio → own ≡ places → AreNodesAt places nodes → AreNodesAt places known → told ≡ targets →
    ((M : Network) (L : Layout) → IsLayoutOf M g nodes L → KnowsTargets M L targets) →
    ((L : Layout) → IsLayoutOf N g known L → IsStraight N L → KnowsTargets N L told → edges ≡ L.borders) →
    IsTraced N g places → IsLegalWith N (laid r own edges) g
made-with N g places own r nodes known targets told edges network ratio same at_nodes at_known same_targets find_targets find_edges traced =
    let (L, s) = straight-with N g places network traced in
    let legal = s.with.legal in
    let forms = s.with.forms in
    let of : (ns : List (Option ℕ)) → AreNodesAt places ns → IsLayoutOf N g ns L =
    λ ns at. record { network = network; legal = legal; forms = forms; nodes_are = subst (λ (ps : List ℕ). AreNodesAt ps ns) (sym s.stands) at } in
    let seen : KnowsTargets N L told = subst (KnowsTargets N L) (sym same_targets) (find_targets N L (of nodes at_nodes)) in
    let borders : edges ≡ L.borders = find_edges L (of known at_known) s.straight seen in
    subst (λ (M : Layout). IsLegalWith N M g)
    (ap (λ q. laid q L.places L.borders) (sym forms.ratio ∙ sym ratio) ∙ ap (λ (ps : List ℕ). laid r ps L.borders) (s.stands ∙ sym same) ∙ ap (λ (bs : List (Option ℕ)). laid r own bs) (sym borders))
    s.with

-- ---- an answer

pub answered : (b : Bool) (P Q : Type 0) → (P → Q) → (Q → P) → (IsTrue b ↔ P) → IsTrue b ↔ Q
answered b P Q forth back h = ((λ t. forth (h.0 t)), (λ q. h.1 (back q)))
