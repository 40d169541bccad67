-- A layout is legal where its edges are balanced at their ends and where a border carries them: an edge that a tile
-- neither holds nor carries is balanced there.
use Rattle.std.proofs.Common.{◌≡◌, ◌↔◌, ℕ, ◌*◌, ◌<◌, Bool, false, List, length, slice_get, Option, Some, None, inl, inr, refl, sym, ◌∙◌, arith}
use Rattle.std.specs.Prelude.{IsTrue}
use Rattle.std.proofs.lemmas.Bool.{cases_lt}
use Rattle.std.proofs.lemmas.List.{get_or_past}
use Rattle.bx_forms.specs.declared.side.Side.{Side}
use Rattle.bx_forms.specs.declared.side.Side.TheVariants.{Left, Right}
use Rattle.bx_grid.specs.Tiles.{tile_count, IsGrid, IsTile}
use Rattle.bx_network.specs.declared.node.Edge.{Edge}
use Rattle.bx_network.specs.Networks.{Network, IsNetwork}
use Rattle.bx_layout.specs.declared.layout.Layout.{Layout}
use Rattle.bx_layout.specs.Layouts.{edge_on, enters, leaves, Carries}
use Rattle.bx_layout.specs.Legal.{IsPlaced, HasItsEnds, IsBalanced, IsOf, IsLegal}
use Rattle.bx_layout.specs.Permits.{all_forms}
use Rattle.bx_layout.proofs.Balances.{one-cases}
use Rattle.bx_layout.proofs.Walks.{stays-on-grid}
use Rattle.bx_trace.specs.Known.{entry, AreNodesAt}
use Rattle.bx_trace.specs.Tests.{AreEndsBalanced, MayPass, ArePassed}

-- ---- two tests, one after the other

pub second-asked : (P Q : Type 0) (b : Bool) → P → (IsTrue b ↔ Q) → IsTrue b ↔ (P × Q)
second-asked P Q b p asked = ((λ t. (p, asked.0 t)), (λ both. asked.1 both.1))

pub first-fails : (P Q : Type 0) (b : Bool) → b ≡ false → (IsTrue b ↔ P) → IsTrue b ↔ (P × Q)
first-fails P Q b e asked = ((λ t. absurd (cc)), (λ both. asked.1 both.0))

-- ---- places

pub placed-with : (N : Network) (L : Layout) (nodes : List (Option ℕ)) → length L.places ≡ length N.nodes → length L.borders ≡ 2 * tile_count L.ratio → length nodes ≡ tile_count L.ratio → AreNodesAt L.places nodes →
    ((b e : ℕ) → edge_on L b ≡ Some e → e < length N.edges) → IsPlaced N L
placed-with N L nodes places borders whole at edges = record {
  places = places;
  borders = borders;
  edges = edges;
  inside = λ v t stands. elim (cases_lt t (length nodes)) [
    | inl low ↦ omega (arith, low, whole)
    | inr past ↦ (
        let gone : entry nodes t ≡ None = get_or_past nodes t None past in
        let both : None ≡ Some v = sym gone ∙ (at t v).1 stands in
        absurd (cc))
  ];
  apart = λ u v t one other. let both : Some u ≡ Some v = sym ((at t u).1 one) ∙ (at t v).1 other in let same : u ≡ v = cc in same;
}

-- ---- balances

pub balanced-everywhere : (N : Network) (L : Layout) (nodes : List (Option ℕ)) → AreEndsBalanced N L → ArePassed N L nodes → IsBalanced N L
balanced-everywhere N L nodes ends passed t e edge inside is = elim (one-cases (slice_get L.places edge.source) t) [
  | inl (begins, one) ↦ (ends e edge is).0 t begins
  | inr (no_source, none) ↦ elim (one-cases (slice_get L.places edge.target) t) [
    | inl (stops, one) ↦ (ends e edge is).1 t stops
    | inr (no_target, nought) ↦ elim (one-cases (enters L t Left) e) [
      | inl (come, one) ↦ ((passed t inside Left).0 e edge come is).balanced
      | inr (off, a) ↦ elim (one-cases (enters L t Right) e) [
        | inl (come, one) ↦ ((passed t inside Right).0 e edge come is).balanced
        | inr (off, b) ↦ elim (one-cases (leaves L t Left) e) [
          | inl (out, one) ↦ ((passed t inside Left).1 e edge out is).balanced
          | inr (off, c) ↦ elim (one-cases (leaves L t Right) e) [
            | inl (out, one) ↦ ((passed t inside Right).1 e edge out is).balanced
            | inr (off, d) ↦ record { balanced = omega (arith, none, nought, a, b, c, d); once = omega (arith, none, a, b) }
          ]
        ]
      ]
    ]
  ]
]

-- what a legal layout passes on
pub passed-where-legal : (N : Network) (L : Layout) (nodes : List (Option ℕ)) → AreNodesAt L.places nodes → IsLegal N all_forms L → ArePassed N L nodes
passed-where-legal N L nodes at legal t inside side = (
  (λ e edge come is. may e edge is (inl come)),
  (λ e edge out is. may e edge is (inr out)),
)
  where
    may : (e : ℕ) (edge : Edge) → slice_get N.edges e ≡ Some edge → Carries L t side e → MayPass L t (entry nodes t) e edge
    may e edge is carried = record {
      balanced = legal.balanced t e edge inside is;
      own = λ v here. legal.alone v t ((at t v).0 here) side e edge carried is;
    }

pub ends-where-legal : (N : Network) (L : Layout) → IsLegal N all_forms L → AreEndsBalanced N L
ends-where-legal N L legal e edge is = (
  (λ t stands. legal.balanced t e edge (legal.placed.inside edge.source t stands) is),
  (λ t stands. legal.balanced t e edge (legal.placed.inside edge.target t stands) is),
)

pub legal-with : (N : Network) (L : Layout) (nodes : List (Option ℕ)) → IsNetwork N → IsGrid L.ratio → AreNodesAt L.places nodes → IsPlaced N L → HasItsEnds N L → AreEndsBalanced N L → ArePassed N L nodes → IsLegal N all_forms L
legal-with N L nodes network grid at placed rows ends passed =
    let balanced = balanced-everywhere N L nodes ends passed in
    record {
      grid = grid;
      placed = placed;
      ends = rows;
      stays = stays-on-grid N L network placed balanced;
      balanced = balanced;
      alone = λ v t stands side e edge carried is. own (placed.inside v t stands) v ((at t v).1 stands) side e edge carried is;
      permitted = λ t form inside has. refl;
    }
  where
    own : {t : ℕ} → IsTile L.ratio t → (v : ℕ) → entry nodes t ≡ Some v → (side : Side) (e : ℕ) (edge : Edge) → Carries L t side e → slice_get N.edges e ≡ Some edge → IsOf edge v
    own inside v here side e edge (inl come) is = ((passed _ inside side).0 e edge come is).own v here
    own inside v here side e edge (inr out) is = ((passed _ inside side).1 e edge out is).own v here

-- ---- forms

pub same-form-has : (o p : Option ℕ) (Has : ℕ → Type 0) → ((form : ℕ) → (o ≡ Some form) ↔ Has form) → o ≡ p → (form : ℕ) → (p ≡ Some form) ↔ Has form
same-form-has o p Has found e form = ((λ is. (found form).0 (e ∙ is)), (λ has. sym e ∙ (found form).1 has))

same-option : (o p : Option ℕ) → ((n : ℕ) → (o ≡ Some n) ↔ (p ≡ Some n)) → o ≡ p
same-option None None h = refl
same-option None (Some n) h = (h n).1 refl
same-option (Some n) p h = sym ((h n).0 refl)

pub has-form-same : (o p : Option ℕ) (Has : ℕ → Type 0) → ((form : ℕ) → (o ≡ Some form) ↔ Has form) → ((form : ℕ) → (p ≡ Some form) ↔ Has form) → o ≡ p
has-form-same o p Has found has = same-option o p (λ form. ((λ is. (has form).1 ((found form).0 is)), (λ is. (found form).1 ((has form).0 is))))
