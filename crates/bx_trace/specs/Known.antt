-- What is known of a layout from its form grid and from the nodes on its tiles, before the layout is.
use Rattle.std.specs.Prelude.{◌≡◌, ◌↔◌, ℕ, ◌<◌, ◌≤◌, List, Option, Some, None, slice_get, slice_index_or, option_map}
use Rattle.bx_network.specs.Networks.{Network, IsNetwork, HasSlot}
use Rattle.bx_network.specs.Values.{edge_out}
use Rattle.bx_forms.specs.declared.side.Side.TheVariants.{Left}
use Rattle.bx_forms.specs.Forms.{form_lower}
use Rattle.bx_layout.specs.declared.layout.Layout.{Layout}
use Rattle.bx_layout.specs.Grids.{FormGrid}
use Rattle.bx_layout.specs.Layouts.{Stands, edge_on, leaves}
use Rattle.bx_layout.specs.Legal.{IsLegal}
use Rattle.bx_layout.specs.Permits.{all_forms}
use Rattle.bx_layout.specs.TileForms.{lower_sides}
use Rattle.bx_trace.specs.Traced.{HasFormGrid}

-- of a list with an entry for each tile, or each border, that of this one
abbrev pub entry : List (Option ℕ) → ℕ → Option ℕ
entry items n = slice_index_or items n None

-- no two places are the same, and each is one of so many tiles
pub record AreApartOn (places : List ℕ) (tiles : ℕ) : Type 0 where
  pub inside : (v t : ℕ) → slice_get places v ≡ Some t → t < tiles
  pub apart : (u v t : ℕ) → slice_get places u ≡ Some t → slice_get places v ≡ Some t → u ≡ v

-- for each tile the node that has its place there
abbrev pub AreNodesAt : List ℕ → List (Option ℕ) → Type 0
AreNodesAt places nodes = (t v : ℕ) → (entry nodes t ≡ Some v) ↔ (slice_get places v ≡ Some t)

-- the layout is legal, has this form grid, and these nodes stand on its tiles
pub record IsLayoutOf (N : Network) (g : FormGrid) (nodes : List (Option ℕ)) (L : Layout) : Type 0 where
  pub network : IsNetwork N
  pub legal : IsLegal N all_forms L
  pub forms : HasFormGrid N L g
  pub nodes_are : AreNodesAt L.places nodes

-- the node to which an edge leads
abbrev pub target_of : Network → ℕ → Option ℕ
target_of N e = option_map (λ edge. edge.target) (slice_get N.edges e)

-- of each edge that a border from this one on carries, the list says to which node it leads
abbrev pub KnowsTargetsFrom : Network → Layout → List (Option ℕ) → ℕ → Type 0
KnowsTargetsFrom N L targets first =
    (b e : ℕ) → first ≤ b → edge_on L b ≡ Some e → entry targets b ≡ target_of N e

abbrev pub KnowsTargets : Network → Layout → List (Option ℕ) → Type 0
KnowsTargets N L targets = KnowsTargetsFrom N L targets 0

-- of each of the first so many borders, the list says what it carries
abbrev pub KnowsBorders : Layout → List (Option ℕ) → ℕ → Type 0
KnowsBorders L edges n = (b : ℕ) → b < n → entry edges b ≡ edge_on L b

-- where both edges that leave a fan lead to one node, that of slot 1 doesn't leave on the left
abbrev pub IsStraight : Network → Layout → Type 0
IsStraight N L =
    (v t : ℕ) → HasSlot N v 1 → Stands L v t →
    target_of N (edge_out N.edges v 0) ≡ target_of N (edge_out N.edges v 1) →
    leaves L t Left ≡ Some (edge_out N.edges v 1) → ⊥

-- node v stands on the tile of this form, and where an edge leaves there on the left, it leads to the
-- node that is given
pub record Begins (N : Network) (L : Layout) (v t form : ℕ) (left : Option ℕ) : Type 0 where
  pub network : IsNetwork N
  pub legal : IsLegal N all_forms L
  pub straight : IsStraight N L
  pub stands : Stands L v t
  pub lower : form_lower form ≡ lower_sides L t
  pub known : (e : ℕ) → leaves L t Left ≡ Some e → left ≡ target_of N e
