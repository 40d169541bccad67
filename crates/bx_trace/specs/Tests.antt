-- What is asked of a layout's edges so that no tile asks it of all edges, nor an edge of all tiles.
use Rattle.std.specs.Prelude.{◌≡◌, ℕ, List, Option, Some, slice_get}
use Rattle.bx_forms.specs.declared.side.Side.{Side}
use Rattle.bx_grid.specs.Tiles.{IsTile}
use Rattle.bx_network.specs.declared.node.Edge.{Edge}
use Rattle.bx_network.specs.Networks.{Network}
use Rattle.bx_layout.specs.declared.layout.Layout.{Layout}
use Rattle.bx_layout.specs.Layouts.{Stands, enters, leaves}
use Rattle.bx_layout.specs.Legal.{IsBalancedAt, IsOf}
use Rattle.bx_trace.specs.Known.{entry}

-- an edge is balanced where this node stands
abbrev pub IsBalancedWith : Layout → ℕ → ℕ → Edge → Type 0
IsBalancedWith L v e edge = (t : ℕ) → Stands L v t → IsBalancedAt L t e edge

-- each edge is balanced where it begins, and where it ends
abbrev pub IsBalancedAtEnds : Layout → ℕ → Edge → Type 0
IsBalancedAtEnds L e edge = IsBalancedWith L edge.source e edge × IsBalancedWith L edge.target e edge

abbrev pub AreEndsBalanced : Network → Layout → Type 0
AreEndsBalanced N L = (e : ℕ) (edge : Edge) → slice_get N.edges e ≡ Some edge → IsBalancedAtEnds L e edge

-- an edge is balanced on this tile, and is one of the node that stands there, if one does
pub record MayPass (L : Layout) (t : ℕ) (node : Option ℕ) (e : ℕ) (edge : Edge) : Type 0 where
  pub balanced : IsBalancedAt L t e edge
  pub own : (v : ℕ) → node ≡ Some v → IsOf edge v

-- so is what a border carries, if anything
abbrev pub MayCarry : Network → Layout → ℕ → Option ℕ → Option ℕ → Type 0
MayCarry N L t node carried =
    (e : ℕ) (edge : Edge) → carried ≡ Some e → slice_get N.edges e ≡ Some edge → MayPass L t node e edge

-- and whatever enters the tile or leaves it
abbrev pub IsPassedOn : Network → Layout → ℕ → Option ℕ → Side → Type 0
IsPassedOn N L t node side = MayCarry N L t node (enters L t side) × MayCarry N L t node (leaves L t side)

abbrev pub IsPassed : Network → Layout → ℕ → Option ℕ → Type 0
IsPassed N L t node = (side : Side) → IsPassedOn N L t node side

abbrev pub ArePassed : Network → Layout → List (Option ℕ) → Type 0
ArePassed N L nodes = (t : ℕ) → IsTile L.ratio t → IsPassed N L t (entry nodes t)
