-- When a layout of a mapped network is legal: the places of the nodes and the borders of the edges,
-- and a balance of what flows into each tile and out of it.
use Rattle.std.specs.Prelude.{◌≡◌, ℕ, ◌+◌, ◌*◌, ◌<◌, ◌≤◌, ◌⊎◌, ⊤, length, Some, None, slice_get}
use Rattle.bx_forms.specs.declared.kind.Kind.{Kind}
use Rattle.bx_forms.specs.declared.kind.Kind.TheVariants.{Input, Output}
use Rattle.bx_forms.specs.declared.side.Side.{Side}
use Rattle.bx_grid.specs.declared.ratio.Ratio.{Ratio}
use Rattle.bx_grid.specs.Tiles.{tile_count, IsGrid, IsTile, IsInFirstRow, IsInLastRow, below}
use Rattle.bx_network.specs.declared.node.Node.{Node}
use Rattle.bx_network.specs.declared.node.Edge.{Edge}
use Rattle.bx_network.specs.Networks.{Network}
use Rattle.bx_layout.specs.declared.layout.Layout.{Layout}
use Rattle.bx_layout.specs.Layouts.{Stands, edge_on, leaves, Carries, ways_in, ways_out, stands_count}
use Rattle.bx_layout.specs.Permits.{PermitTest, Allows}
use Rattle.bx_layout.specs.TileForms.{HasForm}

-- 1. There is one place for each node, and one entry for each border: none, or the number of an
-- edge. Places are in the grid, and no two nodes stand on one tile.
pub record IsPlaced (N : Network) (L : Layout) : Type 0 where
  pub places : length L.places ≡ length N.nodes
  pub borders : length L.borders ≡ 2 * tile_count L.ratio
  pub edges : (b e : ℕ) → edge_on L b ≡ Some e → e < length N.edges
  pub inside : (v t : ℕ) → Stands L v t → IsTile L.ratio t
  pub apart : (u v t : ℕ) → Stands L u t → Stands L v t → u ≡ v

-- 2. Inputs stand in the first row, and outputs in the last; other nodes stand anywhere.
abbrev pub StandsAtItsEnd : Kind → Ratio → ℕ → Type 0
StandsAtItsEnd Input r t = IsInFirstRow r t
StandsAtItsEnd Output r t = IsInLastRow r t
StandsAtItsEnd _ r t = ⊤

abbrev pub HasItsEnds : Network → Layout → Type 0
HasItsEnds N L =
    (v t : ℕ) (node : Node) → slice_get N.nodes v ≡ Some node → Stands L v t →
    StandsAtItsEnd node.kind L.ratio t

-- 3. A border that leads off the grid carries nothing.
abbrev pub StaysOnGrid : Layout → Type 0
StaysOnGrid L =
    (t : ℕ) (side : Side) → IsTile L.ratio t → below L.ratio t side ≡ None → leaves L t side ≡ None

-- 4. An edge enters a tile, or begins there, as often as it leaves the tile, or ends there: once at
-- most.
pub record IsBalancedAt (L : Layout) (t e : ℕ) (edge : Edge) : Type 0 where
  pub balanced : ways_in L t e + stands_count L t edge.source ≡
      ways_out L t e + stands_count L t edge.target
  pub once : ways_in L t e + stands_count L t edge.source ≤ 1

abbrev pub IsBalanced : Network → Layout → Type 0
IsBalanced N L =
    (t e : ℕ) (edge : Edge) → IsTile L.ratio t → slice_get N.edges e ≡ Some edge →
    IsBalancedAt L t e edge

-- 5. A tile with a node carries the edges of that node alone.
abbrev pub IsOf : Edge → ℕ → Type 0
IsOf edge v = (edge.source ≡ v) ⊎ (edge.target ≡ v)

abbrev pub IsAloneOn : Network → Layout → ℕ → ℕ → Side → Type 0
IsAloneOn N L v t side =
    (e : ℕ) (edge : Edge) → Carries L t side e → slice_get N.edges e ≡ Some edge → IsOf edge v

abbrev pub IsAlone : Network → Layout → ℕ → ℕ → Type 0
IsAlone N L v t = (side : Side) → IsAloneOn N L v t side

abbrev pub NodesAreAlone : Network → Layout → Type 0
NodesAreAlone N L = (v t : ℕ) → Stands L v t → IsAlone N L v t

-- 6. The form of each tile that has one may stand there.
abbrev pub IsPermitted : Network → PermitTest → Layout → Type 0
IsPermitted N permit L =
    (t form : ℕ) → IsTile L.ratio t → HasForm N L t form → Allows permit L.ratio t form

pub record IsLegal (N : Network) (permit : PermitTest) (L : Layout) : Type 0 where
  pub grid : IsGrid L.ratio
  pub placed : IsPlaced N L
  pub ends : HasItsEnds N L
  pub stays : StaysOnGrid L
  pub balanced : IsBalanced N L
  pub alone : NodesAreAlone N L
  pub permitted : IsPermitted N permit L

-- no layout of this ratio is legal under this permit
abbrev pub LacksLayout : Network → PermitTest → Ratio → Type 0
LacksLayout N permit r = (L : Layout) → L.ratio ≡ r → ¬ IsLegal N permit L
