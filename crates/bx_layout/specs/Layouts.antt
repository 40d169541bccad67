-- Layouts: where the nodes of a network stand, and which edge each border carries.
use Rattle.std.specs.Prelude.{◌≡◌, ◌==◌, ℕ, ◌+◌, ◌⊎◌, if◌then◌else◌, Option, Some, None, slice_get, slice_index_or, option_and_then}
use Rattle.bx_forms.specs.declared.side.Side.{Side}
use Rattle.bx_forms.specs.declared.side.Side.TheVariants.{Left, Right}
use Rattle.bx_grid.specs.Tiles.{border, entering}
use Rattle.bx_layout.specs.declared.layout.Layout.{Layout}

-- this node stands on this tile
abbrev pub Stands : Layout → ℕ → ℕ → Type 0
Stands L v t = slice_get L.places v ≡ Some t

-- no node stands on this tile
abbrev pub IsFree : Layout → ℕ → Type 0
IsFree L t = (v : ℕ) → ¬ Stands L v t

-- the edge that a border carries, or none
abbrev pub edge_on : Layout → ℕ → Option ℕ
edge_on L b = slice_index_or L.borders b None

-- the edge that enters a tile on an upper side, or none
abbrev pub enters : Layout → ℕ → Side → Option ℕ
enters L t side = option_and_then (edge_on L) (entering L.ratio t side)

-- the edge that leaves a tile on a lower side, or none
abbrev pub leaves : Layout → ℕ → Side → Option ℕ
leaves L t side = edge_on L (border t side)

-- the edge enters this tile on the upper side, or leaves it on the lower side
abbrev pub Carries : Layout → ℕ → Side → ℕ → Type 0
Carries L t side e = (enters L t side ≡ Some e) ⊎ (leaves L t side ≡ Some e)

-- a node stands on the tile, or it carries an edge
abbrev pub IsUsed : Layout → ℕ → Type 0
IsUsed L t = ((v : ℕ) × Stands L v t) ⊎ ((side : Side) × (e : ℕ) × Carries L t side e)

abbrev pub CarriesNothing : Layout → ℕ → Type 0
CarriesNothing L t = (side : Side) (e : ℕ) → Carries L t side e → ⊥

-- 1 if the one is this number, and 0 otherwise
abbrev pub one_if_is : Option ℕ → ℕ → ℕ
one_if_is None n = 0
one_if_is (Some m) n = if m == n then 1 else 0

-- by how many borders edge e enters tile t, and by how many it leaves it
abbrev pub ways_in : Layout → ℕ → ℕ → ℕ
ways_in L t e = one_if_is (enters L t Left) e + one_if_is (enters L t Right) e

abbrev pub ways_out : Layout → ℕ → ℕ → ℕ
ways_out L t e = one_if_is (leaves L t Left) e + one_if_is (leaves L t Right) e

-- 1 if node v stands on tile t, and 0 otherwise
abbrev pub stands_count : Layout → ℕ → ℕ → ℕ
stands_count L t v = one_if_is (slice_get L.places v) t
