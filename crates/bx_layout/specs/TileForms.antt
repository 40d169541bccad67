-- The form of each tile of a layout. A tile with a node has the form of the node's kind and of the
-- sides that are used; a tile without one has the wire, the double or the cross that its edges
-- follow; a tile that carries nothing has none.
use Rattle.std.specs.Prelude.{◌≡◌, ◌↔◌, ℕ, ◌⊎◌, ◌||◌, Bool, true, false, length, Option, Some, None, is_some, slice_get, option_map, option_and_then}
use Rattle.bx_forms.specs.declared.side.Side.{Side}
use Rattle.bx_forms.specs.declared.side.Side.TheVariants.{Left, Right}
use Rattle.bx_forms.specs.declared.side.Sides.{Sides}
use Rattle.bx_forms.specs.Forms.{IsForm, form_node, form_upper, form_lower, form_value, IsFormOf}
use Rattle.bx_grid.specs.Tiles.{tile_count, IsTile}
use Rattle.bx_network.specs.declared.node.Node.{Node}
use Rattle.bx_network.specs.Networks.{Network}
use Rattle.bx_layout.specs.declared.layout.Layout.{Layout}
use Rattle.bx_layout.specs.Layouts.{Stands, IsFree, enters, leaves}
use Rattle.bx_layout.specs.Grids.{FormGrid, form_at}

-- the sides on which an edge enters the tile, and those on which one leaves it
abbrev pub upper_sides : Layout → ℕ → Sides
upper_sides L t = record { left = is_some (enters L t Left); right = is_some (enters L t Right) }

abbrev pub lower_sides : Layout → ℕ → Sides
lower_sides L t = record { left = is_some (leaves L t Left); right = is_some (leaves L t Right) }

-- the slot of its source by which an edge leaves
abbrev pub slot_of : Network → Option ℕ → Option ℕ
slot_of N e = option_map (λ edge. edge.slot) (option_and_then (slice_get N.edges) e)

-- a node stands on the tile, and the form is that of its kind and of the used sides: it sends out
-- below what the node gives to the slots of the edges that leave there
pub record HasNodeForm (N : Network) (L : Layout) (t form : ℕ) : Type 0 where
  pub v : ℕ
  pub node : Node
  pub is_node : slice_get N.nodes v ≡ Some node
  pub stands : Stands L v t
  pub form_of : IsFormOf node.kind (upper_sides L t)
      (slot_of N (leaves L t Left)) (slot_of N (leaves L t Right)) form

-- what leaves on a lower side, if anything, is the edge that enters on this upper side
abbrev pub ComesFrom : Layout → ℕ → Side → Option Side → Type 0
ComesFrom L t side None = leaves L t side ≡ None
ComesFrom L t side (Some from) = (e : ℕ) × (leaves L t side ≡ Some e) × (enters L t from ≡ Some e)

-- of two, that on this side
abbrev pub on_side : {X : Type 0} → X → X → Side → X
on_side left right Left = left
on_side left right Right = right

-- A wire, a double or a cross: a form without a node that uses these upper sides, and sends out on
-- the lower left and the lower right what comes in on these upper sides, or nothing.
pub record IsWireOf (upper : Sides) (left right : Option Side) (number : ℕ) : Type 0 where
  pub form : IsForm number
  pub holds_none : form_node number ≡ None
  pub upper_sides : form_upper number ≡ upper
  pub lower_sides : form_lower number ≡ record { left = is_some left; right = is_some right }
  pub sends : (side from : Side) → on_side left right side ≡ Some from → (a b : Bool) →
      form_value number a b side ≡ on_side a b from

-- the upper sides from which something is sent out
abbrev pub is_from : Side → Option Side → Bool
is_from side None = false
is_from Left (Some Left) = true
is_from Left (Some Right) = false
is_from Right (Some Left) = false
is_from Right (Some Right) = true

abbrev pub upper_from : Option Side → Option Side → Sides
upper_from left right =
    record {
      left = is_from Left left || is_from Left right;
      right = is_from Right left || is_from Right right;
    }

-- no node stands on the tile, and the form is the wire, double or cross that the edges follow
-- through it
pub record HasWireForm (L : Layout) (t form : ℕ) : Type 0 where
  pub free : IsFree L t
  pub left : Option Side
  pub right : Option Side
  pub from_left : ComesFrom L t Left left
  pub from_right : ComesFrom L t Right right
  pub wire_of : IsWireOf (upper_sides L t) left right form

abbrev pub HasForm : Network → Layout → ℕ → ℕ → Type 0
HasForm N L t form = HasNodeForm N L t form ⊎ HasWireForm L t form

-- the form grid of a layout: on each tile the form that it has
pub record IsFormGridOf (N : Network) (L : Layout) (g : FormGrid) : Type 0 where
  pub ratio : g.ratio ≡ L.ratio
  pub whole : length g.tiles ≡ tile_count L.ratio
  pub each : (t form : ℕ) → IsTile L.ratio t → (form_at g t ≡ Some form) ↔ HasForm N L t form
