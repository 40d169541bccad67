-- The grid of a list of operations: two rows for each, and two behind the last. The first of the two has
-- a tile on each lane; the second has the operation's tile, and wires on all lanes that it leaves alone.
use Rattle.std.specs.Prelude.{ℕ, ◌+◌, ◌*◌, ◌==◌, nat_lt, if◌then◌else◌, Bool, true, false, List, [], ◌∷◌, ◌++◌, length, map, Option, Some, None}
use Rattle.std.specs.List.{range_with_len}
use Rattle.bx_network.specs.Networks.{Network}
use Rattle.bx_layout.specs.Grids.{FormGrid}
use Rattle.bx_quick.specs.declared.operation.Operation.{Operation}
use Rattle.bx_quick.specs.LaneStates.{end_of, width_of}
use Rattle.bx_quick.specs.Operations.{input_l, input_r, output_l, wire_ll, wire_lr, wire_rl, wire_rr, takes_as_right, gives_as_right}

-- lane x leaves left to the operation that comes next, if one does: it is the right one of two
abbrev pub leaves_left : Option Operation → ℕ → Bool
leaves_left None x = false
leaves_left (Some op) x = takes_as_right op x

-- the input that leaves left or right, and the wire that enters left or right and leaves so
abbrev pub input_of : Bool → ℕ
input_of left = if left then input_l else input_r

abbrev pub wire_of : Bool → Bool → ℕ
wire_of true left = if left then wire_ll else wire_lr
wire_of false left = if left then wire_rl else wire_rr

-- the form on a lane between the operation before and the next; before the first there is an input
abbrev pub lane_form : Option Operation → Option Operation → ℕ → ℕ
lane_form None next x = input_of (leaves_left next x)
lane_form (Some before) next x = wire_of (gives_as_right before x) (leaves_left next x)

-- the tile at column x of the row between two operations, where there are s lanes
abbrev pub lane_tile : Option Operation → Option Operation → ℕ → ℕ → Option ℕ
lane_tile before next s x = if nat_lt x s then Some (lane_form before next x) else None

-- the tile at column x of the row of an operation
abbrev pub operation_tile : Operation → ℕ → Option ℕ
operation_tile op x =
    if x == op.lane then Some op.form
    else if takes_as_right op x then None
    else if nat_lt x op.lanes then Some wire_ll
    else None

-- the tile at column x of the last row, where there are s lanes
abbrev pub output_tile : ℕ → ℕ → Option ℕ
output_tile s x = if nat_lt x s then Some output_l else None

-- the tiles of a row of this width, by their columns
abbrev pub row_of : ℕ → (ℕ → Option ℕ) → List (Option ℕ)
row_of w tile = map tile (range_with_len 0 w)

-- the rows of these operations, which follow the one before, and those behind, where s lanes are left
unfoldable pub rows_of : ℕ → ℕ → Option Operation → List Operation → List (Option ℕ)
rows_of w s before [] = row_of w (lane_tile before None s) ++ row_of w (output_tile s)
rows_of w s before (op ∷ ops) =
    (row_of w (lane_tile before (Some op) op.lanes) ++ row_of w (operation_tile op))
    ++ rows_of w s (Some op) ops

-- how many rows there are
abbrev pub height_of : Network → ℕ
height_of N = 2 * length (end_of N).operations + 2

-- the grid of a network
unfoldable pub grid_of : Network → FormGrid
grid_of N = record {
  ratio = record { w = width_of N; h = height_of N };
  tiles = rows_of (width_of N) (length (end_of N).lanes) None (end_of N).operations;
}
