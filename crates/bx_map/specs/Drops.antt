-- The drop: only cells from which an output can be reached stay, in their order.
use Rattle.std.specs.Prelude.{ℕ, zero, suc, ◌≡◌, ◌<◌, nat_lt, if◌then◌else◌, List, [], ◌∷◌, ◌++◌, length, map, slice_index, Contains}
use Rattle.std.specs.List.{count_by}
use Rattle.bx_map.specs.declared.cell.Cell.{Cell}
use Rattle.bx_map.specs.Cells.{CellNet, cell_at, operands_of, with_numbers}
use Rattle.bx_map.specs.Walks.{has}

-- an output has the value of this cell, or a cell reads it from which an output can be reached
pub data Reaches (net : CellNet) : ℕ → Type 0 where
  output : (i : ℕ) → Contains net.outputs i → Reaches net i
  through : (i j : ℕ) → Contains (operands_of (cell_at net.cells j)) i → Reaches net j → Reaches net i

-- those of the first so many cells that stay, where these are wanted by outputs and by later cells that stay
unfoldable pub stay_before : List Cell → ℕ → List ℕ → List ℕ
stay_before cells zero wanted = []
stay_before cells (suc i) wanted =
    if has wanted i then (stay_before cells i (operands_of (cell_at cells i) ++ wanted) ++ i ∷ []) else stay_before cells i wanted

-- the number of a cell among those that stay: how many before it do
abbrev pub rank : List ℕ → ℕ → ℕ
rank stay i = count_by (λ j. nat_lt j i) stay

-- only these cells, each with its number among them
abbrev pub restriction_of : CellNet → List ℕ → CellNet
restriction_of net stay = record {
  cells = map (λ i. with_numbers (rank stay) (cell_at net.cells i)) stay;
  outputs = map (rank stay) net.outputs;
}

-- the cells that stay, in their order
abbrev pub stay_of : CellNet → List ℕ
stay_of net = stay_before net.cells (length net.cells) net.outputs

-- those cells, with their numbers among them
abbrev pub cone_cells : CellNet → List Cell
cone_cells net = (restriction_of net (stay_of net)).cells

-- the cone of the outputs: the cells from which one can be reached, and no others
unfoldable pub cone_of : CellNet → CellNet
cone_of net = restriction_of net (stay_of net)

-- how many before each cell stay
pub record AreRanks (n : ℕ) (stay ranks : List ℕ) : Type 0 where
  pub whole : length ranks ≡ n
  pub each : (i : ℕ) → i < n → slice_index ranks i ≡ rank stay i
