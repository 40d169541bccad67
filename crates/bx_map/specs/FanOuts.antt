-- Fan-outs: what reads the value of each cell, and the tree of fans that serves it.
use Rattle.std.specs.Prelude.{◌≡◌, ◌<◌, ℕ, zero, suc, ◌+◌, ◌/◌, ◌==◌, nat_lt, if◌then◌else◌, List, [], ◌∷◌, ◌++◌, length, map, filter, take, drop, slice_index_or}
use Rattle.bx_map.specs.declared.cell.Cell.{Cell}
use Rattle.bx_map.specs.declared.consumer.Consumer.{Consumer}
use Rattle.bx_map.specs.declared.consumer.Consumer.TheVariants.{Operand, Output}
use Rattle.bx_map.specs.declared.consumer.Use.{Use}
use Rattle.bx_map.specs.Cells.{CellNet, operands_of, AreCells}

abbrev pub use_of : ℕ → Consumer → Use
use_of i consumer = record { cell = i; consumer = consumer }

-- the uses by the operands of a cell, from one operand on
abbrev pub operand_uses : ℕ → ℕ → List ℕ → List Use
operand_uses cell k [] = []
operand_uses cell k (i ∷ is) = use_of i (Operand cell k) ∷ operand_uses cell (suc k) is

-- the uses by cells, from one cell on: operand 0 before operand 1
abbrev pub cell_uses : ℕ → List Cell → List Use
cell_uses j [] = []
cell_uses j (c ∷ cs) = operand_uses j 0 (operands_of c) ++ cell_uses (suc j) cs

-- the uses by outputs, from one port on
abbrev pub output_uses : ℕ → List ℕ → List Use
output_uses j [] = []
output_uses j (i ∷ is) = use_of i (Output j) ∷ output_uses (suc j) is

-- operands in the order of the cells, and then outputs in port order
unfoldable pub uses : CellNet → List Use
uses net = cell_uses 0 net.cells ++ output_uses 0 net.outputs

unfoldable pub consumers : CellNet → ℕ → List Consumer
consumers net i = map (λ u. u.consumer) (filter (λ u. u.cell == i) (uses net))

-- one consumer, by a direct edge, or a fan with what its two slots serve
pub data FanOut : Type 0 where
  direct : Consumer → FanOut
  fan : FanOut → FanOut → FanOut

-- the first half, which is the larger one
abbrev pub half : ℕ → ℕ
half k = (k + 1) / 2

-- what serves these consumers, of which there is at least one: more than one are served by a fan, whose
-- slot 0 serves the first half and slot 1 the others, each by the same rule. As many halvings as there
-- are consumers are enough.
unfoldable pub tree_within : ℕ → List Consumer → FanOut
tree_within zero cs = direct (slice_index_or cs 0 (Output 0))
tree_within (suc k) cs =
    if nat_lt 1 (length cs) then fan (tree_within k (take (half (length cs)) cs)) (tree_within k (drop (half (length cs)) cs))
    else direct (slice_index_or cs 0 (Output 0))

abbrev pub tree_of : List Consumer → FanOut
tree_of cs = tree_within (length cs) cs

unfoldable pub tree_at : CellNet → ℕ → FanOut
tree_at net i = tree_of (consumers net i)

-- an operand of one of its cells, or one of its outputs
abbrev pub IsConsumerOf : CellNet → Consumer → Type 0
IsConsumerOf net (Operand j k) = j < length net.cells
IsConsumerOf net (Output port) = port < length net.outputs

-- a net in cells of which each is read
pub record IsCellNet (net : CellNet) : Type 0 where
  pub cells : AreCells net
  pub consumed : (i : ℕ) → i < length net.cells → 0 < length (consumers net i)
