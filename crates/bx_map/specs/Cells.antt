-- Cells: the nodes of a network before fan-outs. A cell is known by its place in a list of cells.
use Rattle.std.specs.Prelude.{◌≡◌, ℕ, ◌<◌, List, [], ◌∷◌, length, slice_index_or}
use Rattle.std.specs.List.{AllByRecursion}
use Rattle.bx_forms.specs.Kinds.{slots, operands}
use Rattle.bx_forms.specs.declared.kind.Kind.{Kind}
use Rattle.bx_forms.specs.declared.kind.Kind.TheVariants as kind
use Rattle.bx_map.specs.declared.cell.Cell.{Cell}
use Rattle.bx_map.specs.declared.cell.Cell.TheVariants.{Input, Not, Gate}

abbrev pub kind_of : Cell → Kind
kind_of (Input port) = kind.Input
kind_of (Not a) = kind.Not
kind_of (Gate gate a b) = gate

-- the port of an input, and 0 at other cells
abbrev pub port_of : Cell → ℕ
port_of (Input port) = port
port_of (Not a) = 0
port_of (Gate gate a b) = 0

-- the cells whose values it reads, operand 0 first
abbrev pub operands_of : Cell → List ℕ
operands_of (Input port) = []
operands_of (Not a) = a ∷ []
operands_of (Gate gate a b) = a ∷ b ∷ []

-- the cell with other numbers for what it reads
abbrev pub with_numbers : (ℕ → ℕ) → Cell → Cell
with_numbers f (Input port) = Input port
with_numbers f (Not a) = Not (f a)
with_numbers f (Gate gate a b) = Gate gate (f a) (f b)

-- the cell with this number, and any cell where there is none
abbrev pub cell_at : List Cell → ℕ → Cell
cell_at cells i = slice_index_or cells i (Input 0)

-- a net in cells: what they are, and the cell whose value each output has
pub record CellNet : Type 0 where
  pub cells : List Cell
  pub outputs : List ℕ

abbrev pub cell_net : List Cell → List ℕ → CellNet
cell_net cells outputs = record { cells = cells; outputs = outputs }

-- each cell reads earlier ones
abbrev pub ReadsEarlier : List Cell → Type 0
ReadsEarlier cells = (j : ℕ) → AllByRecursion (λ a. a < j) (operands_of (cell_at cells j))

-- each cell reads earlier ones, as many as its kind has operands, and gives one value; outputs have
-- values of cells, and no two cells are inputs of one port
pub record AreCells (net : CellNet) : Type 0 where
  pub reads : ReadsEarlier net.cells
  pub arity : (j : ℕ) → j < length net.cells → length (operands_of (cell_at net.cells j)) ≡ operands (kind_of (cell_at net.cells j))
  pub slot : (j : ℕ) → j < length net.cells → slots (kind_of (cell_at net.cells j)) ≡ 1
  pub outputs : AllByRecursion (λ a. a < length net.cells) net.outputs
  pub apart : (i j port : ℕ) → i < length net.cells → j < length net.cells → cell_at net.cells i ≡ Input port → cell_at net.cells j ≡ Input port → i ≡ j
