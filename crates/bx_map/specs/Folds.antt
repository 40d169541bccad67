-- The fold: the value of each net, and the cells that it makes. Constants are folded away; equal
-- operands are not.
use Rattle.std.specs.Prelude.{ℕ, Bool, true, false, not, List, [], ◌∷◌, ◌++◌, length, map, slice_index_or, slice_set, replicate}
use Rattle.std.specs.List.{fold, range_with_len}
use Rattle.bx_logic.specs.declared.op.Op.{Op}
use Rattle.bx_logic.specs.declared.op.Op.TheVariants.{Buf, Not, And, Or, Nand, Nor, Xor, Xnor}
use Rattle.bx_logic.specs.declared.driver.Driver.{Driver}
use Rattle.bx_logic.specs.declared.driver.Driver.TheVariants as driver
use Rattle.bx_logic.specs.Nets.{Netlist, driver_at}
use Rattle.bx_forms.specs.declared.kind.Kind.{Kind}
use Rattle.bx_forms.specs.declared.kind.Kind.TheVariants as kind
use Rattle.bx_map.specs.declared.cell.Cell.{Cell}
use Rattle.bx_map.specs.declared.cell.Cell.TheVariants as cell
use Rattle.bx_map.specs.declared.cell.Value.{Value}
use Rattle.bx_map.specs.declared.cell.Value.TheVariants.{Constant, Signal}
use Rattle.bx_map.specs.Walks.{walk}

-- a value, and the cells that were made until then
pub record Fold : Type 0 where
  pub value : Value
  pub cells : List Cell

abbrev pub fold_of : Value → List Cell → Fold
fold_of value cells = record { value = value; cells = cells }

-- the value of a new cell behind these
abbrev pub with_cell : List Cell → Cell → Fold
with_cell cells new = fold_of (Signal (length cells)) (cells ++ new ∷ [])

-- Not of a constant is the other constant, and Not of a signal a new cell
abbrev pub inverse_of : List Cell → Value → Fold
inverse_of cells (Constant b) = fold_of (Constant (not b)) cells
inverse_of cells (Signal a) = with_cell cells (cell.Not a)

-- the kind of the cell that an operation of two signals makes; `Buf` and `Not` have one argument
abbrev pub gate_kind : Op → Kind
gate_kind Buf = kind.And
gate_kind Not = kind.Nand
gate_kind And = kind.And
gate_kind Or = kind.Or
gate_kind Nand = kind.Nand
gate_kind Nor = kind.Nor
gate_kind Xor = kind.Xor
gate_kind Xnor = kind.Xnor

-- an operation of a constant and a value
abbrev pub with_constant : Op → Bool → List Cell → Value → Fold
with_constant And false cells v = fold_of (Constant false) cells
with_constant Nand false cells v = fold_of (Constant true) cells
with_constant And true cells v = fold_of v cells
with_constant Nand true cells v = inverse_of cells v
with_constant Or true cells v = fold_of (Constant true) cells
with_constant Nor true cells v = fold_of (Constant false) cells
with_constant Or false cells v = fold_of v cells
with_constant Nor false cells v = inverse_of cells v
with_constant Xor false cells v = fold_of v cells
with_constant Xnor true cells v = fold_of v cells
with_constant Xor true cells v = inverse_of cells v
with_constant Xnor false cells v = inverse_of cells v
with_constant Buf b cells v = fold_of v cells
with_constant Not b cells v = inverse_of cells v

-- an operation of two values
abbrev pub combination_of : Op → List Cell → Value → Value → Fold
combination_of op cells (Signal a) (Signal b) = with_cell cells (cell.Gate (gate_kind op) a b)
combination_of op cells (Signal a) (Constant b) = with_constant op b cells (Signal a)
combination_of op cells (Constant a) v = with_constant op a cells v

-- the operation by which all arguments but the last are combined
abbrev pub plain_op : Op → Op
plain_op Nand = And
plain_op Nor = Or
plain_op Xnor = Xor
plain_op op = op

-- with one argument `And`, `Or` and `Xor` are `Buf`, and `Nand`, `Nor` and `Xnor` are `Not`
abbrev pub single_fold : Op → List Cell → Value → Fold
single_fold Not cells v = inverse_of cells v
single_fold Nand cells v = inverse_of cells v
single_fold Nor cells v = inverse_of cells v
single_fold Xnor cells v = inverse_of cells v
single_fold op cells v = fold_of v cells

-- the value so far combined with each further argument, the last one by the gate's own operation
abbrev pub chain_of : Op → Fold → List Value → Fold
chain_of op so_far [] = so_far
chain_of op so_far (v ∷ []) = combination_of op so_far.cells so_far.value v
chain_of op so_far (v ∷ w ∷ vs) = chain_of op (combination_of (plain_op op) so_far.cells so_far.value v) (w ∷ vs)

-- a gate of these arguments, of which there is at least one
abbrev pub gate_fold : Op → List Cell → List Value → Fold
gate_fold op cells [] = fold_of (Constant false) cells
gate_fold op cells (v ∷ []) = single_fold op cells v
gate_fold op cells (v ∷ w ∷ vs) = chain_of op (fold_of v cells) (w ∷ vs)

-- the value with this number
abbrev pub fold_value : List Value → ℕ → Value
fold_value values n = slice_index_or values n (Constant false)

-- what a driver makes of the values of the nets that it reads
abbrev pub driver_fold : List Value → List Cell → Driver → Fold
driver_fold values cells (driver.Input i) = fold_of (Signal i) cells
driver_fold values cells (driver.Constant b) = fold_of (Constant b) cells
driver_fold values cells (driver.Gate op args) = gate_fold op cells (map (fold_value values) args)

-- the values of nets, and the cells that were made for them
pub record Folding : Type 0 where
  pub values : List Value
  pub cells : List Cell

abbrev pub fold_state : List Value → List Cell → Folding
fold_state values cells = record { values = values; cells = cells }

-- this net has its value now
abbrev pub net_fold : List Driver → Folding → ℕ → Folding
net_fold drivers so_far n =
    let net = driver_fold so_far.values so_far.cells (driver_at drivers n) in
    fold_state (slice_set so_far.values n net.value) net.cells

-- the inputs are the first cells, in port order
abbrev pub before_folding : Netlist → Folding
before_folding net = fold_state (replicate (length net.drivers) (Constant false)) (map cell.Input (range_with_len 0 (length net.inputs)))

-- the nets are folded in the order of the walk
unfoldable pub folding : Netlist → Folding
folding net = fold (net_fold net.drivers) (before_folding net) (walk net)
