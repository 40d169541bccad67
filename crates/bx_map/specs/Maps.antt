-- The mapped network of a net: fold, drop, base order, fan-outs and numbers, one after the other.
use Rattle.std.specs.Prelude.{◌≡◌, ℕ, Bool, true, false, List, length, map, Option, None}
use Rattle.std.specs.List.{position}
use Rattle.bx_logic.specs.Nets.{Netlist, output_nets}
use Rattle.bx_network.specs.Networks.{Network}
use Rattle.bx_map.specs.declared.cell.Value.{Value}
use Rattle.bx_map.specs.declared.cell.Value.TheVariants.{Constant, Signal}
use Rattle.bx_map.specs.Cells.{CellNet}
use Rattle.bx_map.specs.Folds.{fold_value, folding}
use Rattle.bx_map.specs.Drops.{cone_of}
use Rattle.bx_map.specs.Numbers.{numbering_of}

abbrev pub is_constant : Value → Bool
is_constant (Constant b) = true
is_constant (Signal a) = false

-- the cell whose value it is
abbrev pub signal_of : Value → ℕ
signal_of (Constant b) = 0
signal_of (Signal a) = a

-- the values of the outputs, in port order
abbrev pub output_folds : Netlist → List Value
output_folds net = map (fold_value (folding net).values) (output_nets net)

-- the first output that folds to a constant
abbrev pub first_constant : Netlist → Option ℕ
first_constant net = position is_constant (output_folds net)

-- all cells, and those whose values the outputs have
abbrev pub all_cells : Netlist → CellNet
all_cells net = record { cells = (folding net).cells; outputs = map signal_of (output_folds net) }

-- these are the cells of the outputs, none of which folds to a constant
abbrev pub AreSignals : Netlist → List ℕ → Type 0
AreSignals net outputs = (first_constant net ≡ None) × (outputs ≡ map signal_of (output_folds net))

-- these are the cells from which an output can be reached, and no output folds to a constant
abbrev pub HasCells : Netlist → CellNet → Type 0
HasCells net cells = (first_constant net ≡ None) × (cells ≡ cone_of (all_cells net))

-- the mapped network, where no output folds to a constant
abbrev pub mapping_of : Netlist → Network
mapping_of net = numbering_of (cone_of (all_cells net))

abbrev pub node_count : Netlist → ℕ
node_count net = length (mapping_of net).nodes
