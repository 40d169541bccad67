-- Why a net is not mapped.
use Rattle.std.specs.Prelude.{◌≡◌, ℕ, ◌<◌, Some, None}
use Rattle.bx_logic.specs.Nets.{Netlist}
use Rattle.bx_map.specs.declared.cells.NoCells.{NoCells}
use Rattle.bx_map.specs.declared.cells.NoCells.TheVariants as no_cells
use Rattle.bx_map.specs.declared.map.MapFault.{MapFault}
use Rattle.bx_map.specs.declared.map.MapFault.TheVariants.{ConstantOutput, TooManyNodes, NoMemory}
use Rattle.bx_map.specs.Maps.{first_constant, node_count}

-- the fault is right, where so many nodes are allowed: want of memory always is
abbrev pub IsMapFault : Netlist → ℕ → MapFault → Type 0
IsMapFault net most (ConstantOutput j) = first_constant net ≡ Some j
IsMapFault net most (TooManyNodes c) = (first_constant net ≡ None) × (c ≡ node_count net) × (most < c)
IsMapFault net most NoMemory = Unit {0}

-- the fault of a net that has no cells
abbrev pub fault_of : NoCells → MapFault
fault_of (no_cells.Constant j) = ConstantOutput j
fault_of no_cells.NoMemory = NoMemory
