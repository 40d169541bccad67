-- Why there are no cells of a net.
use Rattle.std.specs.Prelude.{◌≡◌, Some}
use Rattle.bx_logic.specs.Nets.{Netlist}
use Rattle.bx_map.specs.declared.cells.NoCells.{NoCells}
use Rattle.bx_map.specs.declared.cells.NoCells.TheVariants.{Constant, NoMemory}
use Rattle.bx_map.specs.Maps.{first_constant}

-- the refusal is right: want of memory always is
abbrev pub IsNoCells : Netlist → NoCells → Type 0
IsNoCells net (Constant j) = first_constant net ≡ Some j
IsNoCells net NoMemory = Unit {0}
