use Rattle.std.proofs.Common.{◌≡◌, map}
use Rattle.std.specs.List.{range_with_len}
use Rattle.bx_map.specs.declared.cell.Cell.TheVariants.{Input}
use Rattle.bx_map.proofs.fold.input_cells.Given as goal

abbrev pub invariant-loop-port : goal.invariant-loop-port
invariant-loop-port l = l.cells.items ≡ map Input (range_with_len 0 l.port)
