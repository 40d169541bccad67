use Rattle.std.proofs.Common.{◌≡◌, ℕ, ◌<◌, false, map, take, get_or}
use Rattle.bx_map.specs.declared.cell.Value.TheVariants.{Constant}
use Rattle.bx_map.specs.Maps.{is_constant, output_folds, signal_of}
use Rattle.bx_map.proofs.outputs.output_cells.Given as goal

abbrev pub invariant-loop-j : goal.invariant-loop-j
invariant-loop-j l = record {
  made : l.outputs.items ≡ map signal_of (take l.j (output_folds l.net));
  signals : (k : ℕ) → k < l.j → is_constant (get_or (output_folds l.net) k (Constant false)) ≡ false;
}
