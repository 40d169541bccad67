use Rattle.std.proofs.Common.{◌≡◌, drop, length}
use Rattle.std.specs.List.{fold}
use Rattle.bx_map.specs.Folds.{fold_state, net_fold, folding}
use Rattle.bx_map.proofs.fold.fold_net.Given as goal

abbrev pub invariant-loop-n : goal.invariant-loop-n
invariant-loop-n l = record {
  whole : length l.values.items ≡ length l.net.drivers;
  folds : fold (net_fold l.net.drivers) (fold_state l.values.items l.cells.items) (drop l.n-index l.n-items) ≡ folding l.net;
}
