use Rattle.std.proofs.Common.{◌≡◌, map, drop}
use Rattle.bx_map.specs.Folds.{chain_of, fold_of, fold_value}
use Rattle.bx_map.proofs.fold.chained_value.Given as goal

abbrev pub invariant-loop-k : goal.invariant-loop-k
invariant-loop-k l =
    chain_of l.op (fold_of l.value l.cells.items) (map (fold_value l.values) (drop l.k l.further))
    ≡ chain_of l.op (fold_of l.fn.first l.fn.cells.items) (map (fold_value l.values) l.further)
