use Rattle.bx_watch.specs.Keeping.{tables_of}
use Rattle.bx_watch.proofs.Releasing.{IsReleasing}
use Rattle.bx_watch.proofs.watches.Watches.release.Given as goal

abbrev pub invariant-loop-item : goal.invariant-loop-item
invariant-loop-item l = IsReleasing l.item-items (tables_of l.initial.self) (tables_of l.self) l.item-index
