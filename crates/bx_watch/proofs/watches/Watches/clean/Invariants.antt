use Rattle.bx_watch.specs.Keeping.{tables_of}
use Rattle.bx_watch.proofs.Cleaning.{IsCleaning, trues}
use Rattle.bx_watch.proofs.watches.Watches.clean.Given as goal

abbrev pub invariant-loop-number : goal.invariant-loop-number
invariant-loop-number l = IsCleaning l.store l.trail.literals (tables_of l.initial.self) (tables_of l.self) l.parked

abbrev pub decreases-loop-number : goal.decreases-loop-number
decreases-loop-number l = trues l.self.pending
