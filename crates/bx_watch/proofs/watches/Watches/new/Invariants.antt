use Rattle.bx_watch.specs.Keeping.{tables_of, IsReady, up_to}
use Rattle.bx_watch.proofs.watches.Watches.new.Given as goal

abbrev pub invariant-loop-number : goal.invariant-loop-number
invariant-loop-number l = IsReady (up_to l.number l.store) l.trail.literals (tables_of l.watches)
