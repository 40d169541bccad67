use Rattle.std.proofs.Common.{subst}
use Rattle.bx_watch.specs.Watching.{Watch, NoneActive}
use Rattle.bx_search.proofs.solver.Solver.next.Goals as goal

pub choose-requires-clause-quiet : goal.choose-requires-clause-quiet
choose-requires-clause-quiet c = subst (λ (w : Watch). NoneActive w.trail w.clauses) c.requires.watches (c.least_active.ensures.none c.in-None.is)
