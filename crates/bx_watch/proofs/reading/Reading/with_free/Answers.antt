use Rattle.std.proofs.Common.{subst, [], ◌∷◌}
use Rattle.bx_watch.specs.Readings.{IsRead}
use Rattle.bx_watch.proofs.ClauseReads.{read-first, read-second, two-more}
use Rattle.bx_watch.proofs.reading.Reading.with_free.Goals as goal

pub returns-in-False : goal.returns-in-False
returns-in-False c trail clause is free below = (read-first trail clause c.args.lit (subst (IsRead trail clause) c.in-False.is is) free.1, free)

pub returns-in-Unit : goal.returns-in-Unit
returns-in-Unit c trail clause is free below = read-second trail clause _ c.args.lit (subst (IsRead trail clause) c.in-Unit.is is).0 free.1 below

pub returns-in-Met : goal.returns-in-Met
returns-in-Met c trail clause is free below = read-second trail clause _ c.args.lit (subst (IsRead trail clause) c.in-Met.is is).0 free.1 below

pub returns-in-Other : goal.returns-in-Other
returns-in-Other c trail clause is free below = two-more trail clause (c.args.lit ∷ []) (subst (IsRead trail clause) c.in-Other.is is)
