use Rattle.std.proofs.Common.{subst, [], ◌∷◌, inl, inr}
use Rattle.bx_watch.specs.Readings.{IsRead}
use Rattle.bx_watch.proofs.Trails.{never_both}
use Rattle.bx_watch.proofs.ClauseReads.{read-first, read-second, two-more}
use Rattle.bx_watch.proofs.reading.Reading.with_true.Goals as goal

pub returns-in-False : goal.returns-in-False
returns-in-False c trail clause apart is holds below =
    (read-first trail clause c.args.lit (subst (IsRead trail clause) c.in-False.is is) (never_both trail c.args.lit apart holds), holds)

pub returns-in-Unit : goal.returns-in-Unit
returns-in-Unit c trail clause apart is holds below = elim c.in-Unit.is [
  | inl unit ↦ read-second trail clause unit.0 c.args.lit (subst (IsRead trail clause) unit.1 is).0 (never_both trail c.args.lit apart holds) below
  | inr (inl met) ↦ read-second trail clause met.0 c.args.lit (subst (IsRead trail clause) met.1 is).0 (never_both trail c.args.lit apart holds) below
  | inr (inr other) ↦ two-more trail clause (c.args.lit ∷ []) (subst (IsRead trail clause) other is)
]
