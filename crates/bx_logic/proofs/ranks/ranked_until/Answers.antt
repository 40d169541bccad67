use Rattle.std.proofs.Common.{refl}
use Rattle.bx_logic.proofs.Cycles.{falls-acyclic}
use Rattle.bx_logic.proofs.ranks.ranked_until.Goals as goal

pub returns-then-never_rises-clause-acyclic : goal.returns-then-never_rises-clause-acyclic
returns-then-never_rises-clause-acyclic c n h =
    falls-acyclic _ _ (c.if-never_rises.ensures.0 refl) n (c.first_level.ensures.falls n h)
