use Rattle.std.proofs.Common.{◌+◌, length}
use Rattle.bx_logic.specs.Components.{IsSearch}
use Rattle.bx_logic.proofs.Cycles.{unseen_cost}
use Rattle.bx_logic.proofs.components.component_ranks.Given as goal

abbrev pub invariant-loop-step : goal.invariant-loop-step
invariant-loop-step l = IsSearch (length l.drivers) l.search

abbrev pub decreases-loop-step : goal.decreases-loop-step
decreases-loop-step l = length l.search.steps.items + unseen_cost (λ seen. seen) l.search.seen.items l.drivers
