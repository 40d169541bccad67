use Rattle.std.proofs.Common.{rules}
use Rattle.bx_logic.proofs.ComponentSteps.{steps-begun}
use Rattle.bx_logic.proofs.components.Search.new.Goals as goal

pub returns : goal.returns
returns c = record { components = c.in_ok-components.ensures; seen = search rules; steps = steps-begun _ _ c.in_ok-steps.ensures }
