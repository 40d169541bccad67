use Rattle.std.proofs.Common.{◌<◌, ℕ}
use Rattle.bx_logic.specs.Nets.{DependsOn}
use Rattle.bx_logic.proofs.cycle.least_net_on_cycle.Given as goal

abbrev pub invariant-loop-net : goal.invariant-loop-net
invariant-loop-net l = (n : ℕ) → n < l.net → DependsOn l.drivers n n → ⊥
