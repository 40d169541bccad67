use Rattle.std.proofs.Common.{ℕ, ◌<◌, length}
use Rattle.bx_logic.specs.Nets.{Reads}
use Rattle.bx_tests_logic.proofs.cycles.reads_nets_only.Given as goal

abbrev pub invariant-loop-driver : goal.invariant-loop-driver
invariant-loop-driver l = (n : ℕ) → n < l.driver-index → (m : ℕ) → Reads l.drivers n m → m < length l.drivers
