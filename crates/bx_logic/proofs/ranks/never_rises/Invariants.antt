use Rattle.std.proofs.Common.{ℕ, ◌<◌, ◌≤◌, slice_index}
use Rattle.bx_logic.specs.Nets.{Reads}
use Rattle.bx_logic.proofs.ranks.never_rises.Given as goal

abbrev pub invariant-loop-net : goal.invariant-loop-net
invariant-loop-net l = (n : ℕ) → n < l.net → (m : ℕ) → Reads l.drivers n m → slice_index l.ranks m ≤ slice_index l.ranks n
