use Rattle.std.proofs.Common.{◌≡◌, map}
use Rattle.std.specs.List.{range_with_len}
use Rattle.bx_logic.specs.declared.components.Step.TheVariants.{Enter}
use Rattle.bx_logic.proofs.components.all_entries.Given as goal

abbrev pub invariant-loop-net : goal.invariant-loop-net
invariant-loop-net l = l.steps.items ≡ map Enter (range_with_len 0 l.net)
