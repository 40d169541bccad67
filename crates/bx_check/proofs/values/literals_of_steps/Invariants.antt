use Rattle.std.proofs.Common.{◌≤◌, map, take}
use Rattle.bx_proof.specs.Steps.{Step}
use Rattle.bx_check.specs.Valued.{literal_count}
use Rattle.bx_check.proofs.values.literals_of_steps.Given as goal

abbrev pub invariant-loop-k : goal.invariant-loop-k
invariant-loop-k l = l.count ≤ literal_count (take l.k (map (λ (s : Step). s.literals) l.steps.steps))
