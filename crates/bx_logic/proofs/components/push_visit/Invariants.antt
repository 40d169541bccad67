use Rattle.std.proofs.Common.{◌≡◌, ◌++◌, ◌∷◌, map, take}
use Rattle.bx_logic.specs.declared.components.Step.TheVariants.{Enter, Leave}
use Rattle.bx_logic.proofs.components.push_visit.Given as goal

abbrev pub invariant-loop-argument : goal.invariant-loop-argument
invariant-loop-argument l = l.steps.items ≡ l.fn.steps.items ++ (Leave l.net ∷ map Enter (take l.argument-index l.arguments))
