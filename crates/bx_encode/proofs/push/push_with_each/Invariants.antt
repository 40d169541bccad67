-- The clauses so far.
use Rattle.std.proofs.Common.{[], ◌∷◌, map, take}
use Rattle.bx_encode.specs.Sizes.{Adds}
use Rattle.bx_encode.proofs.push.push_with_each.Given as goal

abbrev pub invariant-loop-second : goal.invariant-loop-second
invariant-loop-second l = Adds l.initial.clauses l.clauses (map (λ y. l.first ∷ y ∷ []) (take l.second-index l.later))
