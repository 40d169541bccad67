-- The clauses so far.
use Rattle.std.proofs.Common.{[], ◌∷◌, map}
use Rattle.std.specs.List.{range_with_len}
use Rattle.bx_encode.specs.declared.variable.Variable.TheVariants.{NodeOn, Taken}
use Rattle.bx_encode.specs.Variables.{is, isnt}
use Rattle.bx_encode.specs.Sizes.{Adds}
use Rattle.bx_encode.proofs.places.add_takes.Given as goal

abbrev pub invariant-loop-v : goal.invariant-loop-v
invariant-loop-v l = Adds l.initial.to.clauses l.to.clauses (map (λ v. isnt l.frame.net.now l.frame.ratio (NodeOn v l.t) ∷ is l.frame.net.now l.frame.ratio (Taken l.t) ∷ []) (range_with_len 0 l.v))
