-- The clauses so far.
use Rattle.std.proofs.Common.{map}
use Rattle.std.specs.List.{range_with_len}
use Rattle.bx_encode.specs.declared.variable.Variable.TheVariants.{NodeOn}
use Rattle.bx_encode.specs.Variables.{isnt}
use Rattle.bx_encode.specs.Families.{each, pairs, nodes}
use Rattle.bx_encode.specs.Sizes.{Adds}
use Rattle.bx_encode.proofs.places.add_stands_apart.Given as goal

abbrev pub invariant-loop-t : goal.invariant-loop-t
invariant-loop-t l = Adds l.initial.to.clauses l.to.clauses (each (range_with_len 0 l.t) (λ t. pairs (map (λ v. isnt l.frame.net.now l.frame.ratio (NodeOn v t)) (nodes l.frame.net.now l.frame.ratio))))
