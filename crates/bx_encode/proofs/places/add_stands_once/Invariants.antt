-- The clauses so far.
use Rattle.std.proofs.Common.{map}
use Rattle.std.specs.List.{range_with_len}
use Rattle.bx_encode.specs.declared.variable.Variable.TheVariants.{NodeOn}
use Rattle.bx_encode.specs.Variables.{isnt}
use Rattle.bx_encode.specs.Families.{each, pairs, tiles}
use Rattle.bx_encode.specs.Sizes.{Adds}
use Rattle.bx_encode.proofs.places.add_stands_once.Given as goal

abbrev pub invariant-loop-v : goal.invariant-loop-v
invariant-loop-v l = Adds l.initial.to.clauses l.to.clauses (each (range_with_len 0 l.v) (λ v. pairs (map (λ t. isnt l.frame.net.now l.frame.ratio (NodeOn v t)) (tiles l.frame.net.now l.frame.ratio))))
