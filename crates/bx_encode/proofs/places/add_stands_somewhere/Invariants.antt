-- The clauses so far.
use Rattle.std.proofs.Common.{map}
use Rattle.std.specs.List.{range_with_len}
use Rattle.bx_encode.specs.declared.variable.Variable.TheVariants.{NodeOn}
use Rattle.bx_encode.specs.Variables.{is}
use Rattle.bx_encode.specs.Families.{tiles}
use Rattle.bx_encode.specs.Sizes.{Adds}
use Rattle.bx_encode.proofs.places.add_stands_somewhere.Given as goal

abbrev pub invariant-loop-v : goal.invariant-loop-v
invariant-loop-v l = Adds l.initial.to.clauses l.to.clauses (map (λ v. map (λ t. is l.frame.net.now l.frame.ratio (NodeOn v t)) (tiles l.frame.net.now l.frame.ratio)) (range_with_len 0 l.v))
