-- The clauses so far.
use Rattle.std.proofs.Common.{[], ◌∷◌, map}
use Rattle.std.specs.List.{range_with_len}
use Rattle.bx_encode.specs.declared.variable.Variable.TheVariants.{Used, EdgeOn}
use Rattle.bx_encode.specs.Variables.{isnt}
use Rattle.bx_encode.specs.Sizes.{Adds}
use Rattle.bx_encode.proofs.permitted.add_no_way.Given as goal

abbrev pub invariant-loop-e : goal.invariant-loop-e
invariant-loop-e l = Adds l.initial.to.clauses l.to.clauses (map (λ e. isnt l.frame.net.now l.frame.ratio (Used l.beside) ∷ isnt l.frame.net.now l.frame.ratio (EdgeOn e l.above) ∷ isnt l.frame.net.now l.frame.ratio (EdgeOn e l.below) ∷ []) (range_with_len 0 l.e))
