-- The clauses so far.
use Rattle.std.proofs.Common.{[], ◌∷◌, ◌++◌, map}
use Rattle.std.specs.List.{range_with_len}
use Rattle.bx_encode.specs.declared.variable.Variable.TheVariants.{Used, EdgeOn}
use Rattle.bx_encode.specs.Variables.{is, isnt}
use Rattle.bx_encode.specs.Families.{each, edges}
use Rattle.bx_encode.specs.Sizes.{Adds}
use Rattle.bx_encode.proofs.borders.add_is_used.Given as goal

abbrev pub invariant-loop-b : goal.invariant-loop-b
invariant-loop-b l = Adds l.initial.to.clauses l.to.clauses (each (range_with_len 0 l.b) (λ b. map (λ e. is l.frame.net.now l.frame.ratio (Used b) ∷ isnt l.frame.net.now l.frame.ratio (EdgeOn e b) ∷ []) (edges l.frame.net.now l.frame.ratio) ++ (isnt l.frame.net.now l.frame.ratio (Used b) ∷ map (λ e. is l.frame.net.now l.frame.ratio (EdgeOn e b)) (edges l.frame.net.now l.frame.ratio)) ∷ []))
