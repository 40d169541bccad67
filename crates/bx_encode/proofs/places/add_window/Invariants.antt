-- The clauses so far.
use Rattle.std.proofs.Common.{[], ◌∷◌, map, filter, not}
use Rattle.std.specs.List.{range_with_len}
use Rattle.bx_grid.specs.Tiles.{y_of}
use Rattle.bx_encode.specs.declared.variable.Variable.TheVariants.{NodeOn}
use Rattle.bx_encode.specs.Variables.{isnt}
use Rattle.bx_encode.specs.Windows.{in_window}
use Rattle.bx_encode.specs.Sizes.{Adds}
use Rattle.bx_encode.proofs.places.add_window.Given as goal

abbrev pub invariant-loop-t : goal.invariant-loop-t
invariant-loop-t l = Adds l.initial.to.clauses l.to.clauses (map (λ t. isnt l.frame.net.now l.frame.ratio (NodeOn l.v t) ∷ []) (filter (λ t. not (in_window l.frame.net.now l.v (y_of l.frame.ratio t) l.frame.ratio.h)) (range_with_len 0 l.t)))
