-- The clauses so far.
use Rattle.std.proofs.Common.{[], ◌∷◌, map, filter}
use Rattle.std.specs.Prelude.{is_none}
use Rattle.std.specs.List.{range_with_len}
use Rattle.bx_grid.specs.Tiles.{below, border}
use Rattle.bx_forms.specs.declared.side.Side.TheVariants.{Left, Right}
use Rattle.bx_encode.specs.declared.variable.Variable.TheVariants.{EdgeOn}
use Rattle.bx_encode.specs.Variables.{isnt}
use Rattle.bx_encode.specs.Families.{each, edges}
use Rattle.bx_encode.specs.Sizes.{Adds}
use Rattle.bx_encode.proofs.borders.add_stays_on_grid.Given as goal

abbrev pub invariant-loop-t : goal.invariant-loop-t
invariant-loop-t l = Adds l.initial.to.clauses l.to.clauses (each (range_with_len 0 l.t) (λ t. each (filter (λ side. is_none (below l.frame.ratio t side)) (Left ∷ Right ∷ [])) (λ side. map (λ e. isnt l.frame.net.now l.frame.ratio (EdgeOn e (border t side)) ∷ []) (edges l.frame.net.now l.frame.ratio))))
