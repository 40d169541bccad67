-- A place and two borders.
use Rattle.std.proofs.Common.{false, sym, arith}
use Rattle.bx_grid.proofs.Neighbours.{border-inside}
use Rattle.bx_encode.specs.declared.variable.Variable.TheVariants.{NodeOn, Used}
use Rattle.bx_encode.proofs.Adding.{clause-as, three-as}
use Rattle.bx_encode.proofs.Shapes.{three-clause, node_on-used, used-used}
use Rattle.bx_encode.proofs.Barring.{entering-in, border-from}
use Rattle.bx_encode.proofs.permitted.add_off_both.Goals as goal

pub isnt-unused_above-requires : goal.isnt-unused_above-requires
isnt-unused_above-requires c = omega (arith, entering-in c.args.frame.now.ratio c.args.spot.tile c.in-Some.above c.args.spot.upper (sym c.in-Some.ensures), c.requires.tile)

pub add-requires : goal.add-requires
add-requires c =
    clause-as _ _ _ _ c.requires.vars (three-as _ _ _ _ _ _ c.isnt-place.ensures c.isnt-unused_above.ensures c.isnt-unused_below.ensures)
    (three-clause _ _ (NodeOn c.args.v c.args.spot.tile) (Used c.in-Some.above) (Used c.border-below.result) false false false (omega (arith, border-inside c.args.frame.now.ratio c.args.spot.tile c.args.spot.lower c.requires.tile, c.border-below.ensures))
    (node_on-used _ _ c.args.v c.args.spot.tile c.in-Some.above c.requires.node c.requires.tile)
    (used-used _ _ c.in-Some.above c.border-below.result (omega (arith, entering-in c.args.frame.now.ratio c.args.spot.tile c.in-Some.above c.args.spot.upper (sym c.in-Some.ensures), border-from c.args.spot.tile c.args.spot.lower, c.border-below.ensures))))
