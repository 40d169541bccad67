-- A place and a border.
use Rattle.std.proofs.Common.{false, sym, arith}
use Rattle.bx_encode.specs.declared.variable.Variable.TheVariants.{NodeOn, Used}
use Rattle.bx_encode.proofs.Adding.{clause-as, two-as}
use Rattle.bx_encode.proofs.Shapes.{two-clause, node_on-used}
use Rattle.bx_encode.proofs.Barring.{entering-in}
use Rattle.bx_encode.proofs.permitted.add_off_above.Goals as goal

pub isnt-unused-requires : goal.isnt-unused-requires
isnt-unused-requires c = omega (arith, entering-in c.args.frame.now.ratio c.args.spot.tile c.in-Some.above c.args.spot.upper (sym c.in-Some.ensures), c.requires.tile)

pub add-requires : goal.add-requires
add-requires c =
    clause-as _ _ _ _ c.requires.vars (two-as _ _ _ _ c.isnt-place.ensures c.isnt-unused.ensures)
    (two-clause _ _ (NodeOn c.args.v c.args.spot.tile) (Used c.in-Some.above) false false (omega (arith, entering-in c.args.frame.now.ratio c.args.spot.tile c.in-Some.above c.args.spot.upper (sym c.in-Some.ensures), c.requires.tile)) (node_on-used _ _ c.args.v c.args.spot.tile c.in-Some.above c.requires.node c.requires.tile))
