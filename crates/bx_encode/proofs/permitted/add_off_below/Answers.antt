-- A place and a border.
use Rattle.std.proofs.Common.{false, arith}
use Rattle.bx_grid.proofs.Neighbours.{border-inside}
use Rattle.bx_encode.specs.declared.variable.Variable.TheVariants.{NodeOn, Used}
use Rattle.bx_encode.proofs.Adding.{clause-as, two-as}
use Rattle.bx_encode.proofs.Shapes.{two-clause, node_on-used}
use Rattle.bx_encode.proofs.permitted.add_off_below.Goals as goal

pub add-requires : goal.add-requires
add-requires c =
    clause-as _ _ _ _ c.requires.vars (two-as _ _ _ _ c.isnt-place.ensures c.isnt-unused.ensures)
    (two-clause _ _ (NodeOn c.args.v c.args.spot.tile) (Used c.border-below.result) false false (omega (arith, border-inside c.args.frame.now.ratio c.args.spot.tile c.args.spot.lower c.requires.tile, c.border-below.ensures)) (node_on-used _ _ c.args.v c.args.spot.tile c.border-below.result c.requires.node c.requires.tile))
