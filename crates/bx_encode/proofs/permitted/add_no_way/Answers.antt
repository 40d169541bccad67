-- One edge more.
use Rattle.std.proofs.Common.{false, ◌∙◌, arith}
use Rattle.bx_encode.specs.declared.variable.Variable.TheVariants.{Used, EdgeOn}
use Rattle.bx_encode.proofs.Adding.{adds-map-as, clause-as, three-as}
use Rattle.bx_encode.proofs.Shapes.{three-clause, used-edge, edge-edge}
use Rattle.bx_encode.proofs.permitted.add_no_way.Goals as goal

pub add-requires : goal.add-requires
add-requires c =
    clause-as _ _ _ _ (c.loop-e.invariant.vars ∙ c.requires.vars) (three-as _ _ _ _ _ _ c.isnt-unused.ensures c.isnt-off_above.ensures c.isnt-off_below.ensures)
    (three-clause _ _ (Used c.args.beside) (EdgeOn c.loop-e.e c.args.above) (EdgeOn c.loop-e.e c.args.below) false false false (omega (arith, c.edge_count-e-end.ensures.is), c.requires.below)
    (used-edge _ _ c.args.beside c.loop-e.e c.args.above c.requires.beside) (edge-edge _ _ c.loop-e.e c.args.above c.args.below c.requires.above))

pub loop-e-preserved : goal.loop-e-preserved
loop-e-preserved c = adds-map-as _ _ _ _ c.loop-e.e _ (three-as _ _ _ _ _ _ c.isnt-unused.ensures c.isnt-off_above.ensures c.isnt-off_below.ensures) c.loop-e.invariant c.in_ok-add.ensures
