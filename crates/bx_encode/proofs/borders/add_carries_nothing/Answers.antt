-- One clause more.
use Rattle.std.proofs.Common.{false, ◌∙◌, arith}
use Rattle.bx_encode.specs.declared.variable.Variable.TheVariants.{EdgeOn}
use Rattle.bx_encode.proofs.Adding.{adds-map-as, clause-as, one-as}
use Rattle.bx_encode.proofs.Shapes.{one-clause}
use Rattle.bx_encode.proofs.borders.add_carries_nothing.Goals as goal

pub add-requires : goal.add-requires
add-requires c = clause-as _ _ _ _ (c.loop-e.invariant.vars ∙ c.requires.vars) (one-as _ _ c.isnt.ensures) (one-clause _ _ (EdgeOn c.loop-e.e c.args.b) false (omega (arith, c.edge_count-e-end.ensures.is), c.requires.border))

pub loop-e-preserved : goal.loop-e-preserved
loop-e-preserved c = adds-map-as _ _ _ _ c.loop-e.e _ (one-as _ _ c.isnt.ensures) c.loop-e.invariant c.in_ok-add.ensures
