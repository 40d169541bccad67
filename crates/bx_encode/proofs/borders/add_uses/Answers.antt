-- One clause more.
use Rattle.std.proofs.Common.{true, false, ◌∙◌, arith}
use Rattle.bx_encode.specs.declared.variable.Variable.TheVariants.{Used, EdgeOn}
use Rattle.bx_encode.proofs.Adding.{adds-map-as, clause-as, two-as}
use Rattle.bx_encode.proofs.Shapes.{two-clause, used-edge}
use Rattle.bx_encode.proofs.borders.add_uses.Goals as goal

pub add-requires : goal.add-requires
add-requires c = clause-as _ _ _ _ (c.loop-e.invariant.vars ∙ c.requires.vars) (two-as _ _ _ _ c.is-used.ensures c.isnt.ensures) (two-clause _ _ (Used c.args.b) (EdgeOn c.loop-e.e c.args.b) true false (omega (arith, c.edge_count-e-end.ensures.is), c.requires.border) (used-edge _ _ c.args.b c.loop-e.e c.args.b c.requires.border))

pub loop-e-preserved : goal.loop-e-preserved
loop-e-preserved c = adds-map-as _ _ _ _ c.loop-e.e _ (two-as _ _ _ _ c.is-used.ensures c.isnt.ensures) c.loop-e.invariant c.in_ok-add.ensures
