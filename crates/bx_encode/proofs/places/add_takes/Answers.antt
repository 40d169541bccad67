-- One clause more.
use Rattle.std.proofs.Common.{true, false, ◌∙◌, arith}
use Rattle.bx_encode.specs.declared.variable.Variable.TheVariants.{NodeOn, Taken}
use Rattle.bx_encode.proofs.Adding.{adds-map-as, clause-as, two-as}
use Rattle.bx_encode.proofs.Shapes.{two-clause, node_on-taken}
use Rattle.bx_encode.proofs.places.add_takes.Goals as goal

pub add-requires : goal.add-requires
add-requires c = clause-as _ _ _ _ (c.loop-v.invariant.vars ∙ c.requires.vars) (two-as _ _ _ _ c.isnt.ensures c.is-taken.ensures) (two-clause _ _ (NodeOn c.loop-v.v c.args.t) (Taken c.args.t) false true c.requires.tile (node_on-taken _ _ c.loop-v.v c.args.t c.args.t (omega (arith, c.node_count-v-end.ensures.is)) c.requires.tile))

pub loop-v-preserved : goal.loop-v-preserved
loop-v-preserved c = adds-map-as _ _ _ _ c.loop-v.v _ (two-as _ _ _ _ c.isnt.ensures c.is-taken.ensures) c.loop-v.invariant c.in_ok-add.ensures
