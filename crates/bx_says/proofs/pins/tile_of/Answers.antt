use Rattle.std.proofs.Common.{sym, ◌∙◌, arith, add-one}
use Rattle.bx_network.proofs.Lists.{got-slice_get}
use Rattle.bx_says.specs.Parts.{kind_test}
use Rattle.bx_says.proofs.Standing.{stands_here, passed_over, none_left}
use Rattle.bx_says.proofs.pins.tile_of.Goals as goal

pub returns-then-stands_for : goal.returns-then-stands_for
returns-then-stands_for c =
    sym (c.loop-v.invariant ∙ stands_here (kind_test c.args.direction) c.args.port c.args.mapped.now.nodes c.args.places.now c.loop-v.v c.node.result _ c.node.ensures
    (got-slice_get c.args.places.now c.loop-v.v 0 (omega (arith, c.requires, c.node_count-v-end.ensures.count)))
    (sym c.stands_for.ensures ∙ c.if-stands_for.true))

pub loop-v-preserved : goal.loop-v-preserved
loop-v-preserved c =
    rw add-one (c.loop-v.invariant ∙ passed_over (kind_test c.args.direction) c.args.port c.args.mapped.now.nodes c.args.places.now c.loop-v.v c.node.result _ c.node.ensures
    (got-slice_get c.args.places.now c.loop-v.v 0 (omega (arith, c.requires, c.node_count-v-end.ensures.count)))
    (sym c.stands_for.ensures ∙ c.if-stands_for.false))

pub returns : goal.returns
returns c =
    sym (c.loop-v.invariant ∙ none_left (kind_test c.args.direction) c.args.port c.args.mapped.now.nodes c.args.places.now c.loop-v.v (omega (arith, c.node_count-v-end.ensures.count)))
