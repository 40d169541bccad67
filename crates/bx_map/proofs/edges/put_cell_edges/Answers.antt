use Rattle.std.proofs.Common.{◌++◌, [], ◌∷◌, subst, sym, ap, ◌∙◌, arith}
use Rattle.std.specs.List.{AllByRecursion}
use Rattle.std.proofs.lemmas.Result.{on_ok_weaker}
use Rattle.bx_network.specs.declared.node.Edge.{Edge}
use Rattle.bx_map.specs.FanOuts.{IsConsumerOf}
use Rattle.bx_map.proofs.Starts.{consumers-few, consumers-own}
use Rattle.bx_map.proofs.Making.{cell_edges-put}
use Rattle.bx_map.proofs.edges.put_cell_edges.Goals as goal

pub overflow_add-node : goal.overflow_add-node
overflow_add-node c =
    let few = consumers-few _ c.number-node.ensures.net c.args.cell c.number-node.result _ c.number-node.ensures.few c.requires c.number-node.ensures.number c.consumers-consumers.ensures.consumers in
    omega (arith, few.0, few.1)

pub entry-target-requires-clause-own : goal.entry-target-requires-clause-own
entry-target-requires-clause-own c = subst (AllByRecursion (IsConsumerOf c.args.fan_outs.now)) (sym c.consumers-consumers.ensures.consumers) (consumers-own c.args.fan_outs.now c.args.cell)

pub overflow_add-node-2 : goal.overflow_add-node-2
overflow_add-node-2 c =
    let few = consumers-few _ c.number-node.ensures.net c.args.cell c.number-node.result _ c.number-node.ensures.few c.requires c.number-node.ensures.number c.consumers-consumers.ensures.consumers in
    omega (arith, few.0, few.1)

pub put_fan_edges-requires-clause-own : goal.put_fan_edges-requires-clause-own
put_fan_edges-requires-clause-own c = subst (AllByRecursion (IsConsumerOf c.args.fan_outs.now)) (sym c.consumers-consumers.ensures.consumers) (consumers-own c.args.fan_outs.now c.args.cell)

pub put_fan_edges-requires-clause-numbers : goal.put_fan_edges-requires-clause-numbers
put_fan_edges-requires-clause-numbers c =
    let few = consumers-few _ c.number-node.ensures.net c.args.cell c.number-node.result _ c.number-node.ensures.few c.requires c.number-node.ensures.number c.consumers-consumers.ensures.consumers in
    omega (arith, few.1)

pub put_fan_edges-requires-clause-shallow : goal.put_fan_edges-requires-clause-shallow
put_fan_edges-requires-clause-shallow c =
    let few = consumers-few _ c.number-node.ensures.net c.args.cell c.number-node.result _ c.number-node.ensures.few c.requires c.number-node.ensures.number c.consumers-consumers.ensures.consumers in
    omega (arith, few.1)

pub returns : goal.returns
returns c =
    on_ok_weaker c.put_fan_edges.result
    (λ put.
    cell_edges-put c.args.fan_outs.now c.args.cell c.number-node.result _ c.entry-target.result c.args.edges.now.items c.push.new.self.items _ c.number-node.ensures.number
    c.consumers-consumers.ensures.consumers c.entry-target.ensures (c.in_ok-push.ensures.items ∙ ap (λ (e : Edge). c.args.edges.now.items ++ e ∷ []) c.edge_to.ensures) put)
    c.put_fan_edges.ensures
