use Rattle.std.proofs.Common.{ap, ◌∙◌, length, List, arith}
use Rattle.std.specs.List.{slice_range}
use Rattle.bx_map.specs.declared.consumer.Consumer.{Consumer}
use Rattle.bx_map.proofs.Starts.{parts-in_order, parts-within, part-is}
use Rattle.bx_map.proofs.fan_outs.FanOuts.consumers.Goals as goal

pub part_of-requires-clause-order : goal.part_of-requires-clause-order
part_of-requires-clause-order c = parts-in_order _ _ _ _ c.args.i _ _ c.self.view_is c.self.invariant c.requires c.index.ensures c.index-2.ensures

pub part_of-requires-clause-within : goal.part_of-requires-clause-within
part_of-requires-clause-within c =
    let low = parts-within _ _ _ _ c.args.i c.index-2.result.now c.self.view_is c.self.invariant c.requires c.index-2.ensures in
    let same = ap length c.deref.ensures.value in
    omega (arith, low, same)

pub returns-clause-consumers : goal.returns-clause-consumers
returns-clause-consumers c =
    part-is _ _ _ _ _ c.args.i c.index.result.now c.index-2.result.now c.self.view_is c.self.invariant c.requires c.index.ensures c.index-2.ensures
    (c.part_of.ensures ∙ ap (λ (items : List Consumer). slice_range items c.index.result.now c.index-2.result.now) c.deref.ensures.value)
