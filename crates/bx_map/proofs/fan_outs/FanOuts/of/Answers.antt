use Rattle.std.proofs.Common.{◌∙◌}
use Rattle.bx_map.proofs.Starts.{outputs-few, within-all}
use Rattle.bx_map.proofs.fan_outs.FanOuts.of.Goals as goal

pub uses_of-requires : goal.uses_of-requires
uses_of-requires c = outputs-few c.args.net c.requires.few

pub starts_of-requires : goal.starts_of-requires
starts_of-requires c = within-all _ c.requires.net _ _ c.cells-cells.ensures (c.deref.ensures.value ∙ c.in_ok-uses.ensures)

pub sorted_consumers-requires-clause-within : goal.sorted_consumers-requires-clause-within
sorted_consumers-requires-clause-within c = within-all _ c.requires.net _ _ c.cells-cells.ensures (c.deref-2.ensures.value ∙ c.in_ok-uses.ensures)
