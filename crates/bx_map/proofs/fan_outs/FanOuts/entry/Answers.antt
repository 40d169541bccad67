use Rattle.std.proofs.Common.{arith}
use Rattle.bx_map.proofs.Trees.{entry-one, entry-many}
use Rattle.bx_map.proofs.fan_outs.FanOuts.entry.Goals as goal

pub returns-then-consumers-eq1 : goal.returns-then-consumers-eq1
returns-then-consumers-eq1 c = entry-one _ _ _ _ _ c.if-consumers-eq1.true c.place.ensures

pub returns-else-consumers-eq1 : goal.returns-else-consumers-eq1
returns-else-consumers-eq1 c = entry-many _ _ c.args.consumers.now (omega arith)
