use Rattle.std.proofs.Common.{arith}
use Rattle.bx_map.proofs.Starts.{started, number-fits}
use Rattle.bx_map.proofs.fan_outs.FanOuts.number.Goals as goal

pub overflow_cast-result : goal.overflow_cast-result
overflow_cast-result c = let low = number-fits _ _ _ _ c.args.i c.index.result.now c.self.view_is c.self.invariant c.requires c.index.ensures in omega arith

pub returns-clause-number : goal.returns-clause-number
returns-clause-number c = started _ _ _ _ c.args.i c.index.result.now c.self.view_is c.self.invariant c.requires c.index.ensures
