use Rattle.std.proofs.Common.{◌<◌, length, subst}
use Rattle.bx_map.specs.Cells.{CellNet}
use Rattle.bx_map.proofs.Starts.{outputs-few}
use Rattle.bx_map.proofs.fan_outs.FanOuts.outputs.Goals as goal

pub returns-clause-few : goal.returns-clause-few
returns-clause-few c = subst (λ (net : CellNet). length net.outputs < 4294967296) c.self.view_is (outputs-few _ c.self.invariant.few)
