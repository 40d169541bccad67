use Rattle.std.proofs.Common.{refl}
use Rattle.bx_network.proofs.Window.{window-is}
use Rattle.bx_network.proofs.mapped.MappedNet.in_window.Goals as goal

pub returns : goal.returns
returns c = window-is _ _ _ _ _ _ _ _ (c.node.result, c.node.ensures, refl) c.down.ensures c.up.ensures c.may_stand.ensures
