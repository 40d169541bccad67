use Rattle.std.proofs.Common.{◌+◌, ◌*◌, arith}
use Rattle.bx_network.proofs.Placed.{out-read}
use Rattle.bx_network.proofs.mapped.MappedNet.edge_out.Goals as goal

pub returns : goal.returns
returns c = out-read _ _ _ _ _ _ c.self.view_is c.self.invariant c.args.v c.args.slot c.requires (2 * c.args.v + c.from.result) c.index.result.now (omega arith) c.index.ensures
