use Rattle.std.proofs.Common.{◌*◌, length}
use Rattle.bx_network.proofs.Placed.{AreSet, out_place, in_place}
use Rattle.bx_network.proofs.ends.Ends.of.Given as goal

abbrev pub invariant-loop-number : goal.invariant-loop-number
invariant-loop-number l =
    AreSet out_place l.edges (2 * length l.nodes) l.number l.outs.items × AreSet in_place l.edges (2 * length l.nodes) l.number l.ins.items
