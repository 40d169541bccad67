use Rattle.std.proofs.Common.{arith}
use Rattle.bx_trace.proofs.Steps.{first-within}
use Rattle.bx_trace.proofs.border_edges.slot_on.Goals as goal

pub edge-first-requires : goal.edge-first-requires
edge-first-requires c =
    let within = first-within c.args.net.now c.args.v c.requires.network c.requires.fan in
    omega (arith, c.edge_out.ensures)
