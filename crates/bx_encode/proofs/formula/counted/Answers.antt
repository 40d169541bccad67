-- A network has few edges.
use Rattle.bx_encode.proofs.Framing.{frame-is}
use Rattle.bx_encode.proofs.formula.counted.Goals as goal

pub invariant_of-frame-clause-few_edges : goal.invariant_of-frame-clause-few_edges
invariant_of-frame-clause-few_edges c = (frame-is c.args.net.now c.args.ratio c.node_count-nodes.ensures.network c.requires.grid c.requires.nodes c.requires.area).few_edges

pub returns-clause-frame : goal.returns-clause-frame
returns-clause-frame c = frame-is c.args.net.now c.args.ratio c.node_count-nodes.ensures.network c.requires.grid c.requires.nodes c.requires.area
