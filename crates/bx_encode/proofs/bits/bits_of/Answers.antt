-- The bits solve the formula under each permit, since the layout is legal under it.
use Rattle.bx_encode.proofs.Solving.{solved}
use Rattle.bx_encode.proofs.bits.bits_of.Goals as goal

pub returns-clause-solve : goal.returns-clause-solve
returns-clause-solve c permit legal = solved c.args.net.now permit c.args.layout.now c.counted-count.ensures.frame.network legal _ c.marked.ensures
