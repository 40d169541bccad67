-- The borders are in the grid.
use Rattle.bx_encode.proofs.Adding.{item-in}
use Rattle.bx_encode.proofs.literals.add_on.Goals as goal

pub edge_on-requires-clause-border : goal.edge_on-requires-clause-border
edge_on-requires-clause-border c = c.requires.borders _ (item-in c.args.borders.now c.loop-b.b-index 0 c.loop-b-test.true)
