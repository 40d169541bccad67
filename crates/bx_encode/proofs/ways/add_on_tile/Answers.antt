-- One edge more.
use Rattle.bx_encode.proofs.Adding.{adds-each}
use Rattle.bx_encode.proofs.ways.add_on_tile.Goals as goal

pub loop-e-preserved : goal.loop-e-preserved
loop-e-preserved c = adds-each _ _ _ _ c.loop-e.e c.loop-e.invariant c.in_ok-add_rule.ensures
