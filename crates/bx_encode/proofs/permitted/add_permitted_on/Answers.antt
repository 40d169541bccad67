-- One form more.
use Rattle.bx_encode.proofs.Adding.{adds-each-filtered}
use Rattle.bx_encode.proofs.permitted.add_permitted_on.Goals as goal

pub loop-number-preserved : goal.loop-number-preserved
loop-number-preserved c = adds-each-filtered _ _ _ _ _ c.loop-number.number c.loop-number.invariant c.in_ok-add_numbered.ensures
