-- The tiles outside the window.
use Rattle.bx_encode.proofs.Adding.{adds-filtered}
use Rattle.bx_encode.proofs.places.add_window.Goals as goal

pub loop-t-preserved : goal.loop-t-preserved
loop-t-preserved c = adds-filtered _ _ _ _ _ c.loop-t.t c.loop-t.invariant c.in_ok-add_outside.ensures
