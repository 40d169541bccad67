use Rattle.std.proofs.Common.{arith}
use Rattle.bx_desk.proofs.Printing.{prints_nothing, prints_turn}
use Rattle.bx_draw.specs.Dotted.{dot_text}
use Rattle.bx_draw.proofs.dots.print_each.Goals as goal

pub loop-dot-init : goal.loop-dot-init
loop-dot-init g c = prints_nothing _

pub loop-dot-preserved : goal.loop-dot-preserved
loop-dot-preserved g c = prints_turn dot_text c.args.dots.now c.loop-dot.dot-index _ (omega arith) c.loop-dot.invariant c.print_dot.ensures
