use Rattle.std.proofs.Common.{arith}
use Rattle.bx_desk.proofs.Printing.{prints_nothing, prints_turn}
use Rattle.bx_lines.specs.Lines.{ended}
use Rattle.bx_draw.proofs.picture.print_lines.Goals as goal

pub loop-line-init : goal.loop-line-init
loop-line-init g c = prints_nothing _

pub loop-line-preserved : goal.loop-line-preserved
loop-line-preserved g c = prints_turn (λ line. ended line.now) c.args.lines.now c.loop-line.line-index _ (omega arith) c.loop-line.invariant c.print_line.ensures
