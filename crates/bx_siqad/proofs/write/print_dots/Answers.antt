use Rattle.std.proofs.Common.{arith}
use Rattle.bx_desk.proofs.Printing.{prints_nothing, prints_turn}
use Rattle.bx_lines.specs.Lines.{ended}
use Rattle.bx_siqad.specs.Texts.{dot_line}
use Rattle.bx_siqad.proofs.write.print_dots.Goals as goal

pub loop-dot-init : goal.loop-dot-init
loop-dot-init g c = prints_nothing _

pub loop-dot-preserved : goal.loop-dot-preserved
loop-dot-preserved g c = prints_turn (λ dot. ended (dot_line dot)) c.args.dots.now c.loop-dot.dot-index _ (omega arith) c.loop-dot.invariant c.print_dot.ensures
