use Rattle.std.proofs.Common.{arith}
use Rattle.bx_desk.proofs.Printing.{prints_nothing, prints_turn}
use Rattle.bx_lines.specs.Lines.{ended}
use Rattle.bx_cert.specs.declared.line.Line.TheVariants.{Place}
use Rattle.bx_cert.specs.Texts.{line_text}
use Rattle.bx_cert.proofs.write.print_spots.Goals as goal

pub loop-spot-init : goal.loop-spot-init
loop-spot-init g c = prints_nothing _

pub loop-spot-preserved : goal.loop-spot-preserved
loop-spot-preserved g c = prints_turn (λ spot. ended (line_text (Place spot))) c.args.spots.now c.loop-spot.spot-index _ (omega arith) c.loop-spot.invariant c.print_line.ensures
