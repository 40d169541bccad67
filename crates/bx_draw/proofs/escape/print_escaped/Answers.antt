use Rattle.std.proofs.Common.{arith}
use Rattle.bx_desk.proofs.Printing.{prints_nothing, prints_turn}
use Rattle.bx_draw.specs.Escapes.{escaped_byte}
use Rattle.bx_draw.proofs.escape.print_escaped.Goals as goal

pub loop-byte-init : goal.loop-byte-init
loop-byte-init g c = prints_nothing _

pub loop-byte-preserved : goal.loop-byte-preserved
loop-byte-preserved g c = prints_turn escaped_byte c.args.name.now c.loop-byte.byte-index _ (omega arith) c.loop-byte.invariant c.print_byte.ensures
