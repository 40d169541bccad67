use Rattle.std.proofs.Common.{length, arith}
use Rattle.bx_desk.proofs.Printing.{prints_nothing, prints_count, prints_counted}
use Rattle.bx_says.specs.Parts.{unused_text_at}
use Rattle.bx_says.proofs.head.print_unused.Goals as goal

pub loop-port-init : goal.loop-port-init
loop-port-init g c = prints_nothing _

pub loop-port-preserved : goal.loop-port-preserved
loop-port-preserved g c =
    prints_count (unused_text_at c.args.net.now c.args.mapped.now) (length c.args.net.now.inputs) c.loop-port.port (omega (arith, c.input_count-port-end.ensures.count)) c.loop-port.invariant c.print_if_unused.ensures

pub returns : goal.returns
returns g c =
    prints_counted (unused_text_at c.args.net.now c.args.mapped.now) (length c.args.net.now.inputs) c.loop-port.port (omega (arith, c.input_count-port-end.ensures.count)) c.loop-port.invariant
