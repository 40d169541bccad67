use Rattle.bx_desk.proofs.Printing.{prints_then, prints_as}
use Rattle.bx_says.proofs.Printed.{pins_are}
use Rattle.bx_says.proofs.pins.print_pins.Goals as goal

pub returns : goal.returns
returns g c = prints_as (pins_are c.args.net.now c.args.mapped.now c.args.ratio c.args.places.now) (prints_then c.print_ports.ensures c.print_ports-2.ensures)
