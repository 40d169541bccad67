use Rattle.std.proofs.Common.{List, length, arith}
use Rattle.bx_desk.proofs.Printing.{prints_nothing, prints_count, prints_counted, prints_as}
use Rattle.bx_layout.specs.Pins.{Pin, pins_at}
use Rattle.bx_says.specs.Texts.{Text}
use Rattle.bx_says.specs.Ports.{port_at}
use Rattle.bx_says.specs.Parts.{kind_test, names_of, direction_word, port_text}
use Rattle.bx_says.proofs.Printed.{port_is}
use Rattle.bx_says.proofs.pins.print_ports.Goals as goal

pub loop-port-init : goal.loop-port-init
loop-port-init g c = prints_nothing _

pub loop-port-preserved : goal.loop-port-preserved
loop-port-preserved g c =
    let word : Text = direction_word c.args.direction in
    let names : List Text = names_of c.args.direction c.args.net.now in
    let pins : List Pin = pins_at (kind_test c.args.direction) c.args.mapped.now.nodes c.args.places.now in
    prints_count (λ port. port_text word c.args.ratio (port_at names pins port)) (length names) c.loop-port.port (omega (arith, c.port_count-port-end.ensures)) c.loop-port.invariant
    (prints_as (port_is word c.args.ratio names pins c.loop-port.port c.port_name.result.now c.tile_of-tile.result c.port_name.ensures c.tile_of-tile.ensures) c.print_port.ensures)

pub returns : goal.returns
returns g c =
    let names : List Text = names_of c.args.direction c.args.net.now in
    let pins : List Pin = pins_at (kind_test c.args.direction) c.args.mapped.now.nodes c.args.places.now in
    prints_counted (λ port. port_text (direction_word c.args.direction) c.args.ratio (port_at names pins port)) (length names) c.loop-port.port (omega (arith, c.port_count-port-end.ensures)) c.loop-port.invariant
