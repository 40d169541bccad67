-- The lines of the ports so far were printed.
use Rattle.std.proofs.Common.{take, length}
use Rattle.std.specs.List.{flat_map, range_with_len}
use Rattle.bx_desk.specs.Printing.{Prints}
use Rattle.bx_layout.specs.Pins.{pins_at}
use Rattle.bx_says.specs.Ports.{port_at}
use Rattle.bx_says.specs.Parts.{kind_test, names_of, direction_word, port_text}
use Rattle.bx_says.proofs.pins.print_ports.Given as goal

abbrev pub invariant-loop-port : goal.invariant-loop-port
invariant-loop-port g l =
    Prints l.fn.printer l.printer
    (flat_map (λ port. port_text (direction_word l.direction) l.ratio (port_at (names_of l.direction l.net) (pins_at (kind_test l.direction) l.mapped.nodes l.places) port)) (take l.port (range_with_len 0 (length (names_of l.direction l.net)))))
