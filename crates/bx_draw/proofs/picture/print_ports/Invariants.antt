-- The ports so far were printed.
use Rattle.std.proofs.Common.{take}
use Rattle.std.specs.List.{flat_map}
use Rattle.bx_desk.specs.Printing.{Prints}
use Rattle.bx_draw.specs.Pictures.{label_of, label_text}
use Rattle.bx_draw.proofs.picture.print_ports.Given as goal

abbrev pub invariant-loop-port : goal.invariant-loop-port
invariant-loop-port g l = Prints l.fn.printer l.printer (flat_map (λ port. label_text l.rows (label_of port)) (take l.port-index l.ports))
