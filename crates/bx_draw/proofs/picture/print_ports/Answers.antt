use Rattle.std.proofs.Common.{arith, ap, ◌∙◌}
use Rattle.std.specs.List.{flat_map}
use Rattle.std.proofs.lemmas.List.{take_all}
use Rattle.bx_desk.proofs.Printing.{prints_nothing, prints_turn, prints_as}
use Rattle.bx_draw.specs.Pictures.{label_of, label_text}
use Rattle.bx_draw.proofs.Drawn.{ports_drawn}
use Rattle.bx_draw.proofs.picture.print_ports.Goals as goal

pub loop-port-init : goal.loop-port-init
loop-port-init g c = prints_nothing _

pub loop-port-preserved : goal.loop-port-preserved
loop-port-preserved g c = prints_turn (λ port. label_text c.args.rows (label_of port)) c.args.ports.now c.loop-port.port-index _ (omega arith) c.loop-port.invariant c.print_port.ensures

pub returns : goal.returns
returns g c = prints_as
    (ap (flat_map (λ port. label_text c.args.rows (label_of port))) (take_all c.loop-port.port-index c.args.ports.now (omega arith)) ∙ ports_drawn c.args.rows c.args.ports.now)
    c.loop-port.invariant
