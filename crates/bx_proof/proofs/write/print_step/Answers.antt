use Rattle.bx_desk.proofs.Printing.{prints_then, prints_as}
use Rattle.bx_proof.proofs.StepLines.{line_is}
use Rattle.bx_proof.proofs.write.print_step.Goals as goal

pub returns : goal.returns
returns g c =
    prints_as (line_is c.args.id c.args.literals.now c.args.hints.now)
    (prints_then c.number.ensures (prints_then c.print_literals.ensures (prints_then c.bytes.ensures (prints_then c.print_hints.ensures c.bytes-2.ensures))))
