use Rattle.std.proofs.Common.{ap, ◌∙◌}
use Rattle.std.specs.Prelude.{decimal}
use Rattle.bx_desk.proofs.Printing.{prints_then, prints_as}
use Rattle.bx_proof.proofs.write.print_literal.Goals as goal

pub returns : goal.returns
returns g c = prints_as c.front_of.ensures (prints_then c.bytes.ensures (prints_as (ap decimal (c.from.ensures ∙ c.var.ensures.var)) c.number.ensures))
