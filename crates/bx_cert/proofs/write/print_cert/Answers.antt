use Rattle.std.proofs.Common.{◌∙◌}
use Rattle.bx_desk.proofs.Printing.{prints_then, prints_as}
use Rattle.bx_cert.proofs.Written.{parts_are}
use Rattle.bx_cert.proofs.write.print_cert.Goals as goal

pub returns-clause-prints : goal.returns-clause-prints
returns-clause-prints g c =
    prints_as (parts_are c.args.cert.now _ _ _ _ c.limits.ensures.limits c.budget.ensures.budget (c.as_slice.ensures ∙ c.sections.ensures.sections) c.last.ensures.last)
    (prints_then c.print_line.ensures (prints_then c.print_line-2.ensures (prints_then c.print_sections.ensures (prints_then c.print_last.ensures c.print_line-3.ensures))))
