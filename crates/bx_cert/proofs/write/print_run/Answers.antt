use Rattle.std.proofs.Common.{ap}
use Rattle.bx_desk.proofs.Printing.{prints_then, prints_as}
use Rattle.bx_lines.specs.Lines.{ended}
use Rattle.bx_cert.specs.declared.line.Line.TheVariants.{Run}
use Rattle.bx_cert.specs.Texts.{line_text}
use Rattle.bx_cert.proofs.write.print_run.Goals as goal

pub returns : goal.returns
returns g c = prints_then (prints_as (ap (λ n. ended (line_text (Run c.args.ratio n))) c.len.ensures.count) c.print_line.ensures) c.print_steps.ensures.prints
