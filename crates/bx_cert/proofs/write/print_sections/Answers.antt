use Rattle.std.proofs.Common.{ap, arith}
use Rattle.bx_desk.proofs.Printing.{prints_nothing, prints_turn, prints_as}
use Rattle.bx_lines.specs.Lines.{text_of}
use Rattle.bx_cert.specs.declared.parts.Section.{Section}
use Rattle.bx_cert.specs.Texts.{section_lines}
use Rattle.bx_cert.proofs.write.print_sections.Goals as goal

pub loop-section-init : goal.loop-section-init
loop-section-init g c = prints_nothing _

pub loop-section-preserved : goal.loop-section-preserved
loop-section-preserved g c =
    prints_turn (λ (s : Section). text_of (section_lines s)) c.args.sections.now c.loop-section.section-index c.section-item.result (omega arith) c.loop-section.invariant
    (prints_as (ap (λ (s : Section). text_of (section_lines s)) c.section-item.is) c.print_section.ensures)
