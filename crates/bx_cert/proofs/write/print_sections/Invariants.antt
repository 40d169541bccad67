-- The lines of the sections so far were printed.
use Rattle.std.proofs.Common.{take}
use Rattle.std.specs.List.{flat_map}
use Rattle.bx_desk.specs.Printing.{Prints}
use Rattle.bx_lines.specs.Lines.{text_of}
use Rattle.bx_cert.specs.Texts.{section_lines}
use Rattle.bx_cert.proofs.write.print_sections.Given as goal

abbrev pub invariant-loop-section : goal.invariant-loop-section
invariant-loop-section g l = Prints l.fn.printer l.printer (flat_map (λ section. text_of (section_lines section)) (take l.section-index l.sections))
