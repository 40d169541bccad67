use Rattle.bx_lines.proofs.BadLines.{one_bad_line, no_bad_line}
use Rattle.bx_cert.specs.Texts.{IsCertText}
use Rattle.bx_cert.proofs.laws.a_text_of_a_certificate_has_no_bad_line.Goals as goal

pub returns-clause-one : goal.returns-clause-one
returns-clause-one c = one_bad_line IsCertText

pub returns-clause-none : goal.returns-clause-none
returns-clause-none c = no_bad_line IsCertText
