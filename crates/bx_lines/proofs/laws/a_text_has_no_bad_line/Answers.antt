use Rattle.std.proofs.Common.{◌≡◌, refl}
use Rattle.bx_lines.specs.Lines.{text_of}
use Rattle.bx_lines.proofs.BadLines.{no_bad_line}
use Rattle.bx_lines.proofs.laws.a_text_has_no_bad_line.Goals as goal

pub returns : goal.returns
returns c = λ lines k bad. no_bad_line (λ text. text ≡ text_of lines) (text_of lines) k refl bad
