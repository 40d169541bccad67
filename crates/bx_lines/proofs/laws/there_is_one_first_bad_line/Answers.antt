use Rattle.std.proofs.Common.{◌≡◌}
use Rattle.bx_lines.specs.Lines.{text_of}
use Rattle.bx_lines.proofs.BadLines.{one_bad_line}
use Rattle.bx_lines.proofs.laws.there_is_one_first_bad_line.Goals as goal

pub returns : goal.returns
returns c = λ lines bytes j k a b. one_bad_line (λ text. text ≡ text_of lines) bytes j k a b
