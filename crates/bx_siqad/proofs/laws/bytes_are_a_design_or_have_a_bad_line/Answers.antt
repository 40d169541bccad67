use Rattle.bx_siqad.proofs.Deciding.{some_reading}
use Rattle.bx_siqad.proofs.laws.bytes_are_a_design_or_have_a_bad_line.Goals as goal

pub returns : goal.returns
returns c = some_reading
