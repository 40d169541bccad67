use Rattle.bx_lex.proofs.Readings.{some_reading, one_reading}
use Rattle.bx_lex.proofs.laws.a_text_has_one_reading.Goals as goal

pub returns-clause-some : goal.returns-clause-some
returns-clause-some c = some_reading

pub returns-clause-one : goal.returns-clause-one
returns-clause-one c = one_reading
