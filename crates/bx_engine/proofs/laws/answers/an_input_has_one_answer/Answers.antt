use Rattle.bx_engine.proofs.Answers.{one_answer, by_names}
use Rattle.bx_engine.proofs.laws.answers.an_input_has_one_answer.Goals as goal

pub returns-clause-one : goal.returns-clause-one
returns-clause-one c = one_answer

pub returns-clause-named : goal.returns-clause-named
returns-clause-named c = by_names
