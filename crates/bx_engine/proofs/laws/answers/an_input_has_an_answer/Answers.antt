use Rattle.bx_engine.proofs.Existence.{some_refusal, some_answer}
use Rattle.bx_engine.proofs.laws.answers.an_input_has_an_answer.Goals as goal

pub returns-clause-misused : goal.returns-clause-misused
returns-clause-misused c = some_refusal

pub returns-clause-asked : goal.returns-clause-asked
returns-clause-asked c = λ words files task text book asks there has each. some_answer words files task text book asks there has each
