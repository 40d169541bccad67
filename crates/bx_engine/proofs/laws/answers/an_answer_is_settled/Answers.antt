use Rattle.bx_engine.proofs.Answers.{settled_answer}
use Rattle.bx_engine.proofs.laws.answers.an_answer_is_settled.Goals as goal

pub returns : goal.returns
returns c = settled_answer
