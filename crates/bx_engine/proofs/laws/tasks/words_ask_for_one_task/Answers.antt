use Rattle.bx_engine.proofs.Tasks.{one_task}
use Rattle.bx_engine.proofs.laws.tasks.words_ask_for_one_task.Goals as goal

pub returns : goal.returns
returns c = one_task
