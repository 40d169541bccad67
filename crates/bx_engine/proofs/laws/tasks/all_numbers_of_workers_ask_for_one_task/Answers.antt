use Rattle.bx_engine.proofs.Tasks.{one_for_all, answer_for_all}
use Rattle.bx_engine.proofs.laws.tasks.all_numbers_of_workers_ask_for_one_task.Goals as goal

pub returns-clause-task : goal.returns-clause-task
returns-clause-task c = λ one other task differ is. one_for_all one other differ task is

pub returns-clause-answer : goal.returns-clause-answer
returns-clause-answer c = λ one other inputs answer differ is. answer_for_all one other differ inputs answer is
