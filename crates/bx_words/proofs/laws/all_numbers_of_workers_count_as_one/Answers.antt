use Rattle.bx_words.proofs.Workers.{faults, commands}
use Rattle.bx_words.proofs.laws.all_numbers_of_workers_count_as_one.Goals as goal

pub returns-clause-fault : goal.returns-clause-fault
returns-clause-fault c = faults

pub returns-clause-command : goal.returns-clause-command
returns-clause-command c one other asked too d = commands one other d asked too
