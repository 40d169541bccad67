use Rattle.bx_engine.proofs.Tasks.{limits_are, budget_is, design_cert, design_net, cert_net, design_lib, cert_lib}
use Rattle.bx_engine.proofs.laws.tasks.a_task_is_within_bounds.Goals as goal

pub returns-clause-limits : goal.returns-clause-limits
returns-clause-limits c = limits_are

pub returns-clause-budget : goal.returns-clause-budget
returns-clause-budget c = budget_is

pub returns-clause-apart : goal.returns-clause-apart
returns-clause-apart c = design_cert

pub returns-clause-net_apart : goal.returns-clause-net_apart
returns-clause-net_apart c = λ words task asks. (design_net words task asks, cert_net words task asks)

pub returns-clause-lib_apart : goal.returns-clause-lib_apart
returns-clause-lib_apart c = λ words task asks. (design_lib words task asks, cert_lib words task asks)
