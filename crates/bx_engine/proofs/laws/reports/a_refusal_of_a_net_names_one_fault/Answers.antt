use Rattle.bx_engine.proofs.Refusals.{one_fault}
use Rattle.bx_engine.proofs.laws.reports.a_refusal_of_a_net_names_one_fault.Goals as goal

pub returns : goal.returns
returns c = one_fault
