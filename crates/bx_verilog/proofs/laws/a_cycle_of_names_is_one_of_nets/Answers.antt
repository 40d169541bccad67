use Rattle.bx_verilog.proofs.Cyclic.{acyclic-names, acyclic-net, cycle-numbered}
use Rattle.bx_verilog.proofs.laws.a_cycle_of_names_is_one_of_nets.Goals as goal

pub returns-clause-names : goal.returns-clause-names
returns-clause-names c = cycle-numbered

pub returns-clause-none : goal.returns-clause-none
returns-clause-none c = λ m driven. (λ free. acyclic-net m free, λ acyclic. acyclic-names m driven acyclic)
