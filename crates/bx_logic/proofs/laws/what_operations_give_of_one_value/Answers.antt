use Rattle.std.proofs.Common.{ap, not}
use Rattle.bx_logic.proofs.Operations.{conjunction_one, disjunction_one, parity_one}
use Rattle.bx_logic.proofs.laws.what_operations_give_of_one_value.Goals as goal

pub returns-clause-and : goal.returns-clause-and
returns-clause-and c = conjunction_one

pub returns-clause-or : goal.returns-clause-or
returns-clause-or c = disjunction_one

pub returns-clause-xor : goal.returns-clause-xor
returns-clause-xor c = parity_one

pub returns-clause-nand : goal.returns-clause-nand
returns-clause-nand c = λ b. ap not (conjunction_one b)

pub returns-clause-nor : goal.returns-clause-nor
returns-clause-nor c = λ b. ap not (disjunction_one b)

pub returns-clause-xnor : goal.returns-clause-xnor
returns-clause-xnor c = λ b. ap not (parity_one b)
