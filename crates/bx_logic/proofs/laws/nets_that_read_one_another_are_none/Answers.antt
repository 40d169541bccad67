use Rattle.bx_logic.specs.Nets.{directly, through}
use Rattle.bx_logic.proofs.laws.nets_that_read_one_another_are_none.Goals as goal

pub returns-clause-itself : goal.returns-clause-itself
returns-clause-itself c = λ net n reads h. h.acyclic n (directly n n reads)

pub returns-clause-each_other : goal.returns-clause-each_other
returns-clause-each_other c = λ net n m there back h. h.acyclic n (through n m n there (directly m n back))
