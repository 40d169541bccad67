use Rattle.bx_cnf.specs.Literals.{number_of-literal_of}
use Rattle.bx_cnf.proofs.Propagation.{literal_of-number_of}
use Rattle.bx_cnf.proofs.laws.a_literal_has_one_number.Goals as goal

pub returns-clause-number : goal.returns-clause-number
returns-clause-number c = number_of-literal_of

pub returns-clause-literal : goal.returns-clause-literal
returns-clause-literal c = literal_of-number_of
