use Rattle.bx_lex.proofs.ByKind.{taken_of_kind, fault_at}
use Rattle.bx_lex.proofs.Taken.{kind_taken, fault_refused}
use Rattle.bx_lex.proofs.laws.a_lexeme_is_what_its_kind_says.Goals as goal

pub returns-clause-taken : goal.returns-clause-taken
returns-clause-taken c = λ place text p. (taken_of_kind place text p, kind_taken place text p)

pub returns-clause-refused : goal.returns-clause-refused
returns-clause-refused c = λ place text fault. (fault_at place text fault, fault_refused place text fault)
