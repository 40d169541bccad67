use Rattle.bx_lex.proofs.ByKind.{faults_given}
use Rattle.bx_lex.proofs.laws.want_of_memory_is_no_fault.Goals as goal

pub returns : goal.returns
returns c = faults_given
