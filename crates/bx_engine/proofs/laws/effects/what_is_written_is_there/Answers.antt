use Rattle.bx_engine.proofs.Effects.{file_there, others_there, nothing_said, no_fault}
use Rattle.bx_engine.proofs.laws.effects.what_is_written_is_there.Goals as goal

pub returns-clause-there : goal.returns-clause-there
returns-clause-there c = λ old new file files writes e. file_there old new file writes files e

pub returns-clause-others : goal.returns-clause-others
returns-clause-others c = λ old new file name writes differ. others_there old new file writes name differ

pub returns-clause-said : goal.returns-clause-said
returns-clause-said c = nothing_said

pub returns-clause-faults : goal.returns-clause-faults
returns-clause-faults c = no_fault
