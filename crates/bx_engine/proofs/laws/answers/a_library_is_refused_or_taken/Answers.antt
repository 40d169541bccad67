use Rattle.bx_engine.proofs.Readings.{library_refused_once, library_not_both, one_library}
use Rattle.bx_engine.proofs.laws.answers.a_library_is_refused_or_taken.Goals as goal

pub returns-clause-not_both : goal.returns-clause-not_both
returns-clause-not_both c = library_not_both

pub returns-clause-fault : goal.returns-clause-fault
returns-clause-fault c = library_refused_once

pub returns-clause-one_library : goal.returns-clause-one_library
returns-clause-one_library c = one_library
