use Rattle.bx_cnf.proofs.Propagation.{conflict_sound, propagated_sound}
use Rattle.bx_cnf.proofs.laws.propagation_is_sound.Goals as goal

pub returns-clause-conflict : goal.returns-clause-conflict
returns-clause-conflict c = conflict_sound

pub returns-clause-propagated : goal.returns-clause-propagated
returns-clause-propagated c = propagated_sound
