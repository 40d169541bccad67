use Rattle.bx_engine.proofs.Effects.{others_stay, unwritten_unsaid}
use Rattle.bx_engine.proofs.laws.effects.what_is_not_written_stays.Goals as goal

pub returns-clause-others : goal.returns-clause-others
returns-clause-others c = λ old new file name fails differ. others_stay old new file name differ fails

pub returns-clause-said : goal.returns-clause-said
returns-clause-said c = unwritten_unsaid
