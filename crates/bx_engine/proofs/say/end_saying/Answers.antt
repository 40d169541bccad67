use Rattle.bx_engine.proofs.Endings.{ends_well, ends_badly}
use Rattle.bx_engine.proofs.say.end_saying.Goals as goal

pub returns-in-Ok : goal.returns-in-Ok
returns-in-Ok g c = ends_well _ _ _ _ _ c.requires c.in-Ok.ensures.hands_on

pub returns-in-Err : goal.returns-in-Err
returns-in-Err g c = ends_badly _ _ _ _ _ c.requires c.in-Err.ensures.hands_on
