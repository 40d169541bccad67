use Rattle.bx_sat.specs.Sayings.EndsSaying.{done, failed}
use Rattle.bx_sat.proofs.say.say.Goals as goal

pub returns-in-Ok : goal.returns-in-Ok
returns-in-Ok g c = done c.in-Ok.ensures.ok

pub returns-in-Err : goal.returns-in-Err
returns-in-Err g c = failed c.in-Err.ensures.err
