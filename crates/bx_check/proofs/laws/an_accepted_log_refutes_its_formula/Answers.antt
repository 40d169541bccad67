use Rattle.bx_check.proofs.Sound.{accepted_sound}
use Rattle.bx_check.proofs.laws.an_accepted_log_refutes_its_formula.Goals as goal

pub returns : goal.returns
returns c = accepted_sound
