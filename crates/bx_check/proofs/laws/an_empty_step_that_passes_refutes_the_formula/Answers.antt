use Rattle.bx_check.proofs.Sound.{passed_sound}
use Rattle.bx_check.proofs.Passing.{front_accepted}
use Rattle.bx_check.proofs.laws.an_empty_step_that_passes_refutes_the_formula.Goals as goal

pub returns : goal.returns
returns c = record { refutes = passed_sound; accepted = front_accepted }
