use Rattle.bx_check.proofs.Sound.{step_sound}
use Rattle.bx_check.proofs.laws.a_step_that_follows_is_true_where_the_clauses_are.Goals as goal

pub returns : goal.returns
returns c = step_sound
