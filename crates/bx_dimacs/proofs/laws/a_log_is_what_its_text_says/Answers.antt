use Rattle.bx_dimacs.proofs.Written.{log_says}
use Rattle.bx_dimacs.proofs.laws.a_log_is_what_its_text_says.Goals as goal

pub returns : goal.returns
returns c = log_says
