use Rattle.bx_lex.proofs.Closes.{first_close}
use Rattle.bx_lex.proofs.laws.the_first_close_ends_a_comment.Goals as goal

pub returns : goal.returns
returns c = first_close
