use Rattle.bx_lex.proofs.Places.{tokens_taken}
use Rattle.bx_lex.proofs.laws.a_token_is_taken_by_the_first_rule.Goals as goal

pub returns : goal.returns
returns c = tokens_taken
