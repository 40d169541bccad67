use Rattle.bx_lex.proofs.ByKind.{tokens_of_kind}
use Rattle.bx_lex.proofs.laws.a_token_is_one_of_its_kind.Goals as goal

pub returns : goal.returns
returns c = tokens_of_kind
