use Rattle.bx_lex.proofs.Cuts.{tokens_spans, tokens_whole}
use Rattle.bx_lex.proofs.laws.tokens_stand_in_order.Goals as goal

pub returns-clause-spans : goal.returns-clause-spans
returns-clause-spans c = tokens_spans

pub returns-clause-whole : goal.returns-clause-whole
returns-clause-whole c = tokens_whole
