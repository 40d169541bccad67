use Rattle.std.proofs.Common.{sym, ◌∙◌}
use Rattle.bx_syntax.proofs.Faults.{construct_none, construct_some}
use Rattle.bx_syntax.proofs.read.construct_at.Goals as goal

pub returns-in_default : goal.returns-in_default
returns-in_default c = λ k e. construct_none c.args.text.now c.args.tokens.now c.args.wanted k (sym c.in_default.is ∙ c.token_at.ensures.token k e)

pub returns : goal.returns
returns c = λ k e. construct_some c.args.text.now c.args.tokens.now c.args.wanted k c.in-Some.token _ (sym c.in-Some.is ∙ c.token_at.ensures.token k e) c.construct.ensures
