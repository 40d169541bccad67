use Rattle.bx_syntax.proofs.ReadsExpressions.{joined_tree}
use Rattle.bx_syntax.proofs.expression.join.Goals as goal

pub returns-clause-found : goal.returns-clause-found
returns-clause-found c =
    joined_tree c.args.first c.args.second _ _ c.args.operator c.args.more c.in_ok-first.ensures.ok c.in_ok-second.ensures.ok
