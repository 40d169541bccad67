use Rattle.std.proofs.Common.{◌≡◌, ◌∷◌, length, rules, sym, ap, ◌∙◌, arith}
use Rattle.std.proofs.lemmas.Result.{err_from_is_err_and}
use Rattle.bx_syntax.specs.declared.terminal.Terminal.TheVariants.{Fixed}
use Rattle.bx_syntax.specs.declared.stop.Wanted.TheVariants.{Primary}
use Rattle.bx_syntax.specs.Trees.{tree}
use Rattle.bx_syntax.specs.ReadsExpressions.{primary_at}
use Rattle.bx_syntax.proofs.ReadsExpressions.{stopped_here, joined_one, joined_second_fails, joined_more_fails, joined_all, gives_tree, primary_tilde, primary_open, primary_empty, primary_mark, primary_neither, primary_name, primary_bit, fails_too, gives_same, level_none, level_some, operands_fail, operands_go_on, operands_end, operands_shrink, shrinks, tail-push}
use Rattle.bx_syntax.proofs.expression.+expressions.Goals as goal

pub level-returns-in-None : goal.level-returns-in-None
level-returns-in-None t c = gives_same tree _ c.primary.result _ _ (level_none _ _ c.args.terminals.now.items (omega (arith, c.in-None.ensures))) c.primary.ensures

pub level-returns-in-Some : goal.level-returns-in-Some
level-returns-in-Some t c = gives_same tree _ c.chain.result _ _ (level_some _ _ c.in-Some.below c.args.terminals.now.items (omega (arith, c.in-Some.ensures))) c.chain.ensures

pub nested-returns-in-Tilde : goal.nested-returns-in-Tilde
nested-returns-in-Tilde t c =
    gives_same tree _ c.inverse.result _ _
    (sym (ap (λ m. primary_at c.args.depth (Fixed m ∷ c.args.terminals.now.items)) c.in-Tilde.is ∙ primary_tilde _ _)) c.inverse.ensures

pub nested-returns-in-Open : goal.nested-returns-in-Open
nested-returns-in-Open t c =
    gives_same tree _ c.group.result _ _
    (sym (ap (λ m. primary_at c.args.depth (Fixed m ∷ c.args.terminals.now.items)) c.in-Open.is ∙ primary_open _ _)) c.group.ensures

pub nested-returns-in_default : goal.nested-returns-in_default
nested-returns-in_default t c = stopped_here Primary (Fixed c.args.mark ∷ c.args.terminals.now.items) c.args.left _ c.requires (primary_mark _ _ _ c.in_default.not-Tilde c.in_default.not-Open)

pub primary-returns-in_default : goal.primary-returns-in_default
primary-returns-in_default t c =
    let none = c.in_default.ensures.none in
    let same : c.len-left.result ≡ length c.args.terminals.now.items = search rules in
    stopped_here Primary c.args.terminals.now.items c.len-left.result (primary_at c.args.depth c.args.terminals.now.items) same (rw none (primary_empty c.args.depth))

pub primary-returns : goal.primary-returns
primary-returns t c = gives_same tree _ c.primary_from.result _ _ (ap (primary_at c.args.depth) (sym c.in-Some.ensures.taken)) c.primary_from.ensures

pub primary_from-returns-in-Name : goal.primary_from-returns-in-Name
primary_from-returns-in-Name t c = rw c.in-Name.is (primary_name _ _ _)

pub primary_from-returns-in-Bit : goal.primary_from-returns-in-Bit
primary_from-returns-in-Bit t c = rw c.in-Bit.is (primary_bit _ _ _)

pub primary_from-returns-in-GateWord : goal.primary_from-returns-in-GateWord
primary_from-returns-in-GateWord t c = stopped_here Primary (c.args.front ∷ c.args.terminals.now.items) c.args.left _ c.requires (primary_neither _ _ _ c.in-GateWord.is)

pub operands-returns-in_err-expr : goal.operands-returns-in_err-expr
operands-returns-in_err-expr t c =
    let p = err_from_is_err_and c.from_residual.result c.from_residual.ensures.1 in
    rw (p.1, p.2) (fails_too _ _ _ c.in_err-expr.ensures
    (operands_fail _ _ c.in-Some.operator _ _ _ _ (sym c.operator_at.ensures ∙ c.in-Some.is) c.take.ensures.rest c.loop-operator.invariant))

pub operands-loop-operator-smaller : goal.operands-loop-operator-smaller
operands-loop-operator-smaller t c = operands_shrink _ _ _ _ _ (shrinks c.args.depth c.args.below) c.take.ensures.rest c.in_ok-expr.ensures

pub operands-loop-operator-preserved : goal.operands-loop-operator-preserved
operands-loop-operator-preserved t c =
    rw (c.in_ok-push.ensures.items, tail-push)
    (operands_go_on _ _ c.in-Some.operator _ _ _ _ _ _ (shrinks c.args.depth c.args.below) (sym c.operator_at.ensures ∙ c.in-Some.is) c.take.ensures.rest c.loop-operator.invariant c.in_ok-expr.ensures)

pub operands-returns : goal.operands-returns
operands-returns t c = operands_end _ _ _ _ _ (sym c.operator_at.ensures ∙ c.in_default.is) c.loop-operator.invariant

pub chain-returns-in_default : goal.chain-returns-in_default
chain-returns-in_default t c = joined_one _ _ _ _ _ c.in_ok-first.ensures (sym c.operator_at.ensures ∙ c.in_default.is)

pub chain-returns-in_err-second : goal.chain-returns-in_err-second
chain-returns-in_err-second t c =
    let p = err_from_is_err_and c.from_residual-in_err-second.result c.from_residual-in_err-second.ensures.1 in
    rw (p.1, p.2) (fails_too _ _ _ c.in_err-second.ensures
    (joined_second_fails _ _ _ c.in-Some.operator _ _ _ c.in_ok-first.ensures (sym c.operator_at.ensures ∙ c.in-Some.is) c.take.ensures.rest))

pub chain-returns-in_err-more : goal.chain-returns-in_err-more
chain-returns-in_err-more t c =
    let p = err_from_is_err_and c.from_residual-in_err-more.result c.from_residual-in_err-more.ensures.1 in
    rw (p.1, p.2) (fails_too _ _ _ c.in_err-more.ensures
    (joined_more_fails _ _ _ _ c.in-Some.operator _ _ _ _ (shrinks c.args.depth c.args.below) c.in_ok-first.ensures (sym c.operator_at.ensures ∙ c.in-Some.is) c.take.ensures.rest c.in_ok-second.ensures))

pub chain-returns : goal.chain-returns
chain-returns t c =
    gives_tree c.join.result _ _ _ c.join.ensures.found c.join.ensures.failed
    (joined_all _ _ _ _ c.in-Some.operator _ _ _ _ _ _ (shrinks c.args.depth c.args.below) c.in_ok-first.ensures (sym c.operator_at.ensures ∙ c.in-Some.is) c.take.ensures.rest c.in_ok-second.ensures c.in_ok-more.ensures)
