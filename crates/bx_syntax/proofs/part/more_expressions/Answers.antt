use Rattle.std.proofs.Common.{sym, ◌∙◌}
use Rattle.std.proofs.lemmas.Result.{err_from_is_err_and}
use Rattle.std.proofs.lemmas.List.{map_push}
use Rattle.bx_syntax.specs.ReadsModules.{expression, comma_next, comma_step}
use Rattle.bx_syntax.proofs.ReadsExpressions.{fails_too}
use Rattle.bx_syntax.proofs.Repeats.{loop_fails, loop_goes_on, loop_ends}
use Rattle.bx_syntax.proofs.ModuleSteps.{expressions_repeat}
use Rattle.bx_syntax.proofs.part.more_expressions.Goals as goal

pub returns-in_err-expression : goal.returns-in_err-expression
returns-in_err-expression c =
    let p = err_from_is_err_and c.from_residual-in_err-expression.result c.from_residual-in_err-expression.ensures.1 in
    rw (p.1, p.2) (fails_too _ _ _ c.in_err-expression.ensures
    (loop_fails comma_next (comma_step (expression 256)) (expressions_repeat 256) tt _ _ _ (sym c.next_is.ensures ∙ c.more-test.true) c.more.invariant))

pub more-smaller : goal.more-smaller
more-smaller c = (expressions_repeat 256).less tt _ ((_, tt), _) c.in_ok-expression.ensures

pub more-preserved : goal.more-preserved
more-preserved c =
    rw (c.in_ok-push.ensures.items, map_push)
    (loop_goes_on comma_next (comma_step (expression 256)) (expressions_repeat 256) tt tt _ _ _ _ _ (sym c.next_is.ensures ∙ c.more-test.true) c.more.invariant c.in_ok-expression.ensures)

pub returns : goal.returns
returns c = loop_ends comma_next (comma_step (expression 256)) tt _ _ _ (sym c.next_is.ensures ∙ c.more-test.false) c.more.invariant
