use Rattle.std.proofs.Common.{sym, ◌∙◌}
use Rattle.std.proofs.lemmas.Result.{err_from_is_err_and}
use Rattle.std.proofs.lemmas.List.{map_push}
use Rattle.bx_syntax.specs.ReadsModules.{item_next, one_item}
use Rattle.bx_syntax.proofs.ReadsExpressions.{fails_too}
use Rattle.bx_syntax.proofs.Repeats.{loop_fails, loop_goes_on, loop_ends}
use Rattle.bx_syntax.proofs.ReadsModules.{items_repeat}
use Rattle.bx_syntax.proofs.ModuleSteps.{item_step, item_step_fails}
use Rattle.bx_syntax.proofs.item.items.Goals as goal

pub returns-in_err-item : goal.returns-in_err-item
returns-in_err-item c =
    let p = err_from_is_err_and c.from_residual.result c.from_residual.ensures.1 in
    rw (p.1, p.2) (fails_too _ _ _ c.in_err-item.ensures
    (λ w none. loop_fails item_next (one_item 256) (items_repeat 256) tt _ c.more.terminals.items _ (sym c.item_next.ensures ∙ c.more-test.true) c.more.invariant w (item_step_fails 256 _ w none)))

pub more-smaller : goal.more-smaller
more-smaller c = (items_repeat 256).less tt _ ((_, tt), _) (item_step 256 _ _ _ c.in_ok-item.ensures)

pub more-preserved : goal.more-preserved
more-preserved c =
    rw (c.in_ok-push.ensures.items, map_push)
    (loop_goes_on item_next (one_item 256) (items_repeat 256) tt tt _ _ c.more.terminals.items _ _ (sym c.item_next.ensures ∙ c.more-test.true) c.more.invariant (item_step 256 _ _ _ c.in_ok-item.ensures))

pub returns : goal.returns
returns c = loop_ends item_next (one_item 256) tt _ c.more.terminals.items _ (sym c.item_next.ensures ∙ c.more-test.false) c.more.invariant
