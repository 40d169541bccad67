use Rattle.std.proofs.Common.{sym, ◌∙◌}
use Rattle.std.proofs.lemmas.Result.{err_from_is_err_and}
use Rattle.std.proofs.lemmas.List.{map_push}
use Rattle.bx_syntax.specs.ReadsModules.{part_at, comma_next, comma_step}
use Rattle.bx_syntax.proofs.ReadsExpressions.{fails_too}
use Rattle.bx_syntax.proofs.Repeats.{loop_fails, loop_goes_on, loop_ends}
use Rattle.bx_syntax.proofs.ReadsModules.{part_repeats}
use Rattle.bx_syntax.proofs.item.more_parts.Goals as goal

pub returns-in_err-part : goal.returns-in_err-part
returns-in_err-part c =
    let p = err_from_is_err_and c.from_residual-in_err-part.result c.from_residual-in_err-part.ensures.1 in
    rw (p.1, p.2) (fails_too _ _ _ c.in_err-part.ensures
    (loop_fails comma_next (comma_step (part_at 256 c.args.kind)) (part_repeats 256 c.args.kind) tt _ _ _ (sym c.next_is.ensures ∙ c.more-test.true) c.more.invariant))

pub more-smaller : goal.more-smaller
more-smaller c = (part_repeats 256 c.args.kind).less tt _ ((_, tt), _) c.in_ok-part.ensures

pub more-preserved : goal.more-preserved
more-preserved c =
    rw (c.in_ok-push.ensures.items, map_push)
    (loop_goes_on comma_next (comma_step (part_at 256 c.args.kind)) (part_repeats 256 c.args.kind) tt tt _ _ _ _ _ (sym c.next_is.ensures ∙ c.more-test.true) c.more.invariant c.in_ok-part.ensures)

pub returns : goal.returns
returns c = loop_ends comma_next (comma_step (part_at 256 c.args.kind)) tt _ _ _ (sym c.next_is.ensures ∙ c.more-test.false) c.more.invariant
