use Rattle.std.proofs.Common.{sym, ◌∙◌}
use Rattle.std.proofs.lemmas.Result.{err_from_is_err_and}
use Rattle.bx_syntax.specs.Trees.{tree}
use Rattle.bx_syntax.specs.ReadsModules.{comma_behind_net, name_and_expression}
use Rattle.bx_syntax.proofs.ReadsExpressions.{fails_too}
use Rattle.bx_syntax.proofs.Repeats.{loop_fails, loop_goes_on, loop_ends}
use Rattle.bx_syntax.proofs.ReadsModules.{names_repeat}
use Rattle.bx_syntax.proofs.ModuleSteps.{not_net, net_tree, names_stop, names_go, name_step, name_step_fails, no_comma_names}
use Rattle.bx_syntax.proofs.part.more_names.Goals as goal

pub returns-in_default : goal.returns-in_default
returns-in_default c =
    loop_ends comma_behind_net (name_and_expression 256) (tree c.more.last) _ _ _ (names_stop _ c.more.terminals.items (not_net c.more.last c.in_default.not-Net)) c.more.invariant

pub returns-in_err-last : goal.returns-in_err-last
returns-in_err-last c =
    let p = err_from_is_err_and c.from_residual-in_err-last.result c.from_residual-in_err-last.ensures.1 in
    rw (p.1, p.2) (fails_too _ _ _ c.in_err-last.ensures
    (λ w none. loop_fails comma_behind_net (name_and_expression 256) (names_repeat 256) (tree c.more.last) _ _ _
    (names_go _ _ c.more.terminals.items (net_tree c.more.last c.in-Net.name c.in-Net.is) (sym c.next_is.ensures ∙ c.more-test.true)) c.more.invariant w
    (name_step_fails 256 (tree c.more.last) c.more.terminals.items w none)))

pub more-smaller : goal.more-smaller
more-smaller c =
    (names_repeat 256).less (tree c.more.last) _ ((_, _), _)
    (name_step 256 (tree c.more.last) _ c.in-Net.name c.more.terminals.items _ (net_tree c.more.last c.in-Net.name c.in-Net.is) c.in_ok-last.ensures)

pub more-preserved : goal.more-preserved
more-preserved c =
    rw c.in_ok-push-in-Net.ensures.items
    (loop_goes_on comma_behind_net (name_and_expression 256) (names_repeat 256) (tree c.more.last) _ _ _ _ _ _
    (names_go _ _ c.more.terminals.items (net_tree c.more.last c.in-Net.name c.in-Net.is) (sym c.next_is.ensures ∙ c.more-test.true)) c.more.invariant
    (name_step 256 (tree c.more.last) _ c.in-Net.name c.more.terminals.items _ (net_tree c.more.last c.in-Net.name c.in-Net.is) c.in_ok-last.ensures))

pub returns : goal.returns
returns c =
    loop_ends comma_behind_net (name_and_expression 256) (tree c.more.last) _ _ _ (no_comma_names _ c.more.terminals.items (sym c.next_is.ensures ∙ c.more-test.false)) c.more.invariant
