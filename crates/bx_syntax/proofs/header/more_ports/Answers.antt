use Rattle.std.proofs.Common.{sym, ◌∙◌}
use Rattle.std.proofs.lemmas.Result.{err_from_is_err_and}
use Rattle.bx_syntax.specs.ReadsModules.{port_next, comma_port}
use Rattle.bx_syntax.proofs.ReadsExpressions.{fails_too}
use Rattle.bx_syntax.proofs.Repeats.{loop_fails, loop_goes_on, loop_ends}
use Rattle.bx_syntax.proofs.ReadsModules.{ports_repeat}
use Rattle.bx_syntax.proofs.header.more_ports.Goals as goal

pub returns-in_err-port : goal.returns-in_err-port
returns-in_err-port c =
    let p = err_from_is_err_and c.from_residual-in_err-port.result c.from_residual-in_err-port.ensures.1 in
    rw (p.1, p.2) (fails_too _ _ _ c.in_err-port.ensures
    (loop_fails port_next comma_port ports_repeat c.more.direction _ _ _ (sym c.next_is.ensures ∙ c.more-test.true) c.more.invariant))

pub more-smaller : goal.more-smaller
more-smaller c = ports_repeat.less c.more.direction _ ((_, _), _) c.in_ok-port.ensures

pub more-preserved : goal.more-preserved
more-preserved c =
    rw c.in_ok-push.ensures.items
    (loop_goes_on port_next comma_port ports_repeat c.more.direction _ _ _ _ _ _ (sym c.next_is.ensures ∙ c.more-test.true) c.more.invariant c.in_ok-port.ensures)

pub returns : goal.returns
returns c = (c.more.direction, loop_ends port_next comma_port c.more.direction _ _ _ (sym c.next_is.ensures ∙ c.more-test.false) c.more.invariant)
