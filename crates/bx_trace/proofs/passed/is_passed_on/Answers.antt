use Rattle.std.proofs.Common.{◌↔◌, Option, ℕ, subst}
use Rattle.std.specs.Prelude.{IsTrue}
use Rattle.bx_layout.specs.Layouts.{enters, leaves}
use Rattle.bx_trace.specs.Tests.{MayCarry}
use Rattle.bx_trace.proofs.Linear.{second-asked, first-fails}
use Rattle.bx_trace.proofs.passed.is_passed_on.Goals as goal

pub returns-then-may_carry : goal.returns-then-may_carry
returns-then-may_carry c =
    let may = MayCarry c.args.net.now c.args.layout.now c.args.tile c.args.node in
    second-asked (may (enters c.args.layout.now c.args.tile c.args.side)) (may (leaves c.args.layout.now c.args.tile c.args.side)) c.may_carry-then-may_carry.result
    (subst may c.enters.ensures (c.may_carry.ensures.0 c.if-may_carry.true))
    (subst (λ (o : Option ℕ). IsTrue c.may_carry-then-may_carry.result ↔ may o) c.leaves.ensures c.may_carry-then-may_carry.ensures)

pub returns-else-may_carry : goal.returns-else-may_carry
returns-else-may_carry c =
    let may = MayCarry c.args.net.now c.args.layout.now c.args.tile c.args.node in
    first-fails (may (enters c.args.layout.now c.args.tile c.args.side)) (may (leaves c.args.layout.now c.args.tile c.args.side)) c.may_carry.result c.if-may_carry.false
    (subst (λ (o : Option ℕ). IsTrue c.may_carry.result ↔ may o) c.enters.ensures c.may_carry.ensures)
