use Rattle.std.proofs.Common.{refl, sym, ◌∙◌, ap, arith}
use Rattle.std.proofs.lemmas.List.{take_all}
use Rattle.bx_syntax.specs.Trees.{tree, tail}
use Rattle.bx_verilog.specs.Formulas.{pair, formula, grouped}
use Rattle.bx_verilog.specs.Elaboration.{own}
use Rattle.bx_verilog.proofs.Lowering.{nodes_behind, lowered_length, joined-formula, joined-nodes, operand-nodes, operand_fits, own-grows, lowered_two, lowered_operand, negation_result}
use Rattle.bx_verilog.proofs.expression.+net_of_expression.Goals as goal

pub push_gate-requires-clause-fits : goal.push_gate-requires-clause-fits
push_gate-requires-clause-fits t c =
    let l = lowered_length _ _ _ _ _ c.in_ok-net-in-Not.ensures in
    let e = ap (λ x. own (formula (tree x))) c.in-Not.is in
    let d = ap (λ x. own (formula (tree x))) c.deref.ensures in
    omega arith

pub net_of_expression-requires-in-Joined : goal.net_of_expression-requires-in-Joined
net_of_expression-requires-in-Joined t c =
    let second = c.in-Joined.second.value in
    let e = joined-formula c.args.expr.now _ second c.in-Joined.operator c.in-Joined.operands c.in-Joined.first c.in-Joined.second c.in-Joined.is c.deref-in-Joined.ensures refl in
    let n = joined-nodes c.args.expr.now _ second c.in-Joined.operator c.in-Joined.operands c.in-Joined.first c.in-Joined.second c.in-Joined.is c.deref-in-Joined.ensures refl in
    let g = own-grows (pair c.in-Joined.operator (formula (tree c.deref-in-Joined.result.now)) (formula (tree second))) (tail c.in-Joined.operands.items) in
    (omega arith, omega (arith, ap own e))

pub net_of_expression-requires-in-Joined-2 : goal.net_of_expression-requires-in-Joined-2
net_of_expression-requires-in-Joined-2 t c =
    let l = lowered_length _ _ _ _ _ c.in_ok-left-in-Joined.ensures in
    let e = joined-formula c.args.expr.now _ _ c.in-Joined.operator c.in-Joined.operands c.in-Joined.first c.in-Joined.second c.in-Joined.is c.deref-in-Joined.ensures c.deref-in-Joined-2.ensures in
    let n = joined-nodes c.args.expr.now _ _ c.in-Joined.operator c.in-Joined.operands c.in-Joined.first c.in-Joined.second c.in-Joined.is c.deref-in-Joined.ensures c.deref-in-Joined-2.ensures in
    let g = own-grows (pair c.in-Joined.operator (formula (tree c.deref-in-Joined.result.now)) (formula (tree c.deref-in-Joined-2.result.now))) (tail c.in-Joined.operands.items) in
    (omega arith, omega (arith, ap own e))

pub push_gate-requires-in-Joined-clause-fits : goal.push_gate-requires-in-Joined-clause-fits
push_gate-requires-in-Joined-clause-fits t c =
    let l = lowered_length _ _ _ _ _ c.in_ok-left-in-Joined.ensures in
    let r = lowered_length _ _ _ _ _ c.in_ok-right-in-Joined.ensures in
    let e = joined-formula c.args.expr.now _ _ c.in-Joined.operator c.in-Joined.operands c.in-Joined.first c.in-Joined.second c.in-Joined.is c.deref-in-Joined.ensures c.deref-in-Joined-2.ensures in
    let g = own-grows (pair c.in-Joined.operator (formula (tree c.deref-in-Joined.result.now)) (formula (tree c.deref-in-Joined-2.result.now))) (tail c.in-Joined.operands.items) in
    omega (arith, ap own e)

pub loop-operand-init : goal.loop-operand-init
loop-operand-init t c =
    let both = pair c.in-Joined.operator (formula (tree c.deref-in-Joined.result.now)) (formula (tree c.deref-in-Joined-2.result.now)) in
    let e = joined-formula c.args.expr.now _ _ c.in-Joined.operator c.in-Joined.operands c.in-Joined.first c.in-Joined.second c.in-Joined.is c.deref-in-Joined.ensures c.deref-in-Joined-2.ensures in
    let pushed = c.in_ok-net-in-Joined.ensures in (
      both,
      e ∙ ap (λ x. grouped both (tail x)) (sym c.deref-operand-items.ensures.value),
      lowered_two _ _ _ _ _ c.in-Joined.operator _ _ _ _ _ _ c.in_ok-left-in-Joined.ensures c.in_ok-right-in-Joined.ensures c.operation-gate.ensures pushed.drivers pushed.number,
    )

pub net_of_expression-requires-in-loop-operand : goal.net_of_expression-requires-in-loop-operand
net_of_expression-requires-in-loop-operand t c =
    let n = joined-nodes c.args.expr.now _ _ c.in-Joined.operator c.in-Joined.operands c.in-Joined.first c.in-Joined.second c.in-Joined.is c.deref-in-Joined.ensures c.deref-in-Joined-2.ensures in
    let s = ap (λ x. nodes_behind (tail x)) c.deref-operand-items.ensures.value in
    let o = operand-nodes _ _ _ c.loop-operand-test.true c.operand-item.is in
    let f = operand_fits _ _ _ _ _ _ _ _ c.loop-operand-test.true c.operand-item.is c.loop-operand.invariant.2 in
    (omega arith, omega (arith, ap own c.loop-operand.invariant.1))

pub push_gate-requires-in-loop-operand-clause-fits : goal.push_gate-requires-in-loop-operand-clause-fits
push_gate-requires-in-loop-operand-clause-fits t c =
    let l = lowered_length _ _ _ _ _ c.in_ok-other-in-Joined.ensures in
    let f = operand_fits _ _ _ _ _ _ _ _ c.loop-operand-test.true c.operand-item.is c.loop-operand.invariant.2 in
    omega (arith, ap own c.loop-operand.invariant.1)

pub loop-operand-preserved : goal.loop-operand-preserved
loop-operand-preserved t c =
    let i = c.loop-operand.invariant in
    let pushed = c.in_ok-net-in-Joined-2.ensures in
    (i.0, i.1, lowered_operand _ _ _ _ _ i.0 _ _ _ _ _ _ _ c.loop-operand-test.true c.operand-item.is i.2 c.in_ok-other-in-Joined.ensures c.operation.ensures pushed.drivers pushed.number)

pub returns-in_ok-net-in-Not : goal.returns-in_ok-net-in-Not
returns-in_ok-net-in-Not t c =
    let pushed = c.push_gate.ensures in
    negation_result _ _ _ _ _ _ _ _ _ c.in-Not.is c.deref.ensures c.in_ok-net-in-Not.ensures pushed.drivers pushed.number

pub returns-after-loop-operand : goal.returns-after-loop-operand
returns-after-loop-operand t c =
    let i = c.loop-operand.invariant in
    rw (i.1, ← take_all _ _ c.loop-operand-test.false) i.2
