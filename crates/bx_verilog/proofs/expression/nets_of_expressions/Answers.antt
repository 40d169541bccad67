use Rattle.std.proofs.Common.{arith}
use Rattle.bx_verilog.proofs.Lowering.{lowered_more, expression_fits}
use Rattle.bx_verilog.proofs.expression.nets_of_expressions.Goals as goal

pub net_of_expression-requires : goal.net_of_expression-requires
net_of_expression-requires c =
    let f = expression_fits _ _ _ _ _ _ _ c.loop-expr-test.true c.expr-item.is c.loop-expr.invariant in
    omega arith

pub loop-expr-preserved : goal.loop-expr-preserved
loop-expr-preserved c =
    rw c.in_ok-push.ensures.items (lowered_more _ _ _ _ _ _ _ _ _ c.loop-expr-test.true c.expr-item.is c.loop-expr.invariant c.in_ok-net_of_expression.ensures)
