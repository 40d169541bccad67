use Rattle.std.proofs.Common.{◌≡◌, take}
use Rattle.bx_syntax.specs.Trees.{tree, tail}
use Rattle.bx_verilog.specs.Formulas.{Formula, formula, grouped}
use Rattle.bx_verilog.specs.Lowering.{IsLowered}
use Rattle.bx_verilog.proofs.Lowering.{nodes}
use Rattle.bx_verilog.proofs.expression.+net_of_expression.Given as goal

abbrev pub decreases-net_of_expression : goal.decreases-net_of_expression
decreases-net_of_expression l = nodes (tree l.expr.now)

-- The operands so far are joined.
abbrev pub invariant-loop-operand : goal.invariant-loop-operand
invariant-loop-operand l =
    (f : Formula) × (formula (tree l.expr) ≡ grouped f (tail l.operand-items)) × IsLowered l.names l.fn.inner.items l.inner.items (grouped f (tail (take l.operand-index l.operand-items))) l.net
