use Rattle.std.proofs.Common.{map, take}
use Rattle.bx_syntax.specs.Trees.{tree}
use Rattle.bx_verilog.specs.Formulas.{formula}
use Rattle.bx_verilog.specs.Lowering.{AreLowered}
use Rattle.bx_verilog.proofs.expression.nets_of_expressions.Given as goal

abbrev pub invariant-loop-expr : goal.invariant-loop-expr
invariant-loop-expr l = AreLowered l.names l.fn.inner.items l.inner.items (map formula (map tree (take l.expr-index l.exprs))) l.nets.items
