use Rattle.std.proofs.Common.{◌≡◌, ◌++◌, map, flat_map, take}
use Rattle.bx_syntax.specs.Trees.{tree}
use Rattle.bx_verilog.specs.Formulas.{formula}
use Rattle.bx_verilog.specs.Mentions.{reads_mentions}
use Rattle.bx_verilog.specs.Shown.{shown}
use Rattle.bx_verilog.proofs.mentions.+reads.Given as goal

abbrev pub invariant-push_operands-loop-operand : goal.invariant-push_operands-loop-operand
invariant-push_operands-loop-operand l = map shown l.found.items ≡ map shown l.fn.found.items ++ flat_map (λ o. reads_mentions (formula (tree o.expr))) (take l.operand-index l.operands.items)
