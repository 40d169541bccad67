use Rattle.std.proofs.Common.{◌≡◌, ◌++◌, map, flat_map, take}
use Rattle.bx_syntax.specs.Trees.{tree}
use Rattle.bx_verilog.specs.Formulas.{formula}
use Rattle.bx_verilog.specs.Mentions.{reads_mentions}
use Rattle.bx_verilog.specs.Shown.{shown}
use Rattle.bx_verilog.proofs.mentions.push_arguments.Given as goal

abbrev pub invariant-loop-argument : goal.invariant-loop-argument
invariant-loop-argument l = map shown l.found.items ≡ map shown l.fn.found.items ++ flat_map (λ e. reads_mentions (formula e)) (map tree (take l.argument-index l.arguments))
