use Rattle.std.proofs.Common.{◌≡◌, ◌++◌, map, take}
use Rattle.bx_verilog.specs.declared.role.Role.TheVariants.{Driven}
use Rattle.bx_verilog.specs.Mentions.{all_as}
use Rattle.bx_verilog.specs.Shown.{shown}
use Rattle.bx_verilog.proofs.mentions.push_outputs.Given as goal

abbrev pub invariant-loop-output : goal.invariant-loop-output
invariant-loop-output l = map shown l.found.items ≡ map shown l.fn.found.items ++ all_as Driven (take l.output-index l.outputs)
