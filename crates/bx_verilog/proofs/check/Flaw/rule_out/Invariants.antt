use Rattle.std.proofs.Common.{◌≡◌, ℕ, ◌<◌, false, get_or}
use Rattle.bx_verilog.specs.declared.uses.Uses.{Uses}
use Rattle.bx_verilog.specs.Flaws.{shows}
use Rattle.bx_verilog.proofs.check.Flaw.rule_out.Given as goal

abbrev pub invariant-loop-number : goal.invariant-loop-number
invariant-loop-number l = (k : ℕ) (d : Uses) → k < l.number → shows l.self (get_or l.uses k d) ≡ false
