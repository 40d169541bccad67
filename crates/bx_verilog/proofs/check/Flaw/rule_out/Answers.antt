use Rattle.std.proofs.Common.{arith, sym, ap, ◌∙◌}
use Rattle.bx_verilog.specs.Flaws.{shows, fault_of}
use Rattle.bx_verilog.proofs.Flaws.{position-at, position-none}
use Rattle.bx_verilog.proofs.check.Flaw.rule_out.Goals as goal

pub returns-then-is_in-clause-first : goal.returns-then-is_in-clause-first
returns-then-is_in-clause-first c = λ other. record {
  number = c.loop-number.number;
  first = position-at (shows c.args.self) c.args.uses.now c.loop-number.number _
      (omega (arith, c.len-number-end.ensures, c.requires, c.loop-number-test.true)) (λ k low. c.loop-number.invariant k _ low) (sym c.if-is_in.ensures);
  is = c.fault.ensures ∙ ap (fault_of c.args.self) (c.in_ok-copy.ensures ∙ c.name.ensures);
}

pub returns-clause-none : goal.returns-clause-none
returns-clause-none c =
    position-none (shows c.args.self) c.args.uses.now
    (λ k d low. c.loop-number.invariant k d (omega (arith, c.len-number-end.ensures, c.requires, c.loop-number-test.false)))
