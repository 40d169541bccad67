use Rattle.std.proofs.Common.{refl, ◌∙◌, sym}
use Rattle.bx_verilog.specs.Mentions.{is_input}
use Rattle.bx_verilog.proofs.PortSteps.{port-within, port-taken, port-left, all-ports}
use Rattle.bx_verilog.proofs.ports.inputs.Goals as goal
use Rattle.bx_verilog.proofs.ports.inputs.Goals.{then-uses-number-gt0+in_ok-copy+in_ok-push, else-uses-number-gt0}

pub bounds-uses-number : goal.bounds-uses-number
bounds-uses-number c =
    port-within _ _ _ _ _ _ _ _ c.requires c.ports-port-items.ensures.ports c.loop-port-test.true c.port-item.is c.as_slice-name.ensures c.number.ensures

pub loop-port-preserved : goal.loop-port-preserved
loop-port-preserved c =
    elim c.if-uses-number-gt0.branch [
      | then-uses-number-gt0+in_ok-copy+in_ok-push w ↦
          rw (w.inputs-is, w.in_ok-push.ensures.items, w.in_ok-copy.ensures, c.loop-port.invariant)
          (sym (port-taken is_input (λ u. u.input) (λ m n. refl) _ _ _ _ _ _ _ _ _ c.requires c.ports-port-items.ensures.ports c.loop-port-test.true c.port-item.is c.as_slice-name.ensures c.number.ensures w.if-uses-number-gt0.true))
      | else-uses-number-gt0 w ↦
          rw (w.inputs-is, c.loop-port.invariant)
          (sym (port-left is_input (λ u. u.input) (λ m n. refl) _ _ _ _ _ _ _ _ _ c.requires c.ports-port-items.ensures.ports c.loop-port-test.true c.port-item.is c.as_slice-name.ensures c.number.ensures w.if-uses-number-gt0.false))
    ]

pub returns : goal.returns
returns c = c.loop-port.invariant ∙ all-ports is_input c.args.module.now _ _ c.ports-port-items.ensures.ports c.loop-port-test.false
