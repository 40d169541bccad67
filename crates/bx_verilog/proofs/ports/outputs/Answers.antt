use Rattle.std.proofs.Common.{refl, ap, ◌∙◌, sym}
use Rattle.bx_verilog.specs.Mentions.{is_output}
use Rattle.bx_verilog.proofs.PortSteps.{port-within, port-taken, port-left, all-ports, numbered-push, numbered_outputs}
use Rattle.bx_verilog.proofs.ports.outputs.Goals as goal
use Rattle.bx_verilog.proofs.ports.outputs.Goals.{then-uses-number-gt0+in_ok-copy+in_ok-push, else-uses-number-gt0}

pub bounds-uses-number : goal.bounds-uses-number
bounds-uses-number c =
    port-within _ _ _ _ _ _ _ _ c.requires c.ports-port-items.ensures.ports c.loop-port-test.true c.port-item.is c.as_slice-name.ensures c.number-number.ensures

pub loop-port-preserved : goal.loop-port-preserved
loop-port-preserved c =
    elim c.if-uses-number-gt0.branch [
      | then-uses-number-gt0+in_ok-copy+in_ok-push w ↦
          rw (w.outputs-is, w.in_ok-push.ensures.items, w.in_ok-copy.ensures, c.loop-port.invariant)
          (numbered-push c.args.module.now _ _ _ _ _ c.requires.named c.number-number.ensures
          (port-taken is_output (λ u. u.output) (λ m n. refl) _ _ _ _ _ _ _ _ _ c.requires c.ports-port-items.ensures.ports c.loop-port-test.true c.port-item.is c.as_slice-name.ensures c.number-number.ensures w.if-uses-number-gt0.true))
      | else-uses-number-gt0 w ↦
          rw (w.outputs-is, c.loop-port.invariant)
          (ap (numbered_outputs c.args.module.now) (sym (port-left is_output (λ u. u.output) (λ m n. refl) _ _ _ _ _ _ _ _ _ c.requires c.ports-port-items.ensures.ports c.loop-port-test.true c.port-item.is c.as_slice-name.ensures c.number-number.ensures w.if-uses-number-gt0.false)))
    ]

pub returns : goal.returns
returns c = c.loop-port.invariant ∙ ap (numbered_outputs c.args.module.now) (all-ports is_output c.args.module.now _ _ c.ports-port-items.ensures.ports c.loop-port-test.false)
