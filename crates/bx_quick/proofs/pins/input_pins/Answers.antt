use Rattle.std.proofs.Common.{◌≡◌, ◌∙◌, true, false, sym, arith}
use Rattle.bx_layout.specs.Valuations.{is_input}
use Rattle.bx_quick.proofs.Steps.{with_inputs-yes, with_inputs-no, with_inputs-none}
use Rattle.bx_quick.proofs.pins.input_pins.Goals as goal
use Rattle.bx_quick.proofs.pins.input_pins.Goals.{then-is_input+in_ok-put_pin, else-is_input}

pub loop-v-preserved : goal.loop-v-preserved
loop-v-preserved c =
    elim c.if-is_input.branch [
      | then-is_input+in_ok-put_pin w ↦
          let h : is_input c.node-node.result.kind ≡ true = cc in
          let step = with_inputs-yes c.loop-v.pins.items c.loop-v.tile c.args.net.now.nodes c.loop-v.v c.node-node.result c.node-node.ensures h in
          let put = w.in_ok-put_pin.ensures in
          (cc, omega arith)
      | else-is_input w ↦
          let h : is_input c.node-node.result.kind ≡ false = cc in
          let step = with_inputs-no c.loop-v.pins.items c.loop-v.tile c.args.net.now.nodes c.loop-v.v c.node-node.result c.node-node.ensures h in
          (cc, omega arith)
    ]

pub returns : goal.returns
returns c =
    sym (with_inputs-none c.loop-v.pins.items c.loop-v.tile c.args.net.now.nodes c.loop-v.v (omega arith)) ∙ c.loop-v.invariant.0
