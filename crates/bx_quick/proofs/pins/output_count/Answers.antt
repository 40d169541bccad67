use Rattle.std.proofs.Common.{◌≡◌, true, false, ap, arith}
use Rattle.bx_network.specs.Networks.{is_output, one_if}
use Rattle.bx_quick.proofs.Steps.{filter-next}
use Rattle.bx_quick.proofs.pins.output_count.Goals as goal
use Rattle.bx_quick.proofs.pins.output_count.Goals.{then-is_output, else-is_output}

pub loop-v-preserved : goal.loop-v-preserved
loop-v-preserved c =
    let e = filter-next (λ node. is_output node.kind) c.args.net.now.nodes c.loop-v.v c.node.result c.node.ensures in
    elim c.if-is_output.branch [
      | then-is_output w ↦
          let h : is_output c.node.result.kind ≡ true = cc in
          (omega (arith, e, ap one_if h, c.loop-v.invariant.0), omega arith)
      | else-is_output w ↦
          let h : is_output c.node.result.kind ≡ false = cc in
          (omega (arith, e, ap one_if h, c.loop-v.invariant.0), omega arith)
    ]
