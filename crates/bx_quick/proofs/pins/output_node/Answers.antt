use Rattle.std.proofs.Common.{◌≡◌, ◌∙◌, true, false, ap, below_more, arith}
use Rattle.std.proofs.lemmas.Option.{get_or_from_slice_get}
use Rattle.bx_quick.specs.Pins.{is_output_at}
use Rattle.bx_quick.proofs.Steps.{no_node, output_node-is, output_at-operand, no-output}
use Rattle.bx_quick.proofs.pins.output_node.Goals as goal

pub returns-then-is_output_at-clause-is : goal.returns-then-is_output_at-clause-is
returns-then-is_output_at-clause-is c =
    let h : is_output_at c.args.port c.node-node.result ≡ true = cc in
    output_node-is c.args.net.now c.args.port c.loop-v.v c.node-node.result c.node-node.ensures c.loop-v.invariant h

pub returns-then-is_output_at-clause-output : goal.returns-then-is_output_at-clause-output
returns-then-is_output_at-clause-output c =
    let h : is_output_at c.args.port c.node-node.result ≡ true = cc in
    output_at-operand c.args.net.now c.loop-v.v c.node-node.result c.args.port c.node-node.ensures h

pub loop-v-preserved : goal.loop-v-preserved
loop-v-preserved c =
    let h : is_output_at c.args.port c.node-node.result ≡ false = cc in
    below_more _ _ c.loop-v.invariant
    (ap (is_output_at c.args.port) (get_or_from_slice_get c.args.net.now.nodes c.loop-v.v c.node-node.result no_node c.node-node.ensures) ∙ h)

pub unreachable-requires : goal.unreachable-requires
unreachable-requires c =
    no-output c.args.net.now c.args.port c.loop-v.v c.node_count-v-end.ensures.network c.requires (omega arith) c.loop-v.invariant
