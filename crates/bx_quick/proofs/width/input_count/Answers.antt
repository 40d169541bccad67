use Rattle.std.proofs.Common.{◌≡◌, ℕ, true, false, List, length, ap, arith}
use Rattle.bx_layout.specs.Valuations.{is_input}
use Rattle.bx_quick.proofs.Steps.{input_edges-yes, input_edges-no, input_edges-none, start-lanes}
use Rattle.bx_quick.proofs.width.input_count.Goals as goal
use Rattle.bx_quick.proofs.width.input_count.Goals.{then-is_input, else-is_input}

pub loop-v-preserved : goal.loop-v-preserved
loop-v-preserved c =
    elim c.if-is_input.branch [
      | then-is_input w ↦
          let h : is_input c.node.result.kind ≡ true = cc in
          let e = ap (λ (xs : List ℕ). length xs) (input_edges-yes c.args.net.now.edges c.args.net.now.nodes c.loop-v.v c.node.result c.node.ensures h) in
          (omega (arith, e, c.loop-v.invariant.0), omega arith)
      | else-is_input w ↦
          let h : is_input c.node.result.kind ≡ false = cc in
          let e = ap (λ (xs : List ℕ). length xs) (input_edges-no c.args.net.now.edges c.args.net.now.nodes c.loop-v.v c.node.result c.node.ensures h) in
          (omega (arith, e, c.loop-v.invariant.0), omega arith)
    ]

pub returns-clause-is : goal.returns-clause-is
returns-clause-is c =
    let e = ap (λ (xs : List ℕ). length xs) (input_edges-none c.args.net.now.edges c.args.net.now.nodes c.loop-v.v (omega arith)) in
    let s = ap (λ (xs : List ℕ). length xs) (start-lanes c.args.net.now) in
    omega (arith, e, s, c.loop-v.invariant.0)
