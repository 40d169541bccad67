use Rattle.std.proofs.Common.{◌≡◌, ◌∙◌, ◌+◌, ◌++◌, ◌∷◌, [], ℕ, true, false, List, length, drop, ap, sym, arith}
use Rattle.std.proofs.lemmas.List.{length-append}
use Rattle.bx_layout.specs.Valuations.{is_input}
use Rattle.bx_network.specs.Values.{edge_out}
use Rattle.bx_quick.specs.LaneStates.{input_edges}
use Rattle.bx_quick.proofs.Steps.{input-slot, input_edges-yes, input_edges-no, put-one, start-end}
use Rattle.bx_quick.proofs.walk.start.Goals as goal
use Rattle.bx_quick.proofs.walk.start.Goals.{then-is_input+in_ok-push, else-is_input}

pub edge_out-requires : goal.edge_out-requires
edge_out-requires c =
    let h : is_input c.node.result.kind ≡ true = cc in
    input-slot c.args.net.now c.loop-v.v c.node.result c.node.ensures h

pub loop-v-preserved : goal.loop-v-preserved
loop-v-preserved c =
    let edges = c.args.net.now.edges in
    let nodes = c.args.net.now.nodes in
    let v = c.loop-v.v in
    elim c.if-is_input.branch [
      | then-is_input+in_ok-push w ↦
          let h : is_input c.node.result.kind ≡ true = cc in
          let step = input_edges-yes edges nodes v c.node.result c.node.ensures h in
          let one : c.loop-v.lanes.items ++ (edge_out edges v 0 ∷ input_edges edges (v + 1) (drop (v + 1) nodes)) ≡ input_edges edges 0 nodes =
          ap (λ zs. c.loop-v.lanes.items ++ zs) (sym step) ∙ c.loop-v.invariant.0 in
          let new : c.if-is_input.lanes.items ≡ c.loop-v.lanes.items ++ edge_out edges v 0 ∷ [] = cc w.in_ok-push.ensures.items in
          let len = ap (λ (xs : List ℕ). length xs) new in (
            put-one c.loop-v.lanes.items c.if-is_input.lanes.items (edge_out edges v 0) (input_edges edges (v + 1) (drop (v + 1) nodes)) (input_edges edges 0 nodes) new one,
            omega (arith, len, length-append c.loop-v.lanes.items (edge_out edges v 0 ∷ [])),
          )
      | else-is_input w ↦
          let h : is_input c.node.result.kind ≡ false = cc in
          let step = input_edges-no edges nodes v c.node.result c.node.ensures h in
          let same : c.if-is_input.lanes.items ≡ c.loop-v.lanes.items = cc in (
            ap (λ zs. zs ++ input_edges edges (v + 1) (drop (v + 1) nodes)) same ∙ ap (λ zs. c.loop-v.lanes.items ++ zs) (sym step) ∙ c.loop-v.invariant.0,
            omega (arith, ap (λ (xs : List ℕ). length xs) same),
          )
    ]

pub returns-clause-is : goal.returns-clause-is
returns-clause-is c =
    start-end c.args.net.now c.new.result c.loop-v.lanes.items c.loop-v.v (omega arith) c.loop-v.invariant.0 c.new.ensures
