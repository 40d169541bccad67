use Rattle.std.proofs.Common.{◌≡◌, ℕ, ◌+◌, ◌*◌, length, subst, arith}
use Rattle.bx_network.proofs.Downs.{edge_at}
use Rattle.bx_network.proofs.Placed.{AreSet, out_place, in_place, out-placed, in-placed, place-low, set-next, ends-are}
use Rattle.bx_network.proofs.ends.Ends.of.Goals as goal

pub overflow_add-edge : goal.overflow_add-edge
overflow_add-edge c =
    let low = place-low out_place _ (out-placed _ c.requires) c.requires c.loop-number.number c.loop-number-test.true (2 * (edge_at c.args.edges.now c.loop-number.number).source + c.from.result) (omega arith) in
    omega arith

pub index_mut-requires : goal.index_mut-requires
index_mut-requires c =
    let low = place-low out_place _ (out-placed _ c.requires) c.requires c.loop-number.number c.loop-number-test.true (2 * (edge_at c.args.edges.now c.loop-number.number).source + c.from.result) (omega arith) in
    let all = c.loop-number.invariant.0.all in
    omega (arith, c.loop-number.outs.ok.0)

pub overflow_add-edge-in-loop-number : goal.overflow_add-edge-in-loop-number
overflow_add-edge-in-loop-number c =
    let low = place-low in_place _ (in-placed _ c.requires) c.requires c.loop-number.number c.loop-number-test.true (2 * (edge_at c.args.edges.now c.loop-number.number).target + c.from-in-loop-number.result) (omega arith) in
    omega arith

pub index_mut-requires-in-loop-number : goal.index_mut-requires-in-loop-number
index_mut-requires-in-loop-number c =
    let low = place-low in_place _ (in-placed _ c.requires) c.requires c.loop-number.number c.loop-number-test.true (2 * (edge_at c.args.edges.now c.loop-number.number).target + c.from-in-loop-number.result) (omega arith) in
    let all = c.loop-number.invariant.1.all in
    omega (arith, c.loop-number.ins.ok.0)

pub loop-number-preserved : goal.loop-number-preserved
loop-number-preserved c = (
  set-next out_place _ (out-placed _ c.requires) c.loop-number.number c.loop-number.outs.items c.loop-number-test.true (2 * (edge_at c.args.edges.now c.loop-number.number).source + c.from.result) (omega arith) c.loop-number.invariant.0,
  set-next in_place _ (in-placed _ c.requires) c.loop-number.number c.loop-number.ins.items c.loop-number-test.true (2 * (edge_at c.args.edges.now c.loop-number.number).target + c.from-in-loop-number.result) (omega arith) c.loop-number.invariant.1,
)

pub returns : goal.returns
returns c =
    let all : c.loop-number.number ≡ length c.args.edges.now = omega arith in
    ends-are _ _ _ c.requires
    (subst (λ (k : ℕ). AreSet out_place c.args.edges.now (2 * length c.args.nodes.now) k c.loop-number.outs.items) all c.loop-number.invariant.0)
    (subst (λ (k : ℕ). AreSet in_place c.args.edges.now (2 * length c.args.nodes.now) k c.loop-number.ins.items) all c.loop-number.invariant.1)
