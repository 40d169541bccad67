use Rattle.std.proofs.Common.{◌≡◌, ℕ, ◌+◌, ◌-◌, length, slice_get, Some, subst, arith}
use Rattle.bx_bounds.specs.Ancestors.{IsAncestor}
use Rattle.bx_bounds.specs.Rows.{AreRowsOf}
use Rattle.bx_bounds.proofs.BitRows.{rows-none, rows-map}
use Rattle.bx_bounds.proofs.Chains.{IsBelowBy, below-none, below-all}
use Rattle.bx_bounds.proofs.RowSteps.{source-low, target-low, below-step}
use Rattle.bx_bounds.proofs.rows.descendants.Goals as goal

pub loop-past-init : goal.loop-past-init
loop-past-init c = rows-none (IsBelowBy c.args.net.now.edges (length c.args.net.now.edges - 0)) (λ u t h. below-none c.args.net.now.edges (length c.args.net.now.edges - 0) u t (omega arith) h)

pub bounds-rows-source : goal.bounds-rows-source
bounds-rows-source c = source-low c.args.net.now c.edge_count-past-end.ensures.network c.requires _ c.edge-edge.result c.edge-edge.ensures

pub bit-requires : goal.bit-requires
bit-requires c = target-low c.args.net.now c.edge_count-past-end.ensures.network c.requires _ c.edge-edge.result c.edge-edge.ensures

pub bounds-rows-target : goal.bounds-rows-target
bounds-rows-target c = target-low c.args.net.now c.edge_count-past-end.ensures.network c.requires _ c.edge-edge.result c.edge-edge.ensures

pub bounds-rows-source-in-loop-past : goal.bounds-rows-source-in-loop-past
bounds-rows-source-in-loop-past c = source-low c.args.net.now c.edge_count-past-end.ensures.network c.requires _ c.edge-edge.result c.edge-edge.ensures

pub loop-past-preserved : goal.loop-past-preserved
loop-past-preserved c =
    let edges = c.args.net.now.edges in
    let k : ℕ = length edges - (c.loop-past.past + 1) in
    let here : c.edge_count.result - 1 - c.loop-past.past ≡ length edges - (c.loop-past.past + 1) = omega arith in
    let next : length edges - c.loop-past.past ≡ length edges - (c.loop-past.past + 1) + 1 = omega arith in
    below-step c.args.net.now c.edge_count-past-end.ensures.network c.requires (length edges - (c.loop-past.past + 1)) c.edge-edge.result
    (subst (λ (i : ℕ). slice_get edges i ≡ Some c.edge-edge.result) here c.edge-edge.ensures)
    c.loop-past.rows c.bit.result c.bit.ensures
    (subst (λ (i : ℕ). AreRowsOf (IsBelowBy edges i) c.loop-past.rows) next c.loop-past.invariant)

pub returns : goal.returns
returns c =
    let edges = c.args.net.now.edges in
    let none : length edges - c.loop-past.past ≡ 0 = omega arith in
    rows-map (IsBelowBy edges 0) (IsAncestor edges) c.loop-past.rows (below-all edges) (subst (λ (i : ℕ). AreRowsOf (IsBelowBy edges i) c.loop-past.rows) none c.loop-past.invariant)
