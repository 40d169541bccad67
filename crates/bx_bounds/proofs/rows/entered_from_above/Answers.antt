use Rattle.std.proofs.Common.{arith}
use Rattle.bx_bounds.specs.Rows.{Enters, EntersFromAbove}
use Rattle.bx_bounds.proofs.BitRows.{rows-map}
use Rattle.bx_bounds.proofs.Chains.{EntersBy, enters-none, enters-all}
use Rattle.bx_bounds.proofs.RowSteps.{source-low, target-low, enters-step}
use Rattle.bx_bounds.proofs.rows.entered_from_above.Goals as goal

pub loop-e-init : goal.loop-e-init
loop-e-init c = rows-map (Enters c.args.net.now.edges c.args.operand) (EntersBy c.args.net.now.edges c.args.operand 0) c.entered-rows.result (enters-none c.args.net.now.edges c.args.operand) c.entered-rows.ensures

pub bounds-rows-target : goal.bounds-rows-target
bounds-rows-target c = target-low c.args.net.now c.edge_count-e-end.ensures.network c.requires c.loop-e.e c.edge-edge.result c.edge-edge.ensures

pub bounds-rows-source : goal.bounds-rows-source
bounds-rows-source c = source-low c.args.net.now c.edge_count-e-end.ensures.network c.requires c.loop-e.e c.edge-edge.result c.edge-edge.ensures

pub bounds-rows-target-in-loop-e : goal.bounds-rows-target-in-loop-e
bounds-rows-target-in-loop-e c = target-low c.args.net.now c.edge_count-e-end.ensures.network c.requires c.loop-e.e c.edge-edge.result c.edge-edge.ensures

pub loop-e-preserved : goal.loop-e-preserved
loop-e-preserved c = enters-step c.args.net.now c.edge_count-e-end.ensures.network c.requires c.loop-e.e c.edge-edge.result c.edge-edge.ensures c.args.operand c.loop-e.rows c.loop-e.invariant

pub returns : goal.returns
returns c = rows-map (EntersBy c.args.net.now.edges c.args.operand c.loop-e.e) (EntersFromAbove c.args.net.now.edges c.args.operand) c.loop-e.rows (λ u t. enters-all c.args.net.now.edges c.args.operand c.loop-e.e u t (omega arith)) c.loop-e.invariant
