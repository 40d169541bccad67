use Rattle.std.proofs.Common.{ℕ, ◌+◌, List, sym, subst, arith}
use Rattle.bx_bounds.specs.Rows.{AreRowsOf, Enters}
use Rattle.bx_bounds.proofs.BitRows.{rows-none, rows-map}
use Rattle.bx_bounds.proofs.Chains.{EntersEarly, early-none, early-all}
use Rattle.bx_bounds.proofs.RowSteps.{source-low, target-low, early-step, early-kept}
use Rattle.bx_bounds.proofs.rows.entered.Goals as goal
use Rattle.bx_bounds.proofs.rows.entered.Goals.{then-edge-operand, else-edge-operand}

pub loop-e-init : goal.loop-e-init
loop-e-init c = rows-none (EntersEarly c.args.net.now.edges c.args.operand 0) (early-none c.args.net.now.edges c.args.operand)

pub bounds-rows-source : goal.bounds-rows-source
bounds-rows-source c = source-low c.args.net.now c.edge_count-e-end.ensures.network c.requires c.loop-e.e c.edge-edge.result c.edge-edge.ensures

pub bit-requires : goal.bit-requires
bit-requires c = target-low c.args.net.now c.edge_count-e-end.ensures.network c.requires c.loop-e.e c.edge-edge.result c.edge-edge.ensures

pub bounds-rows-source-then-edge-operand : goal.bounds-rows-source-then-edge-operand
bounds-rows-source-then-edge-operand c = source-low c.args.net.now c.edge_count-e-end.ensures.network c.requires c.loop-e.e c.edge-edge.result c.edge-edge.ensures

pub loop-e-preserved : goal.loop-e-preserved
loop-e-preserved c =
    let edges = c.args.net.now.edges in
    let are = λ (rows : List ℕ). AreRowsOf (EntersEarly edges c.args.operand (c.loop-e.e + 1)) rows in
    elim c.if-edge-operand.branch [
      | then-edge-operand w ↦ subst are (sym w.rows-is) (early-step c.args.net.now c.edge_count-e-end.ensures.network c.requires c.loop-e.e c.edge-edge.result c.edge-edge.ensures
          c.args.operand c.loop-e.rows w.bit.result (omega arith) w.bit.ensures c.loop-e.invariant)
      | else-edge-operand w ↦ subst are (sym w.rows-is) (early-kept c.args.net.now c.edge_count-e-end.ensures.network c.requires c.loop-e.e c.edge-edge.result c.edge-edge.ensures
          c.args.operand c.loop-e.rows (λ same. let differ = w.if-edge-operand.false in omega arith) c.loop-e.invariant)
    ]

pub returns : goal.returns
returns c = rows-map (EntersEarly c.args.net.now.edges c.args.operand c.loop-e.e) (Enters c.args.net.now.edges c.args.operand) c.loop-e.rows (λ u t. early-all c.args.net.now.edges c.args.operand c.loop-e.e u t (omega arith)) c.loop-e.invariant
