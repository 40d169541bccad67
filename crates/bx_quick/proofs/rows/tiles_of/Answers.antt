use Rattle.std.proofs.Common.{◌∙◌, ◌++◌, Some, ap, arith}
use Rattle.std.specs.Option.{option_copied}
use Rattle.bx_quick.specs.Grids.{lane_tile, row_of}
use Rattle.bx_quick.proofs.Steps.{rows_of-next, rows_of-none}
use Rattle.bx_quick.proofs.rows.tiles_of.Goals as goal

pub loop-op-preserved : goal.loop-op-preserved
loop-op-preserved c =
    rows_of-next c.args.width c.args.left (option_copied c.loop-op.before) c.args.operations.now c.loop-op.op-index c.op-item.result c.loop-op.tiles.items _ _ _
    c.loop-op-test.true c.op-item.is c.loop-op.invariant
    (c.in_ok-put_lanes.ensures ∙ ap (λ n. c.loop-op.tiles.items ++ row_of c.args.width (lane_tile (option_copied c.loop-op.before) (Some c.op-item.result) n)) c.from.ensures)
    c.in_ok-put_operation.ensures

pub returns : goal.returns
returns c =
    rows_of-none c.args.width c.args.left (option_copied c.loop-op.before) c.args.operations.now c.loop-op.op-index c.loop-op.tiles.items _ _ _
    (omega arith) c.loop-op.invariant c.in_ok-put_lanes-2.ensures c.in_ok-put_outputs.ensures
