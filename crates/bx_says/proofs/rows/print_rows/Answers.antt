use Rattle.std.proofs.Common.{ap, arith}
use Rattle.std.specs.List.{range_with_len}
use Rattle.bx_desk.proofs.Printing.{prints_nothing, prints_count, prints_counted, prints_as}
use Rattle.bx_grid.specs.declared.ratio.Ratio.{Ratio}
use Rattle.bx_layout.specs.Grids.{FormGrid}
use Rattle.bx_lines.specs.Lines.{ended}
use Rattle.bx_says.specs.Reports.{row_line}
use Rattle.bx_says.specs.Parts.{tiles_text}
use Rattle.bx_says.proofs.Printed.{mapped_lines}
use Rattle.bx_says.proofs.rows.print_rows.Goals as goal

pub loop-y-init : goal.loop-y-init
loop-y-init g c = prints_nothing _

pub loop-y-preserved : goal.loop-y-preserved
loop-y-preserved g c =
    let grid : FormGrid = c.args.grid.now in
    prints_count (λ y. ended (row_line grid y)) grid.ratio.h c.loop-y.y (omega (arith, ap (λ (r : Ratio). r.h) c.ratio-y-end.ensures.same)) c.loop-y.invariant (prints_as (ap (tiles_text c.loop-y.y) c.row.ensures) c.print_row.ensures)

pub returns : goal.returns
returns g c =
    let grid : FormGrid = c.args.grid.now in
    prints_as (mapped_lines (row_line grid) (range_with_len 0 grid.ratio.h))
    (prints_counted (λ y. ended (row_line grid y)) grid.ratio.h c.loop-y.y (omega (arith, ap (λ (r : Ratio). r.h) c.ratio-y-end.ensures.same)) c.loop-y.invariant)
