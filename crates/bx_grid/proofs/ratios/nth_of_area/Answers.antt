use Rattle.std.proofs.Common.{arith, sym, ◌∙◌, ap, Some}
use Rattle.bx_grid.proofs.Prefixes.{passed, counted, of_area-here}
use Rattle.bx_grid.proofs.ratios.nth_of_area.Goals as goal
use Rattle.bx_grid.proofs.ratios.nth_of_area.Goals.{then-is_tried+else-left-eq0, else-is_tried}

pub returns-then-left-eq0 : goal.returns-then-left-eq0
returns-then-left-eq0 c =
    of_area-here c.args.limits c.args.area c.loop-narrower.narrower c.args.k (omega arith) (sym c.is_tried.ensures ∙ c.if-is_tried.true) (omega arith)
    ∙ ap Some (sym c.of_width.ensures)

pub loop-narrower-preserved : goal.loop-narrower-preserved
loop-narrower-preserved c =
    elim c.if-is_tried.branch [
      | then-is_tried+else-left-eq0 w ↦
          let e = counted c.args.limits c.args.area c.loop-narrower.narrower (sym c.is_tried.ensures ∙ w.if-is_tried.true) in
          omega (arith, e)
      | else-is_tried w ↦
          let e = passed c.args.limits c.args.area c.loop-narrower.narrower (sym c.is_tried.ensures ∙ w.if-is_tried.false) in
          omega (arith, e)
    ]
