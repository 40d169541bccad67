use Rattle.std.proofs.Common.{arith, sym, ◌∙◌}
use Rattle.bx_grid.proofs.Prefixes.{passed, counted}
use Rattle.bx_grid.proofs.ratios.count_of_area.Goals as goal
use Rattle.bx_grid.proofs.ratios.count_of_area.Goals.{then-is_tried, else-is_tried}

pub loop-narrower-preserved : goal.loop-narrower-preserved
loop-narrower-preserved c =
    elim c.if-is_tried.branch [
      | then-is_tried w ↦
          let e = counted c.args.limits c.args.area c.loop-narrower.narrower (sym c.is_tried.ensures ∙ w.if-is_tried.true) in
          (omega (arith, e), omega arith)
      | else-is_tried w ↦
          let e = passed c.args.limits c.args.area c.loop-narrower.narrower (sym c.is_tried.ensures ∙ w.if-is_tried.false) in
          (omega (arith, e), omega arith)
    ]
