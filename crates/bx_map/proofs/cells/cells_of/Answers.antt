use Rattle.std.proofs.Common.{◌∙◌, ap}
use Rattle.bx_map.specs.Drops.{cone_of}
use Rattle.bx_map.proofs.FirstConstant.{all_cells-is, all_cells-drop}
use Rattle.bx_map.proofs.cells.cells_of.Goals as goal

pub keep-requires : goal.keep-requires
keep-requires c =
    all_cells-drop c.args.net.now c.deref-2.result.now c.deref-3.result.now c.in_ok-folds.ensures.net c.in_ok-outputs.ensures.0
    (c.deref-2.ensures.value ∙ c.in_ok-folds.ensures.cells) (c.deref-3.ensures.value ∙ c.in_ok-outputs.ensures.1)

pub returns-clause-cells : goal.returns-clause-cells
returns-clause-cells c = (
  c.in_ok-outputs.ensures.0,
  c.in_ok-keep.ensures
      ∙ ap cone_of
      (all_cells-is c.args.net.now c.deref-2.result.now c.deref-3.result.now (c.deref-2.ensures.value ∙ c.in_ok-folds.ensures.cells)
      (c.deref-3.ensures.value ∙ c.in_ok-outputs.ensures.1)),
)
