use Rattle.std.proofs.Common.{◌∙◌, ◌++◌, [], ◌∷◌, List, ap, sym, arith}
use Rattle.std.proofs.lemmas.List.FromFn.{map-range_with_len_more}
use Rattle.bx_map.specs.declared.cell.Cell.{Cell}
use Rattle.bx_map.specs.declared.cell.Cell.TheVariants.{Input}
use Rattle.bx_map.proofs.fold.input_cells.Goals as goal

pub loop-port-preserved : goal.loop-port-preserved
loop-port-preserved c =
    c.in_ok-push.ensures.items
    ∙ (ap (λ (cells : List Cell). cells ++ Input c.loop-port.port ∷ []) c.loop-port.invariant
    ∙ sym (map-range_with_len_more Input 0 c.loop-port.port c.loop-port.port (omega arith)))
