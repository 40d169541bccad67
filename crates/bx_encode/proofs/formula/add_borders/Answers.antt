-- The three families one behind the other.
use Rattle.std.proofs.lemmas.Result.{IfOk-weaker}
use Rattle.bx_encode.specs.Formula.{border_clauses}
use Rattle.bx_encode.proofs.Adding.{adds-more}
use Rattle.bx_encode.proofs.formula.add_borders.Goals as goal

pub returns : goal.returns
unfolding border_clauses
returns c =
    IfOk-weaker c.add_is_used.result _ _
    (λ _ last. adds-more _ _ _ _ _ (adds-more _ _ _ _ _ c.in_ok-add_stays_on_grid.ensures c.in_ok-add_carries_once.ensures) last)
    c.add_is_used.ensures
