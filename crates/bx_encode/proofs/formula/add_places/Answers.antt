-- The five families one behind the other.
use Rattle.std.proofs.lemmas.Result.{IfOk-weaker}
use Rattle.bx_encode.specs.Formula.{place_clauses}
use Rattle.bx_encode.proofs.Adding.{adds-more}
use Rattle.bx_encode.proofs.formula.add_places.Goals as goal

pub returns : goal.returns
unfolding place_clauses
returns c =
    IfOk-weaker c.add_keeps_its_window.result _ _
    (λ _ last. adds-more _ _ _ _ _ (adds-more _ _ _ _ _ (adds-more _ _ _ _ _ (adds-more _ _ _ _ _ c.in_ok-add_stands_somewhere.ensures c.in_ok-add_stands_once.ensures) c.in_ok-add_stands_apart.ensures) c.in_ok-add_takes_its_tile.ensures) last)
    c.add_keeps_its_window.ensures
