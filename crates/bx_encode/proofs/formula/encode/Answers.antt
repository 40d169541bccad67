-- The formula begins without clauses.
use Rattle.bx_encode.specs.Formula.{formula}
use Rattle.bx_encode.proofs.Adding.{adds-more}
use Rattle.bx_encode.proofs.Framing.{formula-is}
use Rattle.bx_encode.proofs.formula.encode.Goals as goal

pub returns : goal.returns
unfolding formula
returns c =
    formula-is _ _ _ _ _ c.new-2.ensures c.counted-count.ensures.is
    (adds-more _ _ _ _ _ (adds-more _ _ _ _ _ (adds-more _ _ _ _ _ c.in_ok-add_places.ensures c.in_ok-add_borders.ensures) c.in_ok-add_ways.ensures) c.in_ok-add_is_permitted.ensures)
