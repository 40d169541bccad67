-- The five rules one behind the other.
use Rattle.bx_encode.specs.Formula.{way_clauses}
use Rattle.bx_encode.proofs.Adding.{adds-more}
use Rattle.bx_encode.proofs.formula.add_ways.Goals as goal

pub returns : goal.returns
unfolding way_clauses
returns c =
    adds-more _ _ _ _ _ (adds-more _ _ _ _ _ (adds-more _ _ _ _ _ (adds-more _ _ _ _ _ c.in_ok-add_keeps_rule.ensures c.in_ok-add_keeps_rule-2.ensures) c.in_ok-add_keeps_rule-3.ensures) c.in_ok-add_keeps_rule-4.ensures) c.in_ok-add_keeps_rule-5.ensures
