-- The formula of a ratio: 'some layout of the network is legal there under the permit', as clauses.
use Rattle.std.specs.Prelude.{List, ◌++◌}
use Rattle.bx_cnf.specs.Formulas.{Formula}
use Rattle.bx_grid.specs.declared.ratio.Ratio.{Ratio}
use Rattle.bx_layout.specs.Permits.{PermitTest}
use Rattle.bx_network.specs.Networks.{Network}
use Rattle.bx_encode.specs.declared.rule.Rule.TheVariants.{ComesFromAbove, GoesOnBelow, JoinsItsEnds, GoesOneWay, KeepsOffNodes}
use Rattle.bx_encode.specs.Variables.{variable_count}
use Rattle.bx_encode.specs.Families.{Clause, stands_somewhere, stands_once, stands_apart, takes_its_tile, keeps_its_window, stays_on_grid, carries_once, is_used, keeps_rule, is_permitted}

-- where nodes stand
unfoldable pub place_clauses : Network → Ratio → List Clause
place_clauses N r = stands_somewhere N r ++ stands_once N r ++ stands_apart N r ++ takes_its_tile N r ++ keeps_its_window N r

-- what borders carry
unfoldable pub border_clauses : Network → Ratio → List Clause
border_clauses N r = stays_on_grid N r ++ carries_once N r ++ is_used N r

-- how edges go through tiles
unfoldable pub way_clauses : Network → Ratio → List Clause
way_clauses N r = keeps_rule N r ComesFromAbove ++ keeps_rule N r GoesOnBelow ++ keeps_rule N r JoinsItsEnds ++ keeps_rule N r GoesOneWay ++ keeps_rule N r KeepsOffNodes

unfoldable pub formula : Network → PermitTest → Ratio → Formula
formula N permit r = record {
  vars = variable_count N r;
  clauses = place_clauses N r ++ border_clauses N r ++ way_clauses N r ++ is_permitted N r permit;
}
