-- The clauses are counted by computing them.
use Rattle.std.proofs.Common.{refl}
use Rattle.bx_encode.specs.Windows.{in_window}
use Rattle.bx_encode.specs.Families.{stands_somewhere, stands_once, stands_apart, takes_its_tile, keeps_its_window, stays_on_grid, carries_once, is_used, rule_clauses, keeps_rule, bars, is_permitted}
use Rattle.bx_encode.specs.Formula.{place_clauses, border_clauses, way_clauses, formula}
use Rattle.bx_encode.proofs.laws.examples.a_small_formula_is_counted.Goals as goal

pub returns-clause-all : goal.returns-clause-all
unfolding in_window stands_somewhere stands_once stands_apart takes_its_tile keeps_its_window stays_on_grid carries_once is_used rule_clauses keeps_rule bars is_permitted place_clauses border_clauses way_clauses formula
returns-clause-all c = refl

pub returns-clause-output : goal.returns-clause-output
unfolding in_window stands_somewhere stands_once stands_apart takes_its_tile keeps_its_window stays_on_grid carries_once is_used rule_clauses keeps_rule bars is_permitted place_clauses border_clauses way_clauses formula
returns-clause-output c = refl

pub returns-clause-inputs : goal.returns-clause-inputs
unfolding in_window stands_somewhere stands_once stands_apart takes_its_tile keeps_its_window stays_on_grid carries_once is_used rule_clauses keeps_rule bars is_permitted place_clauses border_clauses way_clauses formula
returns-clause-inputs c = refl
