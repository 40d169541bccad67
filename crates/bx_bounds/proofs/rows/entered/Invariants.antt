use Rattle.bx_bounds.specs.Rows.{AreRowsOf}
use Rattle.bx_bounds.proofs.Chains.{EntersEarly}
use Rattle.bx_bounds.proofs.rows.entered.Given as goal

abbrev pub invariant-loop-e : goal.invariant-loop-e
invariant-loop-e l = AreRowsOf (EntersEarly l.net.edges l.operand l.e) l.rows
