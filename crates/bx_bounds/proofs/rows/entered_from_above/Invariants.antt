use Rattle.bx_bounds.specs.Rows.{AreRowsOf}
use Rattle.bx_bounds.proofs.Chains.{EntersBy}
use Rattle.bx_bounds.proofs.rows.entered_from_above.Given as goal

abbrev pub invariant-loop-e : goal.invariant-loop-e
invariant-loop-e l = AreRowsOf (EntersBy l.net.edges l.operand l.e) l.rows
