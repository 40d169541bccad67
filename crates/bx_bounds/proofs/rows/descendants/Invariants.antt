use Rattle.std.proofs.Common.{◌-◌, length}
use Rattle.bx_bounds.specs.Rows.{AreRowsOf}
use Rattle.bx_bounds.proofs.Chains.{IsBelowBy}
use Rattle.bx_bounds.proofs.rows.descendants.Given as goal

abbrev pub invariant-loop-past : goal.invariant-loop-past
invariant-loop-past l = AreRowsOf (IsBelowBy l.net.edges (length l.net.edges - l.past)) l.rows
