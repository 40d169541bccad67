use Rattle.std.proofs.Common.{◌≡◌, take}
use Rattle.bx_tests_solver.proofs.trial.copy_of.Given as goal

abbrev pub invariant-loop-before : goal.invariant-loop-before
invariant-loop-before l = l.copy ≡ record { vars = l.clauses.vars; clauses = take l.before l.clauses.clauses }
