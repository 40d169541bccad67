-- The clauses so far.
use Rattle.std.proofs.Common.{◌≡◌, take}
use Rattle.bx_dimacs.proofs.draft.copied.Given as goal

abbrev pub invariant-loop-k : goal.invariant-loop-k
invariant-loop-k l = l.clauses ≡ record { vars = l.vars; clauses = take l.k l.lists }
