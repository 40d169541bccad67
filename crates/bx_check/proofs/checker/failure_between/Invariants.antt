use Rattle.std.proofs.Common.{◌≡◌, []}
use Rattle.bx_check.specs.Chunks.{PassFrom}
use Rattle.bx_check.proofs.checker.failure_between.Given as goal

abbrev pub invariant-loop-k : goal.invariant-loop-k
invariant-loop-k l = record {
  fresh : l.assignment ≡ [];
  pass : PassFrom l.clauses l.steps.steps l.from l.k;
}
