use Rattle.std.proofs.Common.{take, MatchOption}
use Rattle.bx_cnf.specs.Assignments.{IsClauseFalse, LeavesOne}
use Rattle.bx_check.proofs.left.left_of.Given as goal

abbrev pub invariant-loop-lit : goal.invariant-loop-lit
invariant-loop-lit l =
    MatchOption l.left (IsClauseFalse l.assignment (take l.lit-index l.clause)) (λ x. LeavesOne l.assignment (take l.lit-index l.clause) x)
