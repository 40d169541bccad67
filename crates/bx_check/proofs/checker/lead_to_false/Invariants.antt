use Rattle.std.proofs.Common.{drop, take}
use Rattle.bx_proof.specs.Accepted.{LeadsToFalse, with_steps}
use Rattle.bx_check.proofs.checker.lead_to_false.Given as goal

abbrev pub invariant-loop-i : goal.invariant-loop-i
invariant-loop-i l =
    let all = with_steps l.clauses.clauses (take l.k l.steps.steps) in
    record {
      whole : LeadsToFalse all l.assignment (drop l.i l.hints) → LeadsToFalse all l.fn.assignment l.hints;
      rest : LeadsToFalse all l.fn.assignment l.hints → LeadsToFalse all l.assignment (drop l.i l.hints);
    }
