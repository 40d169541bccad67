use Rattle.bx_proof.specs.Accepted.{with_steps}
use Rattle.bx_search.proofs.Places.{IsAt}
use Rattle.bx_search.proofs.analyze.Analysis.learn.Given as goal

abbrev pub invariant-loop-place : goal.invariant-loop-place
invariant-loop-place l = IsAt (with_steps l.clauses.clauses l.steps.steps) l.trail.entries l.trail.vars l.id l.place (record {
  marks = l.self.marks;
  literals = l.self.literals.items;
  levels = l.self.levels.items;
  hints = l.self.hints.items;
})

abbrev pub decreases-loop-place : goal.decreases-loop-place
decreases-loop-place l = l.place
