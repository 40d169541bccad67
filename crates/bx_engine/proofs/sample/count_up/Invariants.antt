use Rattle.std.proofs.Common.{◌≡◌, ◌≤◌, ◌*◌, take}
use Rattle.std.specs.Prelude.{sum_by}
use Rattle.bx_engine.specs.Samples.{by_count, by_clauses, steps_in}
use Rattle.bx_engine.proofs.sample.count_up.Given as goal

abbrev pub invariant-loop-section : goal.invariant-loop-section
invariant-loop-section l =
    (l.counts ≡ sum_by (λ s. by_count s.proof) (take l.section-index l.fn.sections))
    × (l.clauses ≡ sum_by (λ s. by_clauses s.proof) (take l.section-index l.fn.sections))
    × (l.steps ≡ sum_by (λ s. steps_in s.proof) (take l.section-index l.fn.sections))
    × (l.counts ≤ l.section-index)
    × (l.clauses ≤ l.section-index)
    × (l.steps ≤ l.section-index * 4294967295)
