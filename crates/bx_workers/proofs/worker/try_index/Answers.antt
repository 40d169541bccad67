use Rattle.std.proofs.Common.{ℕ, ◌+◌, ◌≡◌, subst, arith}
use Rattle.bx_layout.specs.Permits.{test_of}
use Rattle.bx_race.specs.Seats.{looks}
use Rattle.bx_verdict.specs.Verdicts.{Asks, IfEnded, IsVerdict}
use Rattle.bx_verdict.specs.declared.verdict.Trial.{Trial}
use Rattle.bx_verdict.proofs.InOrder.{in-order}
use Rattle.bx_workers.proofs.Looking.{looked-for}
use Rattle.bx_workers.proofs.worker.try_index.Goals as goal

pub judge-requires-clause-grid : goal.judge-requires-clause-grid
judge-requires-clause-grid c = (in-order c.args.problem.now.ratios.now c.args.index c.at-ratio.result c.requires.problem.order c.at-ratio.ensures).0

pub judge-requires-clause-area : goal.judge-requires-clause-area
judge-requires-clause-area c = (in-order c.args.problem.now.ratios.now c.args.index c.at-ratio.result c.requires.problem.order c.at-ratio.ensures).1

pub returns-in-Ok-Ended-clause-looks : goal.returns-in-Ok-Ended-clause-looks
returns-in-Ok-Ended-clause-looks c =
    let p = c.args.problem.now in
    let (n, asks, asked) = subst (λ (t : Trial). IfEnded t (λ end. (n : ℕ) × Asks p.net.now (test_of p.permit.now) c.at-ratio.result p.budget end n × (looks c.judge.new.pulse.seat.now ≡ looks c.look.new.seat + n))) c.in-Ok-Ended.field-0-is c.in-Ok-Ended.ensures.asked in
    looked-for p c.args.index n (looks c.args.seat.now) _ c.at-ratio.result c.in-Ok-Ended.verdict c.end_of.result c.at-ratio.ensures
    (subst (λ (t : Trial). IfEnded t (IsVerdict p.net.now (test_of p.permit.now) c.at-ratio.result p.budget)) c.in-Ok-Ended.field-0-is c.in-Ok-Ended.ensures.exact) asks c.end_of.ensures
    (grind (arith, asked, c.look.ensures.looks))
