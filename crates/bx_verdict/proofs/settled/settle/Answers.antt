-- One refutation more, and what is known at the end.
use Rattle.std.proofs.Common.{sym, subst, arith}
use Rattle.bx_layout.specs.Permits.{test_of}
use Rattle.bx_verdict.specs.Verdicts.{IsVerdict, Shows}
use Rattle.bx_verdict.specs.Settling.{IsLastAt, AreTrueAt}
use Rattle.bx_verdict.specs.declared.settled.Last.TheVariants.{NoneWithin}
use Rattle.bx_verdict.proofs.InOrder.{in-order, known-more, settled, shown, at-end}
use Rattle.bx_verdict.proofs.settled.settle.Goals as goal
use Rattle.bx_verdict.proofs.settled.settle.Goals.{in-Found, in-Undecided}

pub judge_to_the_end-requires-clause-grid : goal.judge_to_the_end-requires-clause-grid
judge_to_the_end-requires-clause-grid c = (in-order c.args.ratios.now c.loop-k.k c.at-ratio.result c.requires.order c.at-ratio.ensures).0

pub judge_to_the_end-requires-clause-area : goal.judge_to_the_end-requires-clause-area
judge_to_the_end-requires-clause-area c = (in-order c.args.ratios.now c.loop-k.k c.at-ratio.result c.requires.order c.at-ratio.ensures).1

pub loop-k-preserved : goal.loop-k-preserved
loop-k-preserved c =
    known-more c.args.net.now (test_of c.args.permit.now) c.args.budget c.args.ratios.now c.loop-k.k c.loop-k.refutations.items c.push.new.self.items c.in-Refuted.proof
    c.in_ok-push-in-Refuted.ensures.items c.loop-k.invariant (record {
      ratio = c.at-ratio.result;
      at = c.at-ratio.ensures;
      verdict = subst (IsVerdict c.args.net.now (test_of c.args.permit.now) c.at-ratio.result c.args.budget) c.in-Refuted.is c.in_ok-proof.ensures.exact;
      shows = subst (Shows c.args.net.now (test_of c.args.permit.now) c.at-ratio.result) c.in-Refuted.is c.in_ok-proof.ensures.shows;
    })

pub returns-in-loop-k-clause-exact : goal.returns-in-loop-k-clause-exact
returns-in-loop-k-clause-exact c =
    settled c.args.net.now (test_of c.args.permit.now) c.args.budget c.args.ratios.now c.loop-k.k c.loop-k.refutations.items c.loop-k.invariant c.match-branch-2.last
    (elim c.match-branch-2.branch [
      | in-Found w ↦ subst (IsLastAt c.args.net.now (test_of c.args.permit.now) c.args.budget c.args.ratios.now c.loop-k.k) (sym w.last-is)
          (record { ratio = c.at-ratio.result; at = c.at-ratio.ensures; is = subst (IsVerdict c.args.net.now (test_of c.args.permit.now) c.at-ratio.result c.args.budget) w.in-Found.is c.in_ok-proof.ensures.exact })
      | in-Undecided w ↦ subst (IsLastAt c.args.net.now (test_of c.args.permit.now) c.args.budget c.args.ratios.now c.loop-k.k) (sym w.last-is)
          (record { ratio = c.at-ratio.result; at = c.at-ratio.ensures; is = subst (IsVerdict c.args.net.now (test_of c.args.permit.now) c.at-ratio.result c.args.budget) w.in-Undecided.is c.in_ok-proof.ensures.exact })
    ])

pub returns-in-loop-k-clause-shows : goal.returns-in-loop-k-clause-shows
returns-in-loop-k-clause-shows c =
    shown c.args.net.now (test_of c.args.permit.now) c.args.budget c.args.ratios.now c.loop-k.k c.loop-k.refutations.items c.loop-k.invariant c.match-branch-2.last
    (elim c.match-branch-2.branch [
      | in-Found w ↦ subst (AreTrueAt c.args.net.now (test_of c.args.permit.now) c.args.ratios.now c.loop-k.k) (sym w.last-is)
          (c.at-ratio.result, c.at-ratio.ensures, subst (Shows c.args.net.now (test_of c.args.permit.now) c.at-ratio.result) w.in-Found.is c.in_ok-proof.ensures.shows)
      | in-Undecided w ↦ subst (AreTrueAt c.args.net.now (test_of c.args.permit.now) c.args.ratios.now c.loop-k.k) (sym w.last-is) tt
    ])

pub returns-clause-exact : goal.returns-clause-exact
returns-clause-exact c =
    settled c.args.net.now (test_of c.args.permit.now) c.args.budget c.args.ratios.now c.loop-k.k c.loop-k.refutations.items c.loop-k.invariant NoneWithin
    (at-end c.args.net.now (test_of c.args.permit.now) c.args.budget c.args.ratios.now c.loop-k.k c.loop-k.refutations.items c.loop-k.invariant
    (omega (arith, c.len-k-end.ensures, c.loop-k-test.false)))

pub returns-clause-shows : goal.returns-clause-shows
returns-clause-shows c =
    shown c.args.net.now (test_of c.args.permit.now) c.args.budget c.args.ratios.now c.loop-k.k c.loop-k.refutations.items c.loop-k.invariant NoneWithin tt
