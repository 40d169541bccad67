use Rattle.std.proofs.Common.{rules, subst, arith}
use Rattle.std.proofs.lemmas.List.{take_all}
use Rattle.bx_watch.specs.Watches.{OthersFail}
use Rattle.bx_watch.proofs.ClauseReads.{literal-over}
use Rattle.bx_watch.proofs.Moves.{others-more}
use Rattle.bx_watch.proofs.falsify.spare.Goals as goal
use Rattle.bx_watch.proofs.falsify.spare.Goals.{else-not-has-via-then-not-has+else-not-is_false, else-not-has-via-else-not-has}

pub is_false-requires : goal.is_false-requires
is_false-requires c = literal-over c.args.trail.now.vars c.args.literals.now c.loop-lit.lit-index c.lit-item.result c.requires c.loop-lit-test.true c.lit-item.is

pub loop-lit-init : goal.loop-lit-init
loop-lit-init c m has isnt = absurd (omega (arith, has.1))

pub loop-lit-preserved : goal.loop-lit-preserved
loop-lit-preserved c =
    elim c.else-not-has.branch [
      | else-not-has-via-then-not-has+else-not-is_false w ↦ others-more c.args.trail.now.literals c.args.literals.now c.args.pair.now c.loop-lit.lit-index c.lit-item.result c.loop-lit.invariant c.loop-lit-test.true c.lit-item.is (λ isnt. w.is_false.ensures.yes (search rules))
      | else-not-has-via-else-not-has w ↦ others-more c.args.trail.now.literals c.args.literals.now c.args.pair.now c.loop-lit.lit-index c.lit-item.result c.loop-lit.invariant c.loop-lit-test.true c.lit-item.is (λ isnt. absurd (isnt (c.has.ensures.yes (search rules))))
    ]

pub returns-clause-none : goal.returns-clause-none
returns-clause-none c _ = subst (λ ls. OthersFail c.args.trail.now.literals ls c.args.pair.now) (take_all c.loop-lit.lit-index c.args.literals.now (search rules)) c.loop-lit.invariant
