use Rattle.std.proofs.Common.{get_or}
use Rattle.bx_layout.proofs.Verdicts.{denied}
use Rattle.bx_library.proofs.DotSets.{no_dot}
use Rattle.bx_dots.specs.Places.{IsStray}
use Rattle.bx_dots.proofs.Firsts.{none_stray_more, none_stray_all, first_stray}
use Rattle.bx_dots.proofs.cuts.refuse_strays.Goals as goal

pub returns-then-is_stray-clause-err : goal.returns-then-is_stray-clause-err
returns-then-is_stray-clause-err c =
    first_stray c.args.library.now c.args.ratio c.args.dots.now c.loop-dot.dot-index no_dot c.requires.ascending c.loop-dot-test.true c.loop-dot.invariant
    (c.is_stray.ensures.stray.0 c.if-is_stray.true)

pub loop-dot-preserved : goal.loop-dot-preserved
loop-dot-preserved c =
    none_stray_more c.args.library.now c.args.ratio c.args.dots.now c.loop-dot.dot-index no_dot c.loop-dot-test.true c.loop-dot.invariant
    (denied c.is_stray.result (IsStray c.args.library.now c.args.ratio (get_or c.args.dots.now c.loop-dot.dot-index no_dot)) c.is_stray.ensures.stray c.if-is_stray.false)

pub returns-clause-none : goal.returns-clause-none
returns-clause-none c = none_stray_all c.args.library.now c.args.ratio c.args.dots.now c.loop-dot.dot-index c.loop-dot-test.false c.loop-dot.invariant
