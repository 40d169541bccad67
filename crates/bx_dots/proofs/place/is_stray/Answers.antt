use Rattle.std.proofs.Common.{◌/◌, sym, ap, ◌∙◌, subst, ◌<◌, ◌≤◌, ◌-◌}
use Rattle.bx_layout.proofs.Verdicts.{confirmed}
use Rattle.bx_dots.specs.Places.{shift}
use Rattle.bx_dots.proofs.Geometry.{sized, stray_below, stray_before, told_stray}
use Rattle.bx_dots.proofs.place.is_stray.Goals as goal

pub returns-then-row-ratio-clause-stray : goal.returns-then-row-ratio-clause-stray
returns-then-row-ratio-clause-stray c =
    confirmed (stray_below c.args.library.now c.args.ratio c.args.dot c.requires
    (subst (λ h. c.args.ratio.h ≤ c.args.dot.m / h) c.height.ensures.height c.if-row-ratio.true))

pub returns-then-dot-shift-clause-stray : goal.returns-then-dot-shift-clause-stray
returns-then-dot-shift-clause-stray c =
    confirmed (stray_before c.args.library.now c.args.ratio c.args.dot
    (subst (λ s. c.args.dot.n < s) (c.shift-shift.ensures.is ∙ ap (λ h. shift c.args.library.now (c.args.dot.m / h)) c.height.ensures.height) c.if-dot-shift.true))

pub returns-clause-stray : goal.returns-clause-stray
returns-clause-stray c =
    told_stray c.args.library.now c.args.ratio c.args.dot (c.args.dot.m / c.height.result) c.shift-shift.result _ c.requires (sized c.args.library.now c.width.ensures.kept)
    (ap (λ h. c.args.dot.m / h) (sym c.height.ensures.height)) c.shift-shift.ensures.is
    (ap (λ w. (c.args.dot.n - c.shift-shift.result) / w) (sym c.width.ensures.width)) c.if-row-ratio.false c.if-dot-shift.false
