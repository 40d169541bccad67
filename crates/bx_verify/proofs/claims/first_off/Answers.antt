use Rattle.std.proofs.Common.{◌≡◌, ◌<◌, ℕ, List, Some, length, slice_get, refl, subst, below_more, arith}
use Rattle.std.proofs.lemmas.Option.{slice_get_read}
use Rattle.bx_grid.specs.declared.ratio.Ratio.{Ratio}
use Rattle.bx_layout.proofs.Verdicts.{denied}
use Rattle.bx_verify.specs.Failing.{IsOff, named}
use Rattle.bx_verify.proofs.Offs.{on-at, off-at, on-end, off-end, none-off}
use Rattle.bx_verify.proofs.claims.first_off.Goals as goal

pub returns-then-not-is_at : goal.returns-then-not-is_at
returns-then-not-is_at c =
    let s = c.index-sections-k.result in
    let at = slice_get_read c.args.sections.now (length c.args.sections.now) c.loop-k.k s refl c.loop-k-test.true c.index-sections-k.is in
    let isnt = denied c.is_at.result (slice_get c.new-ratios.result c.loop-k.k ≡ Some s.ratio) c.is_at.ensures c.if-not-is_at.true in
    (subst (λ (rs : List Ratio). IsOff rs (named c.args.sections.now c.args.found) c.loop-k.k) c.new-ratios.ensures (off-at c.args.sections.now c.args.found c.new-ratios.result c.loop-k.k s at isnt), c.loop-k.invariant)

pub loop-k-preserved : goal.loop-k-preserved
loop-k-preserved c =
    let s = c.index-sections-k.result in
    let at = slice_get_read c.args.sections.now (length c.args.sections.now) c.loop-k.k s refl c.loop-k-test.true c.index-sections-k.is in
    let is = c.is_at.ensures.0 c.if-not-is_at.false in
    below_more _ _ c.loop-k.invariant (subst (λ (rs : List Ratio). ¬ IsOff rs (named c.args.sections.now c.args.found) c.loop-k.k) c.new-ratios.ensures (on-at c.args.sections.now c.args.found c.new-ratios.result c.loop-k.k s at is))

pub returns-then-is_at : goal.returns-then-is_at
returns-then-is_at c =
    let is = c.is_at-2.ensures.0 c.if-is_at.true in
    subst (λ (rs : List Ratio). ((j : ℕ) → j < c.loop-k.k → ¬ IsOff rs (named c.args.sections.now c.args.found) j) → (n : ℕ) → ¬ IsOff rs (named c.args.sections.now c.args.found) n) c.new-ratios.ensures
    (λ before. none-off c.args.sections.now c.args.found c.new-ratios.result c.loop-k.k c.loop-k-test.false before (on-end c.args.sections.now c.args.found c.new-ratios.result is))
    c.loop-k.invariant

pub returns-else-is_at : goal.returns-else-is_at
returns-else-is_at c =
    let isnt = denied c.is_at-2.result (slice_get c.new-ratios.result (length c.args.sections.now) ≡ Some c.args.found) c.is_at-2.ensures c.if-is_at.false in
    let past = c.loop-k-test.false in (
      subst (λ (rs : List Ratio). IsOff rs (named c.args.sections.now c.args.found) (length c.args.sections.now)) c.new-ratios.ensures (off-end c.args.sections.now c.args.found c.new-ratios.result isnt),
      (λ m low. c.loop-k.invariant m (omega (arith, low, past))),
    )
