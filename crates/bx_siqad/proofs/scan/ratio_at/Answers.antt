use Rattle.std.proofs.Common.{◌++◌, sym, ap, subst, ◌∙◌, arith}
use Rattle.std.specs.Prelude.{decimal}
use Rattle.bx_siqad.specs.Readings.{IsNumberBehind}
use Rattle.bx_siqad.proofs.Fields.{before_w, before_h, after_h, after_w, ratio_apart, w_behind, h_behind, same_w, same_h}
use Rattle.bx_siqad.proofs.scan.ratio_at.Goals.{then-w-eq0-via-then-w-eq0, then-w-eq0-via-else-w-eq0+then-h-eq0}
use Rattle.bx_siqad.proofs.scan.ratio_at.Goals as goal

pub returns-in_err-w-clause-none : goal.returns-in_err-w-clause-none
returns-in_err-w-clause-none c = rw c.from_residual.ensures (λ ratio rest at.
    c.in_err-w.ensures.none ratio.w (after_w ratio rest) at.is.width (w_behind c.args.text.now ratio rest at))

pub returns-in_err-h-clause-none : goal.returns-in_err-h-clause-none
returns-in_err-h-clause-none c = rw c.from_residual-in_err-h.ensures (λ ratio rest at.
    let before = same_w c.args.text.now c.in_ok-w.w c.in_ok-w.rest.now ratio rest c.in_ok-w.ensures.small c.in_ok-w.ensures.found at in
    c.in_err-h.ensures.none ratio.h (after_h rest) at.is.height (subst (λ bs. IsNumberBehind bs before_h ratio.h (after_h rest)) (sym before.1) (h_behind ratio rest)))

pub returns-in_err-rest-clause-none : goal.returns-in_err-rest-clause-none
returns-in_err-rest-clause-none c = rw c.from_residual-in_err-rest.ensures (λ ratio rest at.
    let before = same_h c.args.text.now c.in_ok-w.rest.now c.in_ok-h.rest.now c.in_ok-w.w c.in_ok-h.h ratio rest c.in_ok-w.ensures.small c.in_ok-h.ensures.small c.in_ok-w.ensures.found c.in_ok-h.ensures.found at in
    c.in_err-rest.ensures.none rest before.1)

pub returns-then-w-eq0-clause-none : goal.returns-then-w-eq0-clause-none
returns-then-w-eq0-clause-none c = λ ratio rest at.
    let w = same_w c.args.text.now c.in_ok-w.w c.in_ok-w.rest.now ratio rest c.in_ok-w.ensures.small c.in_ok-w.ensures.found at in
    let h = same_h c.args.text.now c.in_ok-w.rest.now c.in_ok-h.rest.now c.in_ok-w.w c.in_ok-h.h ratio rest c.in_ok-w.ensures.small c.in_ok-h.ensures.small c.in_ok-w.ensures.found c.in_ok-h.ensures.found at in
    elim c.then-w-eq0.branch [
      | then-w-eq0-via-then-w-eq0 x ↦ omega (arith, w.0, at.is.some_width, x.if-w-eq0)
      | then-w-eq0-via-else-w-eq0+then-h-eq0 x ↦ omega (arith, h.0, at.is.some_height, x.if-h-eq0)
    ]

pub returns-clause-found : goal.returns-clause-found
returns-clause-found c = record {
  is = record {
    some_width = omega (arith, c.if-w-eq0.false);
    some_height = omega (arith, c.if-h-eq0.false);
    width = c.in_ok-w.ensures.small;
    height = c.in_ok-h.ensures.small;
  };
  spelled = c.in_ok-w.ensures.found.spelled
      ∙ ap (λ bs. before_w ++ (decimal c.in_ok-w.w ++ bs)) c.in_ok-h.ensures.found.spelled
      ∙ ap (λ bs. before_w ++ (decimal c.in_ok-w.w ++ (before_h ++ (decimal c.in_ok-h.h ++ bs)))) c.in_ok-rest.ensures.found
      ∙ sym (ratio_apart (record { w = c.in_ok-w.w; h = c.in_ok-h.h }) c.in_ok-rest.rest.now);
}
