use Rattle.std.proofs.Common.{◌≡◌, ℕ, ◌+◌, ◌<◌, [], ◌∷◌, length, get_or, refl, sym, ap, ◌∙◌, subst, arith, below_more, length-append}
use Rattle.serde_json.specs.View.{view}
use Rattle.bx_forms.specs.Forms.{form_count}
use Rattle.bx_library.specs.Drawn.{IsDrawn, lists_of}
use Rattle.bx_library.specs.Faults.{IsFree, HasBadForm}
use Rattle.bx_library.specs.Values.{form_value, listed_dots}
use Rattle.bx_library.proofs.Drawing.{lists_more, drawn_all, fine_all, all_seen}
use Rattle.bx_library.proofs.forms.form_dots.Goals as goal

pub forms-preserved : goal.forms-preserved
forms-preserved c =
    let n : ℕ = c.forms.number in
    let w : ℕ = c.args.fields.now.width in
    let h : ℕ = c.args.fields.now.height in
    let same : c.in-Some.form ≡ c.forms.number = c.in-Some.ensures.same in
    let below : c.forms.number < form_count = c.in-Some.ensures.some.0 refl in
    let here = subst (λ f. IsDrawn w h (listed_dots (view c.args.fields.now.forms.now) f) c.in_ok-dots_at.field-0.items) same c.in_ok-dots_at.ensures.drawn in
    let well = subst (λ f. IsFree (HasBadForm w h f (form_value (view c.args.fields.now.forms.now) f))) same c.in_ok-dots_at.ensures.fine in
    record {
      low = omega arith;
      count = ap length c.in_ok-push.ensures.items ∙ length-append c.forms.all.items (c.in_ok-dots_at.field-0 ∷ []) ∙ ap (λ x. x + 1) c.forms.invariant.count;
      drawn = subst (λ vs. (f : ℕ) → f < n + 1 → IsDrawn w h (listed_dots (view c.args.fields.now.forms.now) f) (get_or (lists_of vs) f [])) (sym c.in_ok-push.ensures.items)
          (lists_more (λ f l. IsDrawn w h (listed_dots (view c.args.fields.now.forms.now) f) l) c.forms.all.items c.in_ok-dots_at.field-0 n c.forms.invariant.count c.forms.invariant.drawn here);
      fine = below_more (λ f. IsFree (HasBadForm w h f (form_value (view c.args.fields.now.forms.now) f))) n c.forms.invariant.fine well;
    }

pub returns-clause-drawn : goal.returns-clause-drawn
returns-clause-drawn c =
    drawn_all c.args.fields.now.width c.args.fields.now.height (view c.args.fields.now.forms.now) c.forms.all.items c.forms.number c.forms.invariant.count
    (all_seen c.forms.number c.in_default.ensures.some.1) c.forms.invariant.drawn

pub returns-clause-fine : goal.returns-clause-fine
returns-clause-fine c =
    fine_all c.args.fields.now.width c.args.fields.now.height (view c.args.fields.now.forms.now) c.forms.number (all_seen c.forms.number c.in_default.ensures.some.1) c.forms.invariant.fine
