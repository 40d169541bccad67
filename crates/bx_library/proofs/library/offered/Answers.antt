use Rattle.std.proofs.Common.{◌≡◌, ◌<◌, [], length, get_or, refl, sym, ap, ◌∙◌, arith}
use Rattle.bx_forms.specs.Forms.{form_count}
use Rattle.bx_forms.specs.FormSets.{IsIn}
use Rattle.bx_library.specs.Drawn.{lists_of}
use Rattle.bx_library.proofs.Drawing.{told_more}
use Rattle.bx_library.proofs.Pairs.{lists_at}
use Rattle.bx_library.proofs.library.offered.Goals as goal

pub forms-preserved : goal.forms-preserved
forms-preserved c =
    let form : c.forms.number < form_count = c.in-Some.ensures.some.0 refl in
    let below : c.forms.number < length c.args.all.now = omega arith in
    let item = c.index-all-from.is ∙ ap (λ k. get_or c.args.all.now k c.index-all-from.result) c.from.ensures in
    let at : get_or (lists_of c.args.all.now) c.forms.number [] ≡ c.deref.result.now =
    lists_at c.args.all.now c.forms.number c.index-all-from.result below item ∙ sym c.deref.ensures.value in
    record {
      low = omega arith;
      told = told_more (lists_of c.args.all.now) c.forms.number c.in-Some.form c.deref.result.now (IsIn c.forms.set) (IsIn c.with_offered-set.result) c.in-Some.ensures.same at
          c.forms.invariant.told c.with_offered-set.ensures;
    }
