use Rattle.std.proofs.Common.{◌≡◌, true, arith, below_more}
use Rattle.std.specs.Str.{bytes_eq}
use Rattle.std.proofs.lemmas.Slice.Eq.{bytes_eq-Decides}
use Rattle.bx_forms.specs.Forms.{IsForm}
use Rattle.bx_forms.proofs.Lines.{named-within}
use Rattle.bx_forms.proofs.form.Form.by_name.Goals as goal

pub loop-number-preserved : goal.loop-number-preserved
loop-number-preserved c = below_more _ _ c.loop-number.invariant (λ e.
    let same : c.name.result.now ≡ c.args.text.now = cc (c.name.ensures, e) in
    let equal : bytes_eq c.name.result.now c.args.text.now ≡ true = (bytes_eq-Decides c.name.result.now c.args.text.now).1 same in
    absurd (cc (c.eq.ensures, c.if-eq.false)))

pub returns-clause-none : goal.returns-clause-none
returns-clause-none c = λ none form named.
    let low : IsForm form = named-within form _ named in
    c.loop-number.invariant form (omega arith) named
