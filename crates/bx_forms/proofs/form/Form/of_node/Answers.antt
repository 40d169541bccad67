use Rattle.std.proofs.Common.{◌≡◌, arith, below_more, true}
use Rattle.bx_forms.specs.Forms.{IsForm}
use Rattle.bx_forms.proofs.Nodes.{form-told, told-form, node-within}
use Rattle.bx_forms.proofs.form.Form.of_node.Goals as goal

pub returns-then-has_node-clause-some : goal.returns-then-has_node-clause-some
returns-then-has_node-clause-some c =
    form-told _ _ _ _ _ _ _ c.is_some.ensures c.is_some-2.ensures (c.has_node.ensures.0 c.if-has_node.true)

pub loop-number-preserved : goal.loop-number-preserved
loop-number-preserved c = below_more _ _ c.loop-number.invariant (λ is. let yes : c.has_node.result ≡ true = c.has_node.ensures.1 is in absurd (cc (yes, c.if-has_node.false)))

pub returns-clause-none : goal.returns-clause-none
returns-clause-none c = λ none form is.
    let low : IsForm form = node-within form _ is.uses.node in
    c.loop-number.invariant form (omega arith) (told-form _ _ _ _ _ _ form c.is_some.ensures c.is_some-2.ensures is)
