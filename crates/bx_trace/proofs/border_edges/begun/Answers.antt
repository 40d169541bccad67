use Rattle.std.proofs.Common.{◌≡◌, sym, ap, ◌∙◌, arith, Some}
use Rattle.bx_network.proofs.Networks.{slots-few}
use Rattle.bx_forms.specs.Kinds.{slots}
use Rattle.bx_forms.specs.Sides.{is_used}
use Rattle.bx_trace.proofs.Steps.{begins-none, begins-one, begins-two}
use Rattle.bx_trace.proofs.border_edges.begun.Goals as goal

pub returns-in-0 : goal.returns-in-0
returns-in-0 c = λ L t b. sym (begins-none c.args.net.now L c.args.v t c.args.form c.args.left b c.node.result c.node.ensures c.args.side (sym c.slots.ensures ∙ c.in-0.is))

pub returns-in-1 : goal.returns-in-1
returns-in-1 c = λ L t b.
    ap Some c.edge_out.ensures
    ∙ sym (begins-one c.args.net.now L c.args.v t c.args.form c.args.left b c.node.result c.node.ensures c.args.side (sym c.slots.ensures ∙ c.in-1.is)
    (sym (c.is_used.ensures ∙ ap (λ sides. is_used sides c.args.side) c.lower.ensures) ∙ c.if-not-is_used.false))

pub returns-in_default : goal.returns-in_default
returns-in_default c = λ L t b.
    let few = slots-few c.node.result.kind in
    let two : slots c.node.result.kind ≡ 2 = omega (arith, c.slots.ensures) in
    ap Some c.edge_out-in_default.ensures
    ∙ sym (begins-two c.args.net.now L c.args.v t c.args.form c.args.left b c.node.result c.node.ensures c.args.side c.slot_on.result two c.slot_on.ensures.straight c.slot_on.ensures.crossed)
