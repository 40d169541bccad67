-- A form with a node, by the node.
use Rattle.std.proofs.Common.{filter, sym, ap, ◌∙◌}
use Rattle.std.specs.Prelude.{slice_get}
use Rattle.std.proofs.lemmas.Result.{IfOk-weaker}
use Rattle.bx_forms.specs.Forms.{form_upper}
use Rattle.bx_encode.specs.Families.{each, nodes, has_kind, used_side, bars_node}
use Rattle.bx_encode.proofs.Adding.{adds-by}
use Rattle.bx_encode.proofs.Barring.{holding-is}
use Rattle.bx_encode.proofs.permitted.add_bars.Goals as goal

pub returns-in-Some : goal.returns-in-Some
returns-in-Some c =
    let kind = c.in-Some.kind in
    let kept = filter (λ v. has_kind kind (slice_get c.args.frame.now.net.now.nodes v)) (nodes c.args.frame.now.net.now c.args.frame.now.ratio) in
    IfOk-weaker c.add_bars_nodes.result _ _
    (λ _ adds. adds-by _ _ _ _
    (ap (λ s. each kept (bars_node c.args.frame.now.net.now c.args.frame.now.ratio c.args.t s c.side_of-lower.result kind)) (c.side_of-upper.ensures ∙ ap used_side c.upper.ensures)
    ∙ ap (λ s. each kept (bars_node c.args.frame.now.net.now c.args.frame.now.ratio c.args.t (used_side (form_upper c.args.form)) s kind)) (c.side_of-lower.ensures ∙ ap used_side c.lower.ensures)
    ∙ sym (holding-is _ _ c.args.t c.args.form kind (sym c.in-Some.ensures)))
    adds)
    c.add_bars_nodes.ensures
