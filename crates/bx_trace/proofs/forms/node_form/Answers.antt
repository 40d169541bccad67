use Rattle.std.proofs.Common.{◌∙◌, ap, ap₂, Bool, is_some}
use Rattle.bx_forms.specs.declared.side.Sides.{Sides}
use Rattle.bx_layout.specs.Permits.{all_forms}
use Rattle.bx_layout.specs.TileForms.{slot_of}
use Rattle.bx_layout.proofs.OnTiles.{node-found}
use Rattle.bx_trace.proofs.forms.node_form.Goals as goal

abbrev sides_of : Bool → Bool → Sides
sides_of l r = record { left = l; right = r }

pub returns : goal.returns
returns c =
    let N = c.args.net.now in
    let L = c.args.layout.now in
    node-found N all_forms L c.requires.network c.requires.legal c.args.tile (c.requires.legal.placed.inside c.args.v c.args.tile c.requires.stands)
    c.args.v c.node-node.result c.node-node.ensures c.requires.stands
    (record { left = c.is_some.result; right = c.is_some-2.result }) c.slot_of-left.result c.slot_of-right.result c.of_node.result
    (ap₂ (λ (l r : Bool). sides_of l r) (c.is_some.ensures ∙ ap is_some c.enters.ensures) (c.is_some-2.ensures ∙ ap is_some c.enters-2.ensures))
    (c.slot_of-left.ensures ∙ ap (slot_of N) c.leaves.ensures)
    (c.slot_of-right.ensures ∙ ap (slot_of N) c.leaves-2.ensures)
    c.of_node.ensures.some c.of_node.ensures.none
