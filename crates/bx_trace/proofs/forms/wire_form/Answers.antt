use Rattle.bx_forms.specs.declared.side.Side.TheVariants.{Left, Right}
use Rattle.bx_layout.specs.Permits.{all_forms}
use Rattle.bx_layout.proofs.OnTiles.{entered-from, sources-apart, wire-found}
use Rattle.bx_trace.proofs.forms.wire_form.Goals as goal

pub side_from-left-requires-clause-enters : goal.side_from-left-requires-clause-enters
side_from-left-requires-clause-enters c =
    entered-from c.args.net.now all_forms c.args.layout.now c.requires.network c.requires.legal c.args.tile c.requires.tile c.requires.free Left

pub side_from-right-requires-clause-enters : goal.side_from-right-requires-clause-enters
side_from-right-requires-clause-enters c =
    entered-from c.args.net.now all_forms c.args.layout.now c.requires.network c.requires.legal c.args.tile c.requires.tile c.requires.free Right

pub wire-requires : goal.wire-requires
wire-requires c =
    sources-apart c.args.net.now all_forms c.args.layout.now c.requires.network c.requires.legal c.args.tile c.requires.tile c.requires.free
    c.side_from-left.result c.side_from-right.result c.side_from-left.ensures c.side_from-right.ensures

pub returns : goal.returns
returns c =
    wire-found c.args.net.now all_forms c.args.layout.now c.requires.network c.requires.legal c.args.tile c.requires.tile c.requires.free
    c.side_from-left.result c.side_from-right.result c.wire.result c.side_from-left.ensures c.side_from-right.ensures c.wire.ensures
