use Rattle.std.proofs.Common.{refl}
use Rattle.bx_forms.specs.declared.side.Side.TheVariants.{Left, Right}
use Rattle.bx_layout.specs.Permits.{all_forms}
use Rattle.bx_layout.proofs.OnTiles.{entered-from, sources-apart, wire-found}
use Rattle.bx_layout.proofs.tile_form.tile_form.Goals as goal

pub side_from-left-requires-clause-enters : goal.side_from-left-requires-clause-enters
side_from-left-requires-clause-enters c =
    entered-from c.args.net.now all_forms c.args.layout.now c.in-None.ensures.network c.requires.legal c.args.tile c.requires.tile (c.in-None.ensures.none refl) Left

pub side_from-right-requires-clause-enters : goal.side_from-right-requires-clause-enters
side_from-right-requires-clause-enters c =
    entered-from c.args.net.now all_forms c.args.layout.now c.in-None.ensures.network c.requires.legal c.args.tile c.requires.tile (c.in-None.ensures.none refl) Right

pub wire-requires : goal.wire-requires
wire-requires c =
    sources-apart c.args.net.now all_forms c.args.layout.now c.in-None.ensures.network c.requires.legal c.args.tile c.requires.tile (c.in-None.ensures.none refl)
    c.side_from-left.result c.side_from-right.result c.side_from-left.ensures c.side_from-right.ensures

pub returns-in-None-clause-forms : goal.returns-in-None-clause-forms
returns-in-None-clause-forms c =
    wire-found c.args.net.now all_forms c.args.layout.now c.in-None.ensures.network c.requires.legal c.args.tile c.requires.tile (c.in-None.ensures.none refl)
    c.side_from-left.result c.side_from-right.result c.wire.result c.side_from-left.ensures c.side_from-right.ensures c.wire.ensures
