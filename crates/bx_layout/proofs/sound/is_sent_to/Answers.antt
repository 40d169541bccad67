use Rattle.std.proofs.Common.{◌∙◌, ap, sym}
use Rattle.bx_grid.specs.Tiles.{entering}
use Rattle.bx_layout.proofs.Verdicts.{entering-tile}
use Rattle.bx_layout.proofs.sound.is_sent_to.Goals as goal

pub sends-requires : goal.sends-requires
sends-requires c =
    entering-tile c.args.grid.now.ratio c.args.tile c.in-Some.border c.args.side c.requires
    (ap (λ r. entering r c.args.tile c.args.side) (sym c.ratio.ensures.same) ∙ sym c.in-Some.ensures)
