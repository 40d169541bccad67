-- Of the two sides.
use Rattle.std.proofs.Common.{[], ◌∷◌, map}
use Rattle.std.specs.Prelude.{is_none}
use Rattle.std.proofs.lemmas.Result.{IfOk-weaker}
use Rattle.bx_grid.specs.Tiles.{below, border}
use Rattle.bx_encode.specs.declared.variable.Variable.TheVariants.{EdgeOn}
use Rattle.bx_encode.specs.Variables.{isnt}
use Rattle.bx_encode.specs.Families.{edges}
use Rattle.bx_encode.proofs.Adding.{adds-sides}
use Rattle.bx_encode.proofs.borders.add_stays_at.Goals as goal

pub returns : goal.returns
returns c =
    IfOk-weaker c.add_stays-2.result _ _
    (λ _ right. adds-sides (λ side. is_none (below c.args.frame.now.ratio c.args.t side)) (λ side. map (λ e. isnt c.args.frame.now.net.now c.args.frame.now.ratio (EdgeOn e (border c.args.t side)) ∷ []) (edges c.args.frame.now.net.now c.args.frame.now.ratio)) _ _ _ c.in_ok-add_stays.ensures right)
    c.add_stays-2.ensures
