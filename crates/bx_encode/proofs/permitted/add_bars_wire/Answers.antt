-- The list of literals is that of the wire.
use Rattle.std.proofs.Common.{[], ◌∷◌, Some, refl, sym, ap, ◌∙◌}
use Rattle.std.proofs.lemmas.Result.{IfOk-weaker}
use Rattle.bx_forms.specs.declared.side.Side.TheVariants.{Left, Right}
use Rattle.bx_encode.proofs.Adding.{adds-by, clause-as}
use Rattle.bx_encode.proofs.Barring.{wire-is, wire-made, wire-clause, entering-some}
use Rattle.bx_encode.proofs.permitted.add_bars_wire.Goals as goal

pub add_unlike-requires : goal.add_unlike-requires
add_unlike-requires c = entering-some c.args.frame.now.ratio c.args.spot.tile Left c.entering-above_left.result c.entering-above_left.ensures c.requires.tile

pub add_unlike-requires-2 : goal.add_unlike-requires-2
add_unlike-requires-2 c = entering-some c.args.frame.now.ratio c.args.spot.tile Right c.entering-above_right.result c.entering-above_right.ensures c.requires.tile

pub add_list-requires : goal.add_list-requires
add_list-requires c = clause-as _ _ _ _ c.requires.vars (wire-made _ _ c.args.spot.tile c.args.spot.upper c.args.spot.lower _ _ _ _ _ _ _ c.is-taken.result _ _ _ _ c.is_left-upper.result c.is_left-lower.result refl c.in_ok-add_unlike-4.ensures c.in_ok-add_unlike-3.ensures c.in_ok-add_unlike-2.ensures c.in_ok-add_unlike.ensures c.in_ok-push.ensures.items c.clear.ensures.items c.is-taken.ensures c.entering-above_left.ensures c.entering-above_right.ensures c.border-below_left.ensures c.border-below_right.ensures c.is_left-upper.ensures c.is_left-lower.ensures) (wire-clause _ _ c.args.spot.tile c.args.spot.upper c.args.spot.lower c.requires.tile)

pub returns : goal.returns
returns c =
    IfOk-weaker c.add_list.result _ _
    (λ _ adds. adds-by _ _ _ _ (ap (λ y. y ∷ []) (wire-made _ _ c.args.spot.tile c.args.spot.upper c.args.spot.lower _ _ _ _ _ _ _ c.is-taken.result _ _ _ _ c.is_left-upper.result c.is_left-lower.result refl c.in_ok-add_unlike-4.ensures c.in_ok-add_unlike-3.ensures c.in_ok-add_unlike-2.ensures c.in_ok-add_unlike.ensures c.in_ok-push.ensures.items c.clear.ensures.items c.is-taken.ensures c.entering-above_left.ensures c.entering-above_right.ensures c.border-below_left.ensures c.border-below_right.ensures c.is_left-upper.ensures c.is_left-lower.ensures) ∙ sym (wire-is _ _ c.args.spot.tile c.args.spot.upper c.args.spot.lower (Some c.in-Some.field-0) (sym c.in-Some.ensures))) adds)
    c.add_list.ensures
