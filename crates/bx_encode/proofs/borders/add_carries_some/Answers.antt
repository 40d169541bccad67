-- The list of literals.
use Rattle.std.proofs.Common.{[], ◌∷◌, true, false, ap}
use Rattle.std.proofs.lemmas.Result.{IfOk-weaker}
use Rattle.bx_encode.proofs.Adding.{adds-by, clause-as, headed}
use Rattle.bx_encode.proofs.Shapes.{used-clause}
use Rattle.bx_encode.proofs.borders.add_carries_some.Goals as goal

pub add_list-requires : goal.add_list-requires
add_list-requires c = clause-as _ _ _ _ c.requires.vars (headed _ _ _ _ c.isnt.result _ c.in_ok-add_edges_on.ensures c.in_ok-push.ensures.items c.clear.ensures.items c.isnt.ensures) (used-clause _ _ c.args.b false true c.requires.border)

pub returns : goal.returns
returns c = IfOk-weaker c.add_list.result _ _ (λ _ adds. adds-by _ _ _ _ (ap (λ y. y ∷ []) (headed _ _ _ _ c.isnt.result _ c.in_ok-add_edges_on.ensures c.in_ok-push.ensures.items c.clear.ensures.items c.isnt.ensures)) adds) c.add_list.ensures
