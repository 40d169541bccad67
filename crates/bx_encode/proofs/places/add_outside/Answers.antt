-- The node may stand on the tile, or the one clause is there.
use Rattle.std.proofs.Common.{[], ◌∷◌, not, cond, false, refl, sym, ap, subst, ◌∙◌}
use Rattle.std.proofs.lemmas.Result.{IfOk-weaker}
use Rattle.bx_encode.specs.Sizes.{Adds}
use Rattle.bx_encode.specs.declared.variable.Variable.TheVariants.{NodeOn}
use Rattle.bx_encode.specs.Variables.{isnt}
use Rattle.bx_encode.proofs.Adding.{adds-none, adds-by, clause-as, one-as}
use Rattle.bx_encode.proofs.Shapes.{one-clause}
use Rattle.bx_encode.proofs.places.add_outside.Goals as goal

pub add-requires : goal.add-requires
add-requires c = clause-as _ _ _ _ c.requires.vars (one-as _ _ c.isnt.ensures) (one-clause _ _ (NodeOn c.args.v c.args.t) false (c.requires.node, c.requires.tile))

pub returns : goal.returns
returns c =
    IfOk-weaker c.add.result _ _
    (λ _ adds. subst (λ b. Adds c.args.to.now.clauses c.add.new.self.clauses (cond (not b) ((isnt c.args.frame.now.net.now c.args.frame.now.ratio (NodeOn c.args.v c.args.t) ∷ []) ∷ []) [])) (sym (sym c.in_window.ensures ∙ c.if-in_window.false)) (adds-by _ _ _ _ (ap (λ y. y ∷ []) (one-as _ _ c.isnt.ensures)) adds))
    c.add.ensures

pub returns-then-in_window : goal.returns-then-in_window
returns-then-in_window c = subst (λ b. Adds c.args.to.now.clauses c.args.to.now.clauses (cond (not b) ((isnt c.args.frame.now.net.now c.args.frame.now.ratio (NodeOn c.args.v c.args.t) ∷ []) ∷ []) [])) (sym (sym c.in_window.ensures ∙ c.if-in_window.true)) (adds-none _ _ refl)
