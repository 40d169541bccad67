-- The place of the source, the borders that enter, and one that leaves.
use Rattle.std.proofs.Common.{◌<◌, [], ◌∷◌, ◌++◌, length, refl, ap, subst, ◌∙◌, arith}
use Rattle.std.specs.Prelude.{Contains}
use Rattle.std.proofs.lemmas.Result.{IfOk-weaker}
use Rattle.bx_encode.specs.declared.variable.Variable.TheVariants.{NodeOn, EdgeOn}
use Rattle.bx_encode.specs.Variables.{is, isnt}
use Rattle.bx_encode.specs.Families.{source, on_some, rule_clauses}
use Rattle.bx_encode.proofs.Adding.{adds-by, clause-as, headed}
use Rattle.bx_encode.proofs.Entering.{entry-in, exit-in}
use Rattle.bx_encode.proofs.Passing.{comes-clause, each-same}
use Rattle.bx_encode.proofs.ways.add_comes_from_above.Goals as goal

pub add_on-requires-clause-borders : goal.add_on-requires-clause-borders
add_on-requires-clause-borders c b own = entry-in c.args.frame.now.net.now c.args.frame.now.ratio c.args.around.now.tile b c.requires.around.tile (subst (λ l. Contains l b) (c.as_slice-coming.ensures.value ∙ c.requires.around.are) own)

pub add_each-requires-clause-borders : goal.add_each-requires-clause-borders
add_each-requires-clause-borders c b own = exit-in c.args.frame.now.net.now c.args.frame.now.ratio c.args.around.now.tile b c.requires.around.tile (subst (λ l. Contains l b) c.exits-leaving.ensures own)

pub add_each-requires-clause-clause : goal.add_each-requires-clause-clause
add_each-requires-clause-clause c b own =
    let node : (source c.args.frame.now.net.now c.args.frame.now.ratio c.args.e) < length c.args.frame.now.net.now.nodes = (omega (arith, c.source.ensures.is, c.source.ensures.node)) in
    clause-as _ _ _ _ c.requires.vars (ap (λ l. l ++ isnt c.args.frame.now.net.now c.args.frame.now.ratio (EdgeOn c.args.e b) ∷ []) (headed _ _ _ _ _ _ c.in_ok-add_on.ensures c.in_ok-push.ensures.items c.clear.ensures.items (c.is-begins.ensures ∙ ap (λ v. is c.args.frame.now.net.now c.args.frame.now.ratio (NodeOn v c.args.around.now.tile)) c.source.ensures.is) ∙ ap (λ l. is c.args.frame.now.net.now c.args.frame.now.ratio (NodeOn (source c.args.frame.now.net.now c.args.frame.now.ratio c.args.e) c.args.around.now.tile) ∷ on_some c.args.frame.now.net.now c.args.frame.now.ratio c.args.e l) (c.as_slice-coming.ensures.value ∙ c.requires.around.are)))
    (comes-clause _ _ (source c.args.frame.now.net.now c.args.frame.now.ratio c.args.e) c.args.around.now.tile c.args.e b node c.requires.around.tile c.requires.edge (subst (λ l. Contains l b) c.exits-leaving.ensures own))

pub returns : goal.returns
unfolding rule_clauses
returns c =
    IfOk-weaker c.add_each.result _ _
    (λ _ adds. adds-by _ _ _ _ (each-same (λ b. isnt c.args.frame.now.net.now c.args.frame.now.ratio (EdgeOn c.args.e b)) _ _ _ _ _ _ (headed _ _ _ _ _ _ c.in_ok-add_on.ensures c.in_ok-push.ensures.items c.clear.ensures.items (c.is-begins.ensures ∙ ap (λ v. is c.args.frame.now.net.now c.args.frame.now.ratio (NodeOn v c.args.around.now.tile)) c.source.ensures.is) ∙ ap (λ l. is c.args.frame.now.net.now c.args.frame.now.ratio (NodeOn (source c.args.frame.now.net.now c.args.frame.now.ratio c.args.e) c.args.around.now.tile) ∷ on_some c.args.frame.now.net.now c.args.frame.now.ratio c.args.e l) (c.as_slice-coming.ensures.value ∙ c.requires.around.are)) refl c.exits-leaving.ensures) adds)
    c.add_each.ensures
