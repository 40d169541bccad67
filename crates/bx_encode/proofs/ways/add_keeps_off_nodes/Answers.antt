-- Two lists of clauses.
use Rattle.std.proofs.Common.{◌<◌, [], ◌∷◌, ◌++◌, length, refl, ap, subst, ◌∙◌, arith}
use Rattle.std.specs.Prelude.{Contains}
use Rattle.std.proofs.lemmas.Result.{IfOk-weaker}
use Rattle.bx_encode.specs.declared.variable.Variable.TheVariants.{NodeOn, EdgeOn}
use Rattle.bx_encode.specs.Variables.{is, isnt}
use Rattle.bx_encode.specs.Families.{source, target, rule_clauses}
use Rattle.bx_encode.proofs.Adding.{adds-more, adds-by, clause-as, two-as}
use Rattle.bx_encode.proofs.Entering.{entry-in, exit-in}
use Rattle.bx_encode.proofs.Passing.{only-clause, each-same}
use Rattle.bx_encode.proofs.ways.add_keeps_off_nodes.Goals as goal

pub add_none-requires-clause-borders : goal.add_none-requires-clause-borders
add_none-requires-clause-borders c b own = exit-in c.args.frame.now.net.now c.args.frame.now.ratio c.args.around.now.tile b c.requires.around.tile (subst (λ l. Contains l b) c.exits-leaving.ensures own)

pub add_none-requires-2-clause-borders : goal.add_none-requires-2-clause-borders
add_none-requires-2-clause-borders c b own = entry-in c.args.frame.now.net.now c.args.frame.now.ratio c.args.around.now.tile b c.requires.around.tile (subst (λ l. Contains l b) (c.as_slice-coming.ensures.value ∙ c.requires.around.are) own)

pub add_none-requires-clause-clause : goal.add_none-requires-clause-clause
add_none-requires-clause-clause c b own =
    let node : (source c.args.frame.now.net.now c.args.frame.now.ratio c.args.e) < length c.args.frame.now.net.now.nodes = (omega (arith, c.source.ensures.is, c.source.ensures.node)) in
    clause-as _ _ _ _ (c.requires.vars) (ap (λ l. l ++ isnt c.args.frame.now.net.now c.args.frame.now.ratio (EdgeOn c.args.e b) ∷ []) (two-as _ _ _ _ (c.is-begins.ensures ∙ ap (λ v. is c.args.frame.now.net.now c.args.frame.now.ratio (NodeOn v c.args.around.now.tile)) c.source.ensures.is) c.isnt-free.ensures)) (only-clause _ _ (source c.args.frame.now.net.now c.args.frame.now.ratio c.args.e) c.args.around.now.tile c.args.e b node c.requires.around.tile c.requires.edge (exit-in c.args.frame.now.net.now c.args.frame.now.ratio c.args.around.now.tile b c.requires.around.tile (subst (λ l. Contains l b) c.exits-leaving.ensures own)))

pub add_none-requires-2-clause-clause : goal.add_none-requires-2-clause-clause
add_none-requires-2-clause-clause c b own =
    let node : (target c.args.frame.now.net.now c.args.frame.now.ratio c.args.e) < length c.args.frame.now.net.now.nodes = (omega (arith, c.target.ensures.is, c.target.ensures.node)) in
    clause-as _ _ _ _ (c.in_ok-add_none.ensures.vars ∙ c.requires.vars) (ap (λ l. l ++ isnt c.args.frame.now.net.now c.args.frame.now.ratio (EdgeOn c.args.e b) ∷ []) (two-as _ _ _ _ (c.is-ends.ensures ∙ ap (λ v. is c.args.frame.now.net.now c.args.frame.now.ratio (NodeOn v c.args.around.now.tile)) c.target.ensures.is) c.isnt-free.ensures)) (only-clause _ _ (target c.args.frame.now.net.now c.args.frame.now.ratio c.args.e) c.args.around.now.tile c.args.e b node c.requires.around.tile c.requires.edge (entry-in c.args.frame.now.net.now c.args.frame.now.ratio c.args.around.now.tile b c.requires.around.tile (subst (λ l. Contains l b) (c.as_slice-coming.ensures.value ∙ c.requires.around.are) own)))

pub returns : goal.returns
unfolding rule_clauses
returns c =
    let out = adds-by _ _ _ _ (each-same (λ b. isnt c.args.frame.now.net.now c.args.frame.now.ratio (EdgeOn c.args.e b)) _ _ _ _ _ _ (two-as _ _ _ _ (c.is-begins.ensures ∙ ap (λ v. is c.args.frame.now.net.now c.args.frame.now.ratio (NodeOn v c.args.around.now.tile)) c.source.ensures.is) c.isnt-free.ensures) refl c.exits-leaving.ensures) c.in_ok-add_none.ensures in
    IfOk-weaker c.add_none-2.result _ _
    (λ _ adds. adds-more _ _ _ _ _ out (adds-by _ _ _ _ (each-same (λ b. isnt c.args.frame.now.net.now c.args.frame.now.ratio (EdgeOn c.args.e b)) _ _ _ _ _ _ (two-as _ _ _ _ (c.is-ends.ensures ∙ ap (λ v. is c.args.frame.now.net.now c.args.frame.now.ratio (NodeOn v c.args.around.now.tile)) c.target.ensures.is) c.isnt-free.ensures) refl (c.as_slice-coming.ensures.value ∙ c.requires.around.are)) adds))
    c.add_none-2.ensures
