-- The place of the source with what leaves, and that of the target with what enters.
use Rattle.std.proofs.Common.{◌+◌, ◌*◌, ◌<◌, [], ◌∷◌, length, true, false, ap, subst, ◌∙◌, arith}
use Rattle.std.specs.Prelude.{Contains}
use Rattle.std.proofs.lemmas.Result.{IfOk-weaker}
use Rattle.bx_encode.specs.declared.variable.Variable.TheVariants.{NodeOn}
use Rattle.bx_encode.specs.Variables.{isnt}
use Rattle.bx_encode.specs.Families.{source, target, entries, exits, on_some, rule_clauses}
use Rattle.bx_encode.proofs.Adding.{adds-more, adds-by, clause-as}
use Rattle.bx_encode.proofs.Entering.{entries-climb, exits-climb, entry-in, exit-in}
use Rattle.bx_encode.proofs.Passing.{placed-on-clause}
use Rattle.bx_encode.proofs.ways.add_joins_its_ends.Goals as goal

pub add_some-requires-clause-borders : goal.add_some-requires-clause-borders
add_some-requires-clause-borders c b own = exit-in c.args.frame.now.net.now c.args.frame.now.ratio c.args.around.now.tile b c.requires.around.tile (subst (λ l. Contains l b) c.exits-leaving.ensures own)

pub add_some-requires-2-clause-borders : goal.add_some-requires-2-clause-borders
add_some-requires-2-clause-borders c b own = entry-in c.args.frame.now.net.now c.args.frame.now.ratio c.args.around.now.tile b c.requires.around.tile (subst (λ l. Contains l b) (c.as_slice-coming.ensures.value ∙ c.requires.around.are) own)

pub add_some-requires-clause-clause : goal.add_some-requires-clause-clause
add_some-requires-clause-clause c =
    let node : (source c.args.frame.now.net.now c.args.frame.now.ratio c.args.e) < length c.args.frame.now.net.now.nodes = (omega (arith, c.source.ensures.is, c.source.ensures.node)) in
    clause-as _ _ _ _ c.requires.vars (ap (λ l. l ∷ on_some c.args.frame.now.net.now c.args.frame.now.ratio c.args.e c.exits-leaving.result) (c.isnt-begins.ensures ∙ ap (λ v. isnt c.args.frame.now.net.now c.args.frame.now.ratio (NodeOn v c.args.around.now.tile)) c.source.ensures.is) ∙ ap (λ l. isnt c.args.frame.now.net.now c.args.frame.now.ratio (NodeOn (source c.args.frame.now.net.now c.args.frame.now.ratio c.args.e) c.args.around.now.tile) ∷ on_some c.args.frame.now.net.now c.args.frame.now.ratio c.args.e l) c.exits-leaving.ensures) (placed-on-clause _ _ (source c.args.frame.now.net.now c.args.frame.now.ratio c.args.e) c.args.around.now.tile c.args.e (2 * c.args.around.now.tile) (2 * c.args.around.now.tile + 2) false true (exits c.args.frame.now.net.now c.args.frame.now.ratio c.args.around.now.tile) node c.requires.around.tile c.requires.edge (omega (arith, c.requires.around.tile)) (exits-climb c.args.frame.now.net.now c.args.frame.now.ratio c.args.around.now.tile))

pub add_some-requires-2-clause-clause : goal.add_some-requires-2-clause-clause
add_some-requires-2-clause-clause c =
    let node : (target c.args.frame.now.net.now c.args.frame.now.ratio c.args.e) < length c.args.frame.now.net.now.nodes = (omega (arith, c.target.ensures.is, c.target.ensures.node)) in
    clause-as _ _ _ _ (c.in_ok-add_some.ensures.vars ∙ c.requires.vars) (ap (λ l. l ∷ on_some c.args.frame.now.net.now c.args.frame.now.ratio c.args.e c.as_slice-coming.result.now) (c.isnt-ends.ensures ∙ ap (λ v. isnt c.args.frame.now.net.now c.args.frame.now.ratio (NodeOn v c.args.around.now.tile)) c.target.ensures.is) ∙ ap (λ l. isnt c.args.frame.now.net.now c.args.frame.now.ratio (NodeOn (target c.args.frame.now.net.now c.args.frame.now.ratio c.args.e) c.args.around.now.tile) ∷ on_some c.args.frame.now.net.now c.args.frame.now.ratio c.args.e l) (c.as_slice-coming.ensures.value ∙ c.requires.around.are)) (placed-on-clause _ _ (target c.args.frame.now.net.now c.args.frame.now.ratio c.args.e) c.args.around.now.tile c.args.e 0 (2 * c.args.around.now.tile) false true (entries c.args.frame.now.net.now c.args.frame.now.ratio c.args.around.now.tile) node c.requires.around.tile c.requires.edge (omega (arith, c.requires.around.tile)) (entries-climb c.args.frame.now.net.now c.args.frame.now.ratio c.args.around.now.tile))

pub returns : goal.returns
unfolding rule_clauses
returns c =
    IfOk-weaker c.add_some-2.result _ _
    (λ _ adds. adds-more _ _ _ _ _ (adds-by _ _ _ _ (ap (λ y. y ∷ []) (ap (λ l. l ∷ on_some c.args.frame.now.net.now c.args.frame.now.ratio c.args.e c.exits-leaving.result) (c.isnt-begins.ensures ∙ ap (λ v. isnt c.args.frame.now.net.now c.args.frame.now.ratio (NodeOn v c.args.around.now.tile)) c.source.ensures.is) ∙ ap (λ l. isnt c.args.frame.now.net.now c.args.frame.now.ratio (NodeOn (source c.args.frame.now.net.now c.args.frame.now.ratio c.args.e) c.args.around.now.tile) ∷ on_some c.args.frame.now.net.now c.args.frame.now.ratio c.args.e l) c.exits-leaving.ensures)) c.in_ok-add_some.ensures) (adds-by _ _ _ _ (ap (λ y. y ∷ []) (ap (λ l. l ∷ on_some c.args.frame.now.net.now c.args.frame.now.ratio c.args.e c.as_slice-coming.result.now) (c.isnt-ends.ensures ∙ ap (λ v. isnt c.args.frame.now.net.now c.args.frame.now.ratio (NodeOn v c.args.around.now.tile)) c.target.ensures.is) ∙ ap (λ l. isnt c.args.frame.now.net.now c.args.frame.now.ratio (NodeOn (target c.args.frame.now.net.now c.args.frame.now.ratio c.args.e) c.args.around.now.tile) ∷ on_some c.args.frame.now.net.now c.args.frame.now.ratio c.args.e l) (c.as_slice-coming.ensures.value ∙ c.requires.around.are))) adds))
    c.add_some-2.ensures
