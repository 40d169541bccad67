-- Four lists of clauses.
use Rattle.std.proofs.Common.{◌+◌, ◌*◌, ◌<◌, [], ◌∷◌, map, length, false, refl, ap, subst, ◌∙◌, arith}
use Rattle.std.specs.Prelude.{Contains}
use Rattle.std.proofs.lemmas.Result.{IfOk-weaker}
use Rattle.bx_encode.specs.declared.variable.Variable.TheVariants.{NodeOn, EdgeOn}
use Rattle.bx_encode.specs.Variables.{isnt}
use Rattle.bx_encode.specs.Families.{pairs, source, target, entries, exits, rule_clauses}
use Rattle.bx_encode.proofs.Adding.{adds-more, adds-by, clause-as, one-as}
use Rattle.bx_encode.proofs.Entering.{entries-climb, exits-climb, entry-in, exit-in}
use Rattle.bx_encode.proofs.Passing.{on-clause, off-clause, each-same}
use Rattle.bx_encode.proofs.ways.add_goes_one_way.Goals as goal

pub add_once-requires-clause-borders : goal.add_once-requires-clause-borders
add_once-requires-clause-borders c b own = exit-in c.args.frame.now.net.now c.args.frame.now.ratio c.args.around.now.tile b c.requires.around.tile (subst (λ l. Contains l b) c.exits-leaving.ensures own)

pub add_once-requires-2-clause-borders : goal.add_once-requires-2-clause-borders
add_once-requires-2-clause-borders c b own = entry-in c.args.frame.now.net.now c.args.frame.now.ratio c.args.around.now.tile b c.requires.around.tile (subst (λ l. Contains l b) (c.as_slice-coming.ensures.value ∙ c.requires.around.are) own)

pub add_none-requires-clause-borders : goal.add_none-requires-clause-borders
add_none-requires-clause-borders c b own = entry-in c.args.frame.now.net.now c.args.frame.now.ratio c.args.around.now.tile b c.requires.around.tile (subst (λ l. Contains l b) (c.as_slice-coming.ensures.value ∙ c.requires.around.are) own)

pub add_none-requires-2-clause-borders : goal.add_none-requires-2-clause-borders
add_none-requires-2-clause-borders c b own = exit-in c.args.frame.now.net.now c.args.frame.now.ratio c.args.around.now.tile b c.requires.around.tile (subst (λ l. Contains l b) c.exits-leaving.ensures own)

pub add_once-requires-clause-clause : goal.add_once-requires-clause-clause
add_once-requires-clause-clause c = clause-as _ _ _ _ c.requires.vars (ap (map (λ b. isnt c.args.frame.now.net.now c.args.frame.now.ratio (EdgeOn c.args.e b))) c.exits-leaving.ensures) (on-clause _ _ c.args.e (2 * c.args.around.now.tile) (2 * c.args.around.now.tile + 2) false (exits c.args.frame.now.net.now c.args.frame.now.ratio c.args.around.now.tile) c.requires.edge (omega (arith, c.requires.around.tile)) (exits-climb c.args.frame.now.net.now c.args.frame.now.ratio c.args.around.now.tile))

pub add_once-requires-2-clause-clause : goal.add_once-requires-2-clause-clause
add_once-requires-2-clause-clause c = clause-as _ _ _ _ (c.in_ok-add_once.ensures.vars ∙ c.requires.vars) (ap (map (λ b. isnt c.args.frame.now.net.now c.args.frame.now.ratio (EdgeOn c.args.e b))) (c.as_slice-coming.ensures.value ∙ c.requires.around.are)) (on-clause _ _ c.args.e 0 (2 * c.args.around.now.tile) false (entries c.args.frame.now.net.now c.args.frame.now.ratio c.args.around.now.tile) c.requires.edge (omega (arith, c.requires.around.tile)) (entries-climb c.args.frame.now.net.now c.args.frame.now.ratio c.args.around.now.tile))

pub add_none-requires-clause-clause : goal.add_none-requires-clause-clause
add_none-requires-clause-clause c b own =
    let node : (source c.args.frame.now.net.now c.args.frame.now.ratio c.args.e) < length c.args.frame.now.net.now.nodes = (omega (arith, c.source.ensures.is, c.source.ensures.node)) in
    clause-as _ _ _ _ (c.in_ok-add_once-2.ensures.vars ∙ c.in_ok-add_once.ensures.vars ∙ c.requires.vars) (ap (λ l. l ∷ isnt c.args.frame.now.net.now c.args.frame.now.ratio (EdgeOn c.args.e b) ∷ []) (c.isnt-begins.ensures ∙ ap (λ v. isnt c.args.frame.now.net.now c.args.frame.now.ratio (NodeOn v c.args.around.now.tile)) c.source.ensures.is)) (off-clause _ _ (source c.args.frame.now.net.now c.args.frame.now.ratio c.args.e) c.args.around.now.tile c.args.e b false node c.requires.around.tile c.requires.edge (entry-in c.args.frame.now.net.now c.args.frame.now.ratio c.args.around.now.tile b c.requires.around.tile (subst (λ l. Contains l b) (c.as_slice-coming.ensures.value ∙ c.requires.around.are) own)))

pub add_none-requires-2-clause-clause : goal.add_none-requires-2-clause-clause
add_none-requires-2-clause-clause c b own =
    let node : (target c.args.frame.now.net.now c.args.frame.now.ratio c.args.e) < length c.args.frame.now.net.now.nodes = (omega (arith, c.target.ensures.is, c.target.ensures.node)) in
    clause-as _ _ _ _ (c.in_ok-add_none.ensures.vars ∙ c.in_ok-add_once-2.ensures.vars ∙ c.in_ok-add_once.ensures.vars ∙ c.requires.vars) (ap (λ l. l ∷ isnt c.args.frame.now.net.now c.args.frame.now.ratio (EdgeOn c.args.e b) ∷ []) (c.isnt-ends.ensures ∙ ap (λ v. isnt c.args.frame.now.net.now c.args.frame.now.ratio (NodeOn v c.args.around.now.tile)) c.target.ensures.is)) (off-clause _ _ (target c.args.frame.now.net.now c.args.frame.now.ratio c.args.e) c.args.around.now.tile c.args.e b false node c.requires.around.tile c.requires.edge (exit-in c.args.frame.now.net.now c.args.frame.now.ratio c.args.around.now.tile b c.requires.around.tile (subst (λ l. Contains l b) c.exits-leaving.ensures own)))

pub returns : goal.returns
unfolding rule_clauses
returns c =
    let out = adds-by _ _ _ _ (ap (λ bs. pairs (map (λ b. isnt c.args.frame.now.net.now c.args.frame.now.ratio (EdgeOn c.args.e b)) bs)) c.exits-leaving.ensures) c.in_ok-add_once.ensures in
    let into = adds-by _ _ _ _ (ap (λ bs. pairs (map (λ b. isnt c.args.frame.now.net.now c.args.frame.now.ratio (EdgeOn c.args.e b)) bs)) (c.as_slice-coming.ensures.value ∙ c.requires.around.are)) c.in_ok-add_once-2.ensures in
    let source_off = adds-by _ _ _ _ (each-same (λ b. isnt c.args.frame.now.net.now c.args.frame.now.ratio (EdgeOn c.args.e b)) _ _ _ _ _ _ (one-as _ _ (c.isnt-begins.ensures ∙ ap (λ v. isnt c.args.frame.now.net.now c.args.frame.now.ratio (NodeOn v c.args.around.now.tile)) c.source.ensures.is)) refl (c.as_slice-coming.ensures.value ∙ c.requires.around.are)) c.in_ok-add_none.ensures in
    IfOk-weaker c.add_none-2.result _ _
    (λ _ adds. adds-more _ _ _ _ _ (adds-more _ _ _ _ _ (adds-more _ _ _ _ _ out into) source_off) (adds-by _ _ _ _ (each-same (λ b. isnt c.args.frame.now.net.now c.args.frame.now.ratio (EdgeOn c.args.e b)) _ _ _ _ _ _ (one-as _ _ (c.isnt-ends.ensures ∙ ap (λ v. isnt c.args.frame.now.net.now c.args.frame.now.ratio (NodeOn v c.args.around.now.tile)) c.target.ensures.is)) refl c.exits-leaving.ensures) adds))
    c.add_none-2.ensures
