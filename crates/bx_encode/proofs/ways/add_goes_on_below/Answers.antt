-- The place of the target, one border that enters, and those that leave.
use Rattle.std.proofs.Common.{◌<◌, [], ◌∷◌, ◌++◌, length, ap, subst, ◌∙◌, arith}
use Rattle.std.specs.Prelude.{Contains}
use Rattle.std.proofs.lemmas.Result.{IfOk-weaker}
use Rattle.bx_encode.specs.declared.variable.Variable.TheVariants.{NodeOn, EdgeOn}
use Rattle.bx_encode.specs.Variables.{is, isnt}
use Rattle.bx_encode.specs.Families.{target, rule_clauses}
use Rattle.bx_encode.proofs.Adding.{adds-by, clause-as, two-as}
use Rattle.bx_encode.proofs.Entering.{entry-in}
use Rattle.bx_encode.proofs.Passing.{goes-clause, each-same}
use Rattle.bx_encode.proofs.ways.add_goes_on_below.Goals as goal

pub add_each-requires-clause-borders : goal.add_each-requires-clause-borders
add_each-requires-clause-borders c b own = entry-in c.args.frame.now.net.now c.args.frame.now.ratio c.args.around.now.tile b c.requires.around.tile (subst (λ l. Contains l b) (c.as_slice-coming.ensures.value ∙ c.requires.around.are) own)

pub add_each-requires-clause-clause : goal.add_each-requires-clause-clause
add_each-requires-clause-clause c b own =
    let node : (target c.args.frame.now.net.now c.args.frame.now.ratio c.args.e) < length c.args.frame.now.net.now.nodes = (omega (arith, c.target.ensures.is, c.target.ensures.node)) in
    clause-as _ _ _ _ c.requires.vars
    (ap (λ l. l ++ isnt c.args.frame.now.net.now c.args.frame.now.ratio (EdgeOn c.args.e b) ∷ c.is-left.result ∷ c.is-right.result ∷ []) (c.in_ok-push.ensures.items ∙ ap (λ l. l ++ c.is-ends.result ∷ []) c.clear.ensures.items ∙ ap (λ l. l ∷ []) (c.is-ends.ensures ∙ ap (λ v. is c.args.frame.now.net.now c.args.frame.now.ratio (NodeOn v c.args.around.now.tile)) c.target.ensures.is)) ∙ ap (λ l. (is c.args.frame.now.net.now c.args.frame.now.ratio (NodeOn (target c.args.frame.now.net.now c.args.frame.now.ratio c.args.e) c.args.around.now.tile) ∷ []) ++ isnt c.args.frame.now.net.now c.args.frame.now.ratio (EdgeOn c.args.e b) ∷ l) (two-as _ _ _ _ (c.is-left.ensures ∙ ap (λ b. is c.args.frame.now.net.now c.args.frame.now.ratio (EdgeOn c.args.e b)) c.border-below_left.ensures) (c.is-right.ensures ∙ ap (λ b. is c.args.frame.now.net.now c.args.frame.now.ratio (EdgeOn c.args.e b)) c.border-below_right.ensures)))
    (goes-clause _ _ (target c.args.frame.now.net.now c.args.frame.now.ratio c.args.e) c.args.around.now.tile c.args.e b node c.requires.around.tile c.requires.edge (subst (λ l. Contains l b) (c.as_slice-coming.ensures.value ∙ c.requires.around.are) own))

pub returns : goal.returns
unfolding rule_clauses
returns c =
    IfOk-weaker c.add_each.result _ _
    (λ _ adds. adds-by _ _ _ _ (each-same (λ b. isnt c.args.frame.now.net.now c.args.frame.now.ratio (EdgeOn c.args.e b)) _ _ _ _ _ _ (c.in_ok-push.ensures.items ∙ ap (λ l. l ++ c.is-ends.result ∷ []) c.clear.ensures.items ∙ ap (λ l. l ∷ []) (c.is-ends.ensures ∙ ap (λ v. is c.args.frame.now.net.now c.args.frame.now.ratio (NodeOn v c.args.around.now.tile)) c.target.ensures.is)) (two-as _ _ _ _ (c.is-left.ensures ∙ ap (λ b. is c.args.frame.now.net.now c.args.frame.now.ratio (EdgeOn c.args.e b)) c.border-below_left.ensures) (c.is-right.ensures ∙ ap (λ b. is c.args.frame.now.net.now c.args.frame.now.ratio (EdgeOn c.args.e b)) c.border-below_right.ensures)) (c.as_slice-coming.ensures.value ∙ c.requires.around.are)) adds)
    c.add_each.ensures
