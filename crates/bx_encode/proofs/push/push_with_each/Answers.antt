-- The two are in the order of the clause.
use Rattle.std.proofs.Common.{[], ◌∷◌, sym, subst}
use Rattle.bx_cnf.specs.Formulas.{IsClause}
use Rattle.bx_encode.proofs.Rising.{first-and}
use Rattle.bx_encode.proofs.Adding.{adds-item}
use Rattle.bx_encode.proofs.push.push_with_each.Goals as goal

pub push-requires : goal.push-requires
push-requires c =
    subst (λ n. IsClause n (c.args.first ∷ c.second-item.result ∷ [])) (sym c.loop-second.invariant.vars)
    (first-and _ c.args.first c.args.later.now c.loop-second.second-index c.second-item.result c.requires c.loop-second-test.true c.second-item.is)

pub loop-second-preserved : goal.loop-second-preserved
loop-second-preserved c =
    adds-item _ c.args.later.now c.second-item.result _ _ _ c.loop-second.second-index c.loop-second-test.true c.second-item.is c.loop-second.invariant c.in_ok-push.ensures
