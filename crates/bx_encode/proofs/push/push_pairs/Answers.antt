-- The clauses of one literal and the later ones are the first of those that are left.
use Rattle.bx_encode.proofs.Adding.{pairs-next, pairs-end, rest-clause}
use Rattle.bx_encode.proofs.push.push_pairs.Goals as goal

pub push_with_each-requires : goal.push_with_each-requires
push_with_each-requires c = rest-clause _ _ c.args.literals.now c.loop-k.k c.index-literals-k.result c.loop-k.invariant.vars c.requires c.loop-k-test.true c.index-literals-k.is

pub loop-k-preserved : goal.loop-k-preserved
loop-k-preserved c = pairs-next c.args.literals.now c.loop-k.k c.index-literals-k.result _ _ _ c.loop-k-test.true c.index-literals-k.is c.loop-k.invariant c.in_ok-push_with_each.ensures

pub returns : goal.returns
returns c = pairs-end c.args.literals.now c.loop-k.k _ _ c.loop-k-test.false c.loop-k.invariant
