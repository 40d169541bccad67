use Rattle.std.proofs.Common.{length, get_or, ap, arith, below_more}
use Rattle.bx_network.proofs.Lists.{got-within}
use Rattle.bx_layout.proofs.Verdicts.{refuted, confirmed, denied, stands-at, alone-at}
use Rattle.bx_layout.proofs.legal.nodes_are_alone.Goals as goal

pub returns-then-not-is_alone : goal.returns-then-not-is_alone
returns-then-not-is_alone c =
    let whole = ap length c.as_slice-places.ensures in
    let same = c.requires.placed.places in
    let count = c.node_count-v-end.ensures.count in
    refuted (λ all. denied c.is_alone.result _ c.is_alone.ensures c.if-not-is_alone.true
    (all c.loop-v.v (get_or c.as_slice-places.result.now c.loop-v.v 0) (stands-at c.args.layout.now c.as_slice-places.result.now c.loop-v.v c.as_slice-places.ensures (omega (arith, whole)))))

pub loop-v-preserved : goal.loop-v-preserved
loop-v-preserved c =
    below_more _ _ c.loop-v.invariant
    (λ t stands. alone-at c.args.net.now c.args.layout.now c.as_slice-places.result.now c.loop-v.v t c.as_slice-places.ensures (c.is_alone.ensures.0 c.if-not-is_alone.false) stands)

pub returns : goal.returns
returns c =
    let same = c.requires.placed.places in
    let count = c.node_count-v-end.ensures.count in
    confirmed (λ v t stands. c.loop-v.invariant v (let l = got-within c.args.layout.now.places v t stands in omega arith) t stands)
