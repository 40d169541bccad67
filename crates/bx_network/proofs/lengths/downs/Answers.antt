use Rattle.std.proofs.Common.{◌≡◌, length, sym, ap, ◌∙◌, arith}
use Rattle.bx_network.specs.Mapped.{with_edge}
use Rattle.bx_network.proofs.Downs.{downs-ordered, are-downs, edge_at}
use Rattle.bx_network.proofs.Longest.{lengths-none, lengths-next, lengths-low}
use Rattle.bx_network.proofs.lengths.downs.Goals as goal

pub loop-number-init : goal.loop-number-init
loop-number-init c = c.in_ok-lengths.ensures.items_if_clones_equal (λ y e. e) ∙ sym (lengths-none _ _ _)

pub raise-requires-clause-short : goal.raise-requires-clause-short
raise-requires-clause-short c = lengths-low _ _ _ _ (downs-ordered _ c.requires) c.requires.few_edges c.loop-number.lengths.items c.loop-number.number _ c.loop-number-test.true c.loop-number.invariant

pub loop-number-preserved : goal.loop-number-preserved
loop-number-preserved c =
    c.raise.ensures
    ∙ ap (λ l. with_edge l (edge_at c.args.edges.now c.loop-number.number).source (edge_at c.args.edges.now c.loop-number.number).target) c.loop-number.invariant
    ∙ sym (lengths-next _ _ (length c.args.nodes.now) c.loop-number.number)

pub returns : goal.returns
returns c =
    let all : c.loop-number.number ≡ length c.args.edges.now = omega arith in
    are-downs _ c.requires c.loop-number.lengths.items c.loop-number.number all c.loop-number.invariant
