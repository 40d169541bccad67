use Rattle.std.proofs.Common.{◌≡◌, length, sym, ap, ◌∙◌, arith}
use Rattle.bx_network.specs.Mapped.{with_edge}
use Rattle.bx_network.proofs.Downs.{ups-ordered, are-ups, edge_at, from_end}
use Rattle.bx_network.proofs.Longest.{lengths-none, lengths-next, lengths-low}
use Rattle.bx_network.proofs.lengths.ups.Goals as goal

pub loop-done-init : goal.loop-done-init
loop-done-init c = c.in_ok-lengths.ensures.items_if_clones_equal (λ y e. e) ∙ sym (lengths-none _ _ _)

pub raise-requires-clause-short : goal.raise-requires-clause-short
raise-requires-clause-short c = lengths-low _ _ _ _ (ups-ordered _ c.requires) c.requires.few_edges c.loop-done.lengths.items c.loop-done.done _ c.loop-done-test.true c.loop-done.invariant

pub loop-done-preserved : goal.loop-done-preserved
loop-done-preserved c =
    c.raise.ensures
    ∙ ap (λ l. with_edge l (edge_at c.args.edges.now (from_end c.args.edges.now c.loop-done.done)).target (edge_at c.args.edges.now (from_end c.args.edges.now c.loop-done.done)).source) c.loop-done.invariant
    ∙ sym (lengths-next _ _ (length c.args.nodes.now) c.loop-done.done)

pub returns : goal.returns
returns c =
    let all : c.loop-done.done ≡ length c.args.edges.now = omega arith in
    are-ups _ c.requires c.loop-done.lengths.items c.loop-done.done all c.loop-done.invariant
