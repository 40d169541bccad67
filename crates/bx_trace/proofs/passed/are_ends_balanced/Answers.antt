use Rattle.std.proofs.Common.{◌≡◌, slice_get, Some, sym, ◌∙◌, subst, arith, below_more}
use Rattle.bx_network.specs.declared.node.Edge.{Edge}
use Rattle.bx_network.proofs.Lists.{got-within}
use Rattle.bx_layout.proofs.Verdicts.{confirmed}
use Rattle.bx_trace.specs.Tests.{IsBalancedAtEnds}
use Rattle.bx_trace.proofs.passed.are_ends_balanced.Goals as goal

pub loop-e-preserved : goal.loop-e-preserved
loop-e-preserved c = below_more _ _ c.loop-e.invariant here
  where
    here : (edge : Edge) → slice_get c.args.net.now.edges c.loop-e.e ≡ Some edge → IsBalancedAtEnds c.args.layout.now c.loop-e.e edge
    here edge is =
        let both : Some c.edge.result ≡ Some edge = sym c.edge.ensures ∙ is in
        let same : c.edge.result ≡ edge = cc in
        subst (IsBalancedAtEnds c.args.layout.now c.loop-e.e) same (c.is_balanced_at_ends.ensures.0 c.if-not-is_balanced_at_ends.false)

pub returns : goal.returns
returns c = confirmed (λ e edge is. c.loop-e.invariant e (let low = got-within c.args.net.now.edges e edge is in omega (arith, low, c.edge_count-e-end.ensures.count)) edge is)
