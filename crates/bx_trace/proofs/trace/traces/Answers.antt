use Rattle.std.proofs.Common.{◌≡◌, ℕ, List, Option, sym, ◌∙◌, subst, arith}
use Rattle.bx_network.proofs.Lists.{got-within}
use Rattle.bx_trace.specs.Known.{AreNodesAt}
use Rattle.bx_trace.specs.Traced.{IsLegalWith, IsTraced}
use Rattle.bx_trace.proofs.Judged.{laid, made-with, answered}
use Rattle.bx_trace.proofs.trace.traces.Goals as goal

pub borders-requires-clause-own : goal.borders-requires-clause-own
borders-requires-clause-own c = λ t v is.
    let nodes = rw c.in-Some.is at c.in_ok-nodes.ensures.some in
    let at : AreNodesAt c.args.places.now c.deref-2.result.now = subst (AreNodesAt c.args.places.now) (sym c.deref-2.ensures.value) nodes in
    let low = got-within c.args.places.now v t ((at t v).0 is) in
    let count = c.node_count.ensures.count in
    let whole = c.if-places-node_count.false in
    omega (arith, low, count, whole)

pub returns : goal.returns
returns c =
    answered c.is_layout_of.result (IsLegalWith c.args.net.now (laid c.ratio-ratio.result c.new.result c.new-2.result) c.args.grid.now) (IsTraced c.args.net.now c.args.grid.now c.args.places.now)
    (λ w. record {
      layout = laid c.ratio-ratio.result c.new.result c.new-2.result;
      stands = same;
      legal = w.legal;
      forms = w.forms;
    })
    (λ traced.
    made-with c.args.net.now c.args.grid.now c.args.places.now c.new.result c.ratio-ratio.result c.deref.result.now c.deref-2.result.now c.in_ok-targets.targets.items c.deref-3.result.now c.new-2.result
    c.node_count.ensures.network c.ratio-ratio.ensures.same same (at c.deref.result.now c.deref.ensures.value) (at c.deref-2.result.now c.deref-2.ensures.value) c.deref-3.ensures.value
    c.in_ok-targets.ensures.known (λ L of straight known. c.new-2.ensures ∙ c.in_ok-edges.ensures L of straight known) traced)
    c.is_layout_of.ensures
  where
    same : c.new.result ≡ c.args.places.now
    same = c.new.ensures ∙ c.in_ok-from_slice.ensures.items

    nodes : AreNodesAt c.args.places.now c.in-Some.nodes.items
    nodes = rw c.in-Some.is at c.in_ok-nodes.ensures.some

    at : (ns : List (Option ℕ)) → ns ≡ c.in-Some.nodes.items → AreNodesAt c.args.places.now ns
    at ns e = subst (AreNodesAt c.args.places.now) (sym e) nodes
