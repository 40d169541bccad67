-- Longest paths: the lengths that are with_edge edge by edge are theirs, those from the inputs in the order of
-- the edges, and those to the outputs in the opposite order.
use Rattle.std.proofs.Common.{◌≡◌, ℕ, zero, suc, ◌+◌, ◌-◌, ◌<◌, ◌≤◌, List, length, get_or, replicate, Some, inl, inr, refl, sym, ap, ◌∙◌, subst, arith}
use Rattle.std.specs.List.{slice_get, position_or_len}
use Rattle.std.proofs.lemmas.Bool.{cases_lt}
use Rattle.bx_forms.specs.declared.kind.Kind.{Kind}
use Rattle.bx_forms.specs.declared.kind.Kind.TheVariants.{Input, Output}
use Rattle.bx_forms.specs.Kinds.{operands, slots}
use Rattle.bx_network.specs.declared.node.Edge.{Edge}
use Rattle.bx_network.specs.Networks.{Network, IsNetwork, HasKind, leaves_by, enters_by}
use Rattle.bx_network.specs.Paths.{HasEdge, IsPath, IsDown, IsUp}
use Rattle.bx_network.specs.Mapped.{AreDowns, AreUps}
use Rattle.bx_network.proofs.Lists.{got-within, got-get_or, got-slice_get}
use Rattle.bx_network.proofs.Longest.{at, lengths, IsLongest, AreOrdered, longest}
use Rattle.bx_network.proofs.Networks.{operands-none, slots-none, kind-at, edge-leaves, edge-enters, leaves-says, enters-says, goes-forward, sources-rise}

pub down_is_one : (N : Network) (v d e : ℕ) → IsDown N v d → IsDown N v e → d ≡ e
down_is_one N v d e a b =
    let low = a.longest b.input e b.starts b.path in
    let high = b.longest a.input d a.starts a.path in
    omega arith

pub up_is_one : (N : Network) (v d e : ℕ) → IsUp N v d → IsUp N v e → d ≡ e
up_is_one N v d e a b =
    let low = a.longest b.output e b.ends b.path in
    let high = b.longest a.output d a.ends a.path in
    omega arith

-- a path with an edge before it
pub path-cons : (edges : List Edge) (u w v n : ℕ) → HasEdge edges u w → IsPath edges w v n → IsPath edges u v (suc n)
path-cons edges u w v zero e same = (u, refl, subst (HasEdge edges u) same e)
path-cons edges u w v (suc n) e (middle, path, last) = (middle, path-cons edges u w middle n e path, last)

-- where each edge raises a number that the nodes have, a path raises it by its length
pub path-rises : (edges : List Edge) (rank : ℕ → ℕ) → ((i : ℕ) (e : Edge) → slice_get edges i ≡ Some e → rank e.source + 1 ≤ rank e.target) → (u v n : ℕ) → IsPath edges u v n → rank u + n ≤ rank v
path-rises edges rank rises u v zero p = let e : rank u ≡ rank v = ap rank p in omega arith
path-rises edges rank rises u v (suc n) (middle, p, (i, e, a, s, t)) =
    let before = path-rises edges rank rises u middle n p in
    let here = rises i e a in
    let from : rank e.source ≡ rank middle = ap rank s in
    let to : rank e.target ≡ rank v = ap rank t in
    omega arith

-- and where each edge lowers it, a path lowers it by its length
pub path-falls : (edges : List Edge) (rank : ℕ → ℕ) → ((i : ℕ) (e : Edge) → slice_get edges i ≡ Some e → rank e.target + 1 ≤ rank e.source) → (u v n : ℕ) → IsPath edges u v n → rank v + n ≤ rank u
path-falls edges rank falls u v zero p = let e : rank u ≡ rank v = ap rank p in omega arith
path-falls edges rank falls u v (suc n) (middle, p, (i, e, a, s, t)) =
    let before = path-falls edges rank falls u middle n p in
    let here = falls i e a in
    let from : rank e.source ≡ rank middle = ap rank s in
    let to : rank e.target ≡ rank v = ap rank t in
    omega arith

-- the edge with this number, and any edge where there is none
abbrev pub no_edge : Edge
no_edge = record { source = 0; slot = 0; target = 0; operand = 0 }

abbrev pub edge_at : List Edge → ℕ → Edge
edge_at edges i = get_or edges i no_edge

-- the lengths from the inputs after k edges
abbrev pub downs : List Edge → ℕ → ℕ → List ℕ
downs edges n k = lengths (λ i. (edge_at edges i).source) (λ i. (edge_at edges i).target) n k

-- the number of the edge that is the k-th from the end
abbrev pub from_end : List Edge → ℕ → ℕ
from_end edges k = length edges - 1 - k

-- the lengths to the outputs after k edges from the end
abbrev pub ups : List Edge → ℕ → ℕ → List ℕ
ups edges n k = lengths (λ i. (edge_at edges (from_end edges i)).target) (λ i. (edge_at edges (from_end edges i)).source) n k

pub downs-ordered : (N : Network) → IsNetwork N → AreOrdered (λ i. (edge_at N.edges i).source) (λ i. (edge_at N.edges i).target) (length N.nodes) (length N.edges)
downs-ordered N net = record {
  within = λ i h. (goes-forward N net i (edge_at N.edges i) (got-slice_get N.edges i no_edge h)).within;
  apart = λ i j low h same.
      let at_j = got-slice_get N.edges j no_edge h in
      let rise = sources-rise N net i j (edge_at N.edges i) (edge_at N.edges j) (got-slice_get N.edges i no_edge (omega arith)) at_j low in
      let forward = (goes-forward N net j (edge_at N.edges j) at_j).forward in
      omega arith;
}

pub ups-ordered : (N : Network) → IsNetwork N → AreOrdered (λ i. (edge_at N.edges (from_end N.edges i)).target) (λ i. (edge_at N.edges (from_end N.edges i)).source) (length N.nodes) (length N.edges)
ups-ordered N net = record {
  within = λ i h. let is = goes-forward N net (from_end N.edges i) (edge_at N.edges (from_end N.edges i)) (got-slice_get N.edges (from_end N.edges i) no_edge (omega arith)) in let a = is.forward in let b = is.within in omega arith;
  apart = λ i j low h same.
      let at_i = got-slice_get N.edges (from_end N.edges i) no_edge (omega arith) in
      let at_j = got-slice_get N.edges (from_end N.edges j) no_edge (omega arith) in
      let rise = sources-rise N net (from_end N.edges j) (from_end N.edges i) (edge_at N.edges (from_end N.edges j)) (edge_at N.edges (from_end N.edges i)) at_j at_i (omega arith) in
      let forward = (goes-forward N net (from_end N.edges i) (edge_at N.edges (from_end N.edges i)) at_i).forward in
      omega arith;
}

pub downs-longest : (N : Network) → IsNetwork N → (k : ℕ) → k ≤ length N.edges → IsLongest (λ i. (edge_at N.edges i).source) (λ i. (edge_at N.edges i).target) (length N.nodes) k (downs N.edges (length N.nodes) k)
downs-longest N net k h = longest _ _ (length N.nodes) (length N.edges) (downs-ordered N net) k h

pub ups-longest : (N : Network) → IsNetwork N → (k : ℕ) → k ≤ length N.edges → IsLongest (λ i. (edge_at N.edges (from_end N.edges i)).target) (λ i. (edge_at N.edges (from_end N.edges i)).source) (length N.nodes) k (ups N.edges (length N.nodes) k)
ups-longest N net k h = longest _ _ (length N.nodes) (length N.edges) (ups-ordered N net) k h

-- the lengths after all edges
abbrev pub all_downs : Network → List ℕ
all_downs N = downs N.edges (length N.nodes) (length N.edges)

abbrev pub all_ups : Network → List ℕ
all_ups N = ups N.edges (length N.nodes) (length N.edges)

downs-rise : (N : Network) → IsNetwork N → (i : ℕ) (e : Edge) → slice_get N.edges i ≡ Some e → at (all_downs N) e.source + 1 ≤ at (all_downs N) e.target
downs-rise N net i e is_at =
    let whole = downs-longest N net (length N.edges) (omega arith) in
    let raise = whole.raises i (got-within N.edges i e is_at) in
    let same : edge_at N.edges i ≡ e = got-get_or N.edges i e no_edge is_at in
    subst (λ (x : Edge). at (all_downs N) x.source + 1 ≤ at (all_downs N) x.target) same raise

ups-fall : (N : Network) → IsNetwork N → (i : ℕ) (e : Edge) → slice_get N.edges i ≡ Some e → at (all_ups N) e.target + 1 ≤ at (all_ups N) e.source
ups-fall N net i e is_at =
    let whole = ups-longest N net (length N.edges) (omega arith) in
    let low = got-within N.edges i e is_at in
    let raise = whole.raises (from_end N.edges i) (omega arith) in
    let twice : from_end N.edges (from_end N.edges i) ≡ i = omega arith in
    let same : edge_at N.edges (from_end N.edges (from_end N.edges i)) ≡ e = ap (edge_at N.edges) twice ∙ got-get_or N.edges i e no_edge is_at in
    subst (λ (x : Edge). at (all_ups N) x.target + 1 ≤ at (all_ups N) x.source) same raise

record IsBegun (N : Network) (v d : ℕ) : Type 0 where
  input : ℕ
  starts : HasKind N input Input
  path : IsPath N.edges input v d

record IsEnded (N : Network) (v d : ℕ) : Type 0 where
  output : ℕ
  ends : HasKind N output Output
  path : IsPath N.edges v output d

-- a node that no edge with_edge is an input
not-raised : (N : Network) → IsNetwork N → (v : ℕ) (kind : Kind) → HasKind N v kind → at (all_downs N) v ≡ 0 → kind ≡ Input
not-raised N net v kind has none =
    elim (cases_lt 0 (operands kind)) [
      | inr few ↦ operands-none kind (omega arith)
      | inl some ↦
          let edge = edge-enters N net v kind has 0 some in
          let rise = downs-rise N net (position_or_len (enters_by v 0) N.edges) edge.item edge.at in
          let to = ap (at (all_downs N)) (enters-says v 0 edge.item edge.passes).0 in
          absurd (omega arith)
    ]

not-lowered : (N : Network) → IsNetwork N → (v : ℕ) (kind : Kind) → HasKind N v kind → at (all_ups N) v ≡ 0 → kind ≡ Output
not-lowered N net v kind has none =
    elim (cases_lt 0 (slots kind)) [
      | inr few ↦ slots-none kind (omega arith)
      | inl some ↦
          let edge = edge-leaves N net v kind has 0 some in
          let fall = ups-fall N net (position_or_len (leaves_by v 0) N.edges) edge.item edge.at in
          let from = ap (at (all_ups N)) (leaves-says v 0 edge.item edge.passes).0 in
          absurd (omega arith)
    ]

begun : (N : Network) → IsNetwork N → (d v : ℕ) → v < length N.nodes → at (all_downs N) v ≡ d → IsBegun N v d
begun N net zero v h none =
    let here = kind-at N v h in
    record { input = v; starts = subst (HasKind N v) (not-raised N net v here.0 here.1 none) here.1; path = refl }
begun N net (suc d) v h some =
    let whole = downs-longest N net (length N.edges) (omega arith) in
    let last = whole.reached v (omega arith) in
    let is_at = got-slice_get N.edges last.step no_edge last.before in
    let edge = edge_at N.edges last.step in
    let forward = goes-forward N net last.step edge is_at in
    let low : edge.source < length N.nodes = let a = forward.forward in let b = forward.within in omega arith in
    let shorter : at (all_downs N) edge.source ≡ d = let a = last.longer in omega arith in
    let before = begun N net d edge.source low shorter in
    record { input = before.input; starts = before.starts; path = (edge.source, before.path, (last.step, edge, is_at, refl, last.leads)) }

ended : (N : Network) → IsNetwork N → (d v : ℕ) → v < length N.nodes → at (all_ups N) v ≡ d → IsEnded N v d
ended N net zero v h none =
    let here = kind-at N v h in
    record { output = v; ends = subst (HasKind N v) (not-lowered N net v here.0 here.1 none) here.1; path = refl }
ended N net (suc d) v h some =
    let whole = ups-longest N net (length N.edges) (omega arith) in
    let first = whole.reached v (omega arith) in
    let early = first.before in
    let is_at = got-slice_get N.edges (from_end N.edges first.step) no_edge (omega arith) in
    let edge = edge_at N.edges (from_end N.edges first.step) in
    let low = (goes-forward N net (from_end N.edges first.step) edge is_at).within in
    let shorter : at (all_ups N) edge.target ≡ d = let a = first.longer in omega arith in
    let rest = ended N net d edge.target low shorter in
    record { output = rest.output; ends = rest.ends; path = path-cons N.edges v edge.target rest.output d (from_end N.edges first.step, edge, is_at, first.leads, refl) rest.path }

pub downs-are : (N : Network) → IsNetwork N → (v : ℕ) → v < length N.nodes → IsDown N v (at (all_downs N) v)
downs-are N net v h =
    let way = begun N net (at (all_downs N) v) v h refl in
    record {
      input = way.input;
      starts = way.starts;
      path = way.path;
      longest = λ u n starts path. let rise = path-rises N.edges (at (all_downs N)) (downs-rise N net) u v n path in omega arith;
    }

pub ups-are : (N : Network) → IsNetwork N → (v : ℕ) → v < length N.nodes → IsUp N v (at (all_ups N) v)
ups-are N net v h =
    let way = ended N net (at (all_ups N) v) v h refl in
    record {
      output = way.output;
      ends = way.ends;
      path = way.path;
      longest = λ u n ends path. let fall = path-falls N.edges (at (all_ups N)) (ups-fall N net) v u n path in omega arith;
    }

-- ---- the lists that are made

pub are-downs : (N : Network) → IsNetwork N → (L : List ℕ) (k : ℕ) → k ≡ length N.edges → L ≡ downs N.edges (length N.nodes) k → AreDowns N L
are-downs N net L k all same =
    let here : L ≡ all_downs N = same ∙ ap (downs N.edges (length N.nodes)) all in
    record { all = ap length here ∙ (downs-longest N net (length N.edges) (omega arith)).all; each = λ v h. subst (λ (l : List ℕ). IsDown N v (at l v)) (sym here) (downs-are N net v h) }

pub are-ups : (N : Network) → IsNetwork N → (L : List ℕ) (k : ℕ) → k ≡ length N.edges → L ≡ ups N.edges (length N.nodes) k → AreUps N L
are-ups N net L k all same =
    let here : L ≡ all_ups N = same ∙ ap (ups N.edges (length N.nodes)) all in
    record { all = ap length here ∙ (ups-longest N net (length N.edges) (omega arith)).all; each = λ v h. subst (λ (l : List ℕ). IsUp N v (at l v)) (sym here) (ups-are N net v h) }
