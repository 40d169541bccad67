-- The edges written one after the other, each at the place of its slot or its operand: no two have one.
use Rattle.std.proofs.Common.{◌≡◌, ℕ, ◌+◌, ◌*◌, ◌<◌, true, List, length, get_or, set, Some, inl, inr, sym, ap, ◌∙◌, subst, arith, get_or-set_same, get_or-set_other, length-set}
use Rattle.std.specs.List.{slice_get}
use Rattle.std.proofs.lemmas.Bool.{cases_lt, cases_eq}
use Rattle.std.proofs.lemmas.Grind.{get_or_default_zero}
use Rattle.bx_forms.specs.declared.kind.Kind.{Kind}
use Rattle.bx_forms.specs.Kinds.{operands, slots}
use Rattle.bx_network.specs.declared.node.Edge.{Edge}
use Rattle.bx_network.specs.Networks.{Network, IsNetwork, HasKind, leaves_by, enters_by}
use Rattle.bx_network.specs.Values.{edge_into, edge_out}
use Rattle.bx_network.specs.Mapped.{AreEnds, IsMapped}
use Rattle.bx_logic.proofs.Lists.{get-once}
use Rattle.bx_network.proofs.Lists.{got-within, got-slice_get}
use Rattle.bx_network.proofs.Downs.{no_edge, edge_at}
use Rattle.bx_network.proofs.Networks.{operands-few, slots-few, kind-within, edge-leaves, edge-enters, leaves-itself, enters-itself, leaves-says, enters-says, goes-forward, has-slot, has-operand}

abbrev pub out_place : Edge → ℕ
out_place e = 2 * e.source + e.slot

abbrev pub in_place : Edge → ℕ
in_place e = 2 * e.target + e.operand

-- each of the first k edges has its number at its place
pub record AreSet (place : Edge → ℕ) (edges : List Edge) (n k : ℕ) (numbers : List ℕ) : Type 0 where
  pub all : length numbers ≡ n
  pub each : (i : ℕ) (e : Edge) → i < k → slice_get edges i ≡ Some e → get_or numbers (place e) 0 ≡ i

-- one more edge, where no other has its place
pub one-set : (place : Edge → ℕ) (edges : List Edge) (n k : ℕ) (numbers : List ℕ) (e : Edge) → slice_get edges k ≡ Some e → place e < n → ((i : ℕ) (f : Edge) → slice_get edges i ≡ Some f → place f ≡ place e → i ≡ k) → AreSet place edges n k numbers → AreSet place edges n (k + 1) (set numbers (place e) k)
one-set place edges n k numbers e is_at low apart before = record {
  all = length-set numbers (place e) k ∙ before.all;
  each = each;
}
  where
    inside : place e < length numbers
    inside = let a = before.all in omega arith

    each : (i : ℕ) (f : Edge) → i < k + 1 → slice_get edges i ≡ Some f → get_or (set numbers (place e) k) (place f) 0 ≡ i
    each i f h at_f =
        elim (cases_eq (place f) (place e)) [
          | inl same ↦ ap (λ (p : ℕ). get_or (set numbers (place e) k) p 0) same ∙ get_or-set_same numbers (place e) k 0 inside ∙ sym (apart i f at_f same)
          | inr other ↦
              get_or-set_other numbers (place e) (place f) k 0 other
              ∙ before.each i f (elim (cases_lt i k) [
                | inl low ↦ low
                | inr past ↦ let here : i ≡ k = omega arith in let one = get-once edges k f e (sym (ap (slice_get edges) here) ∙ at_f) is_at in absurd (other (ap place one))
              ]) at_f
        ]

-- the place of an edge is that of no other
pub record IsPlaced (place : Edge → ℕ) (N : Network) (k : ℕ) (e : Edge) : Type 0 where
  pub low : place e < 2 * length N.nodes
  pub apart : (i : ℕ) (f : Edge) → slice_get N.edges i ≡ Some f → place f ≡ place e → i ≡ k

ways : (a b s t : ℕ) → s < 2 → t < 2 → 2 * a + s ≡ 2 * b + t → (a ≡ b) × (s ≡ t)
ways a b s t low high e = (omega arith, omega arith)

-- an end of the edges: the node there, and the slot or the operand by which no other edge ends at it
record IsEnd (N : Network) (node way : Edge → ℕ) : Type 0 where
  within : (k : ℕ) (e : Edge) → slice_get N.edges k ≡ Some e → node e < length N.nodes
  few : (k : ℕ) (e : Edge) → slice_get N.edges k ≡ Some e → way e < 2
  once : (i k : ℕ) (f e : Edge) → slice_get N.edges i ≡ Some f → slice_get N.edges k ≡ Some e → node f ≡ node e → way f ≡ way e → i ≡ k

end-placed : (N : Network) (node way : Edge → ℕ) → IsEnd N node way → (k : ℕ) (e : Edge) → slice_get N.edges k ≡ Some e → IsPlaced (λ e. 2 * node e + way e) N k e
end-placed N node way ends k e at = record {
  low = let a = ends.within k e at in let b = ends.few k e at in omega arith;
  apart = λ i f at_f same.
      let both = ways (node f) (node e) (way f) (way e) (ends.few i f at_f) (ends.few k e at) same in
      ends.once i k f e at_f at both.0 both.1;
}

pub out-placed : (N : Network) → IsNetwork N → (k : ℕ) (e : Edge) → slice_get N.edges k ≡ Some e → IsPlaced out_place N k e
out-placed N net = end-placed N (λ e. e.source) (λ e. e.slot) (record {
  within = λ k e at. let forward = goes-forward N net k e at in let a = forward.forward in let b = forward.within in omega arith;
  few = λ k e at. let (kind, has, low) = has-slot N net k e at in let few = slots-few kind in omega arith;
  once = λ i k f e at_f at node way.
      let (kind, has, low) = has-slot N net k e at in
      let only = edge-leaves N net e.source kind has e.slot low in
      only.only i f at_f (subst (λ (v : ℕ). leaves_by v e.slot f ≡ true) node (subst (λ (s : ℕ). leaves_by f.source s f ≡ true) way (leaves-itself f)))
      ∙ sym (only.only k e at (leaves-itself e));
})

pub in-placed : (N : Network) → IsNetwork N → (k : ℕ) (e : Edge) → slice_get N.edges k ≡ Some e → IsPlaced in_place N k e
in-placed N net = end-placed N (λ e. e.target) (λ e. e.operand) (record {
  within = λ k e at. (goes-forward N net k e at).within;
  few = λ k e at. let (kind, has, low) = has-operand N net k e at in let few = operands-few kind in omega arith;
  once = λ i k f e at_f at node way.
      let (kind, has, low) = has-operand N net k e at in
      let only = edge-enters N net e.target kind has e.operand low in
      only.only i f at_f (subst (λ (v : ℕ). enters_by v e.operand f ≡ true) node (subst (λ (s : ℕ). enters_by f.target s f ≡ true) way (enters-itself f)))
      ∙ sym (only.only k e at (enters-itself e));
})

pub ends-are : (N : Network) (outs ins : List ℕ) → IsNetwork N → AreSet out_place N.edges (2 * length N.nodes) (length N.edges) outs → AreSet in_place N.edges (2 * length N.nodes) (length N.edges) ins → AreEnds N outs ins
ends-are N outs ins net set_outs set_ins = record {
  all_outs = set_outs.all;
  all_ins = set_ins.all;
  out = λ v kind has slot low.
      let only = edge-leaves N net v kind has slot low in
      let says = leaves-says v slot only.item only.passes in
      let same : 2 * v + slot ≡ out_place only.item = let a = says.0 in let b = says.1 in omega arith in
      ap (λ (p : ℕ). get_or outs p 0) same ∙ set_outs.each (edge_out N.edges v slot) only.item (got-within N.edges (edge_out N.edges v slot) only.item only.at) only.at;
  into = λ v kind has operand low.
      let only = edge-enters N net v kind has operand low in
      let says = enters-says v operand only.item only.passes in
      let same : 2 * v + operand ≡ in_place only.item = let a = says.0 in let b = says.1 in omega arith in
      ap (λ (p : ℕ). get_or ins p 0) same ∙ set_ins.each (edge_into N.edges v operand) only.item (got-within N.edges (edge_into N.edges v operand) only.item only.at) only.at;
}

-- what is read at the place of a slot, and of an operand
pub out-read : (N M : Network) (downs ups outs ins : List ℕ) → N ≡ M → IsMapped N downs ups outs ins → (v slot : ℕ) → (kind : Kind) × HasKind M v kind × (slot < slots kind) →
    (place result : ℕ) → place ≡ 2 * v + slot → result ≡ get_or outs place result → result ≡ edge_out M.edges v slot
out-read N M downs ups outs ins view mapped v slot (kind, has, low) place result same is =
    let ends = (subst (λ (O : Network). IsMapped O downs ups outs ins) view mapped).are_ends in
    let inside = kind-within M v kind has in
    let few = slots-few kind in
    is ∙ get_or_default_zero outs place result (omega (arith, ends.all_outs)) ∙ ap (λ (p : ℕ). get_or outs p 0) same ∙ ends.out v kind has slot low

pub in-read : (N M : Network) (downs ups outs ins : List ℕ) → N ≡ M → IsMapped N downs ups outs ins → (v operand : ℕ) → (kind : Kind) × HasKind M v kind × (operand < operands kind) →
    (place result : ℕ) → place ≡ 2 * v + operand → result ≡ get_or ins place result → result ≡ edge_into M.edges v operand
in-read N M downs ups outs ins view mapped v operand (kind, has, low) place result same is =
    let ends = (subst (λ (O : Network). IsMapped O downs ups outs ins) view mapped).are_ends in
    let inside = kind-within M v kind has in
    let few = operands-few kind in
    is ∙ get_or_default_zero ins place result (omega (arith, ends.all_ins)) ∙ ap (λ (p : ℕ). get_or ins p 0) same ∙ ends.into v kind has operand low

-- what is known of the places of a network's edges
abbrev pub ArePlaced : (Edge → ℕ) → Network → Type 0
ArePlaced place N = (k : ℕ) (e : Edge) → slice_get N.edges k ≡ Some e → IsPlaced place N k e

-- the edge that is written next
pub set-next : (at : Edge → ℕ) (N : Network) → ArePlaced at N → (k : ℕ) (numbers : List ℕ) → k < length N.edges → (place : ℕ) → place ≡ at (edge_at N.edges k) →
    AreSet at N.edges (2 * length N.nodes) k numbers → AreSet at N.edges (2 * length N.nodes) (k + 1) (set numbers place k)
set-next at N are k numbers h place same before =
    let is_at = got-slice_get N.edges k no_edge h in
    let placed = are k (edge_at N.edges k) is_at in
    subst (λ (p : ℕ). AreSet at N.edges (2 * length N.nodes) (k + 1) (set numbers p k)) (sym same)
    (one-set at N.edges (2 * length N.nodes) k numbers (edge_at N.edges k) is_at placed.low placed.apart before)

pub place-low : (at : Edge → ℕ) (N : Network) → ArePlaced at N → IsNetwork N → (k : ℕ) → k < length N.edges → (place : ℕ) → place ≡ at (edge_at N.edges k) → (place < 2 * length N.nodes) × (place < 8589934592)
place-low at N are net k h place same =
    let low = (are k (edge_at N.edges k) (got-slice_get N.edges k no_edge h)).low in
    let few = net.few_nodes in
    (omega arith, omega arith)
