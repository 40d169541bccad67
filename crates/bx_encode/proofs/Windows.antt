-- The lengths that are computed are those of the longest paths, so the test of a window is exact.
use Rattle.std.proofs.Common.{◌≡◌, ℕ, zero, suc, ◌+◌, ◌<◌, ◌≤◌, ◌==◌, ◌&&◌, max, List, [], ◌∷◌, length, map, filter, slice_get, Some, inl, inr, refl, sym, ap, ◌∙◌, subst, arith}
use Rattle.std.specs.Prelude.{◌⊎◌, ◌↔◌, IsTrue, nat_le}
use Rattle.std.proofs.Math.Nat.{le-max_left, le-max_right}
use Rattle.std.proofs.lemmas.Bool.{eq-eqb, eqb-true, cases_lt}
use Rattle.std.proofs.lemmas.Bool.Decides.{nat_tests}
use Rattle.bx_logic.proofs.Members.{Member, Contains-from_member, Member-from_get_or, Member-filter, Member-filter_cases, Member-map, Member-map_cases}
use Rattle.bx_forms.specs.declared.kind.Kind.{Kind}
use Rattle.bx_forms.specs.declared.kind.Kind.TheVariants.{Input, Output, Not, Fan, And, Or, Nand, Nor, Xor, Xnor}
use Rattle.bx_network.specs.declared.node.Edge.{Edge}
use Rattle.bx_network.specs.Networks.{Network, IsNetwork, HasKind}
use Rattle.bx_network.specs.Paths.{HasEdge, IsPath, IsDown, IsUp}
use Rattle.bx_network.specs.Windows.{MayStand, IsInWindow}
use Rattle.bx_network.proofs.Lists.{got-within, got-get_or, got-slice_get}
use Rattle.bx_network.proofs.Networks.{kind-at, goes-forward}
use Rattle.bx_network.proofs.Downs.{path-cons, path-rises, downs-are, ups-are, all_downs, all_ups}
use Rattle.bx_network.proofs.Longest.{at}
use Rattle.bx_network.proofs.Window.{window-is}
use Rattle.bx_encode.specs.Windows.{greatest, longest, down_of, up_of, fits_row, node_fits_row, in_window}

greatest-over : (n : ℕ) (ns : List ℕ) → Member n ns → n ≤ greatest ns
greatest-over n [] h = absurd h
greatest-over n (m ∷ ns) (inl e) = omega (arith, le-max_left m (greatest ns))
greatest-over n (m ∷ ns) (inr h) = omega (arith, le-max_right m (greatest ns), greatest-over n ns h)

greatest-one : (ns : List ℕ) → (greatest ns ≡ 0) ⊎ Member (greatest ns) ns
greatest-one [] = inl refl
greatest-one (n ∷ ns) = elim (cases_lt (greatest ns) n) [
  | inl more ↦ let e : n ≡ max n (greatest ns) = omega arith in inr (inl e)
  | inr less ↦ let e : max n (greatest ns) ≡ greatest ns = omega arith in elim (greatest-one ns) [
    | inl none ↦ inl (e ∙ none)
    | inr one ↦ inr (inr (subst (λ m. Member m ns) (sym e) one))
  ]
]

-- an edge of the list, as one of its members
edge-member : (edges : List Edge) (i : ℕ) (e : Edge) → slice_get edges i ≡ Some e → Member e edges
edge-member edges i e is = Member-from_get_or e edges i (got-within edges i e is) (got-get_or edges i e e is)

member-edge : (edges : List Edge) (e : Edge) → Member e edges → HasEdge edges e.source e.target
member-edge edges e h =
    let (k, low, at_k) = Contains-from_member e edges h in
    (k, e, got-slice_get edges k e low ∙ ap Some at_k, refl, refl)

-- ---- ways of edges that lead on from their near ends to their far ones

module _ (near far : Edge → ℕ) (edges : List Edge) where
  abbrev Way : ℕ → ℕ → ℕ → Type 0
  Way v w zero = v ≡ w
  Way v w (suc n) = (e : Edge) × Member e edges × (near e ≡ v) × Way (far e) w n

  longest-over : (n v w k : ℕ) → k ≤ n → Way v w k → k ≤ longest near far edges n v
  longest-over n v w zero le way = omega arith
  longest-over zero v w (suc k) le way = absurd (omega arith)
  longest-over (suc n) v w (suc k) le (e, own, at, rest) =
      let behind = longest-over n (far e) w k (omega arith) rest in
      let kept = Member-map (λ (d : Edge). longest near far edges n (far d) + 1) e _ (Member-filter (λ (d : Edge). near d == v) e edges (eq-eqb (near e) v at) own) in
      omega (arith, greatest-over _ _ kept)

  longest-way : (n v : ℕ) → (w : ℕ) × Way v w (longest near far edges n v)
  longest-way zero v = (v, refl)
  longest-way (suc n) v = elim (greatest-one (map (λ (d : Edge). longest near far edges n (far d) + 1) (filter (λ (d : Edge). near d == v) edges))) [
    | inl none ↦ (v, subst (Way v v) (sym none) refl)
    | inr one ↦
        let (e, kept, is) = Member-map_cases (λ (d : Edge). longest near far edges n (far d) + 1) _ (filter (λ (d : Edge). near d == v) edges) one in
        let (own, at) = Member-filter_cases (λ (d : Edge). near d == v) e edges kept in
        let (w, rest) = longest-way n (far e) in
        let next : suc (longest near far edges n (far e)) ≡ longest near far edges n (far e) + 1 = omega arith in
        (w, subst (Way v w) (next ∙ is) (e, own, eqb-true (near e) v at, rest))
  ]

-- a path is a way back from its end, and a way on from its beginning
abbrev Back : List Edge → ℕ → ℕ → ℕ → Type 0
Back = Way (λ e. e.target) (λ e. e.source)

abbrev On : List Edge → ℕ → ℕ → ℕ → Type 0
On = Way (λ e. e.source) (λ e. e.target)

back : (edges : List Edge) (u v k : ℕ) → IsPath edges u v k → Back edges v u k
back edges u v zero same = sym same
back edges u v (suc k) (middle, path, (i, e, is, from, to)) =
    (e, edge-member edges i e is, to, subst (λ w. Back edges w u k) (sym from) (back edges u middle k path))

from-back : (edges : List Edge) (u v k : ℕ) → Back edges v u k → IsPath edges u v k
from-back edges u v zero same = sym same
from-back edges u v (suc k) (e, own, at, rest) =
    (e.source, from-back edges u e.source k rest, subst (HasEdge edges e.source) at (member-edge edges e own))

on-more : (edges : List Edge) (u w v k : ℕ) → On edges u w k → HasEdge edges w v → On edges u v (suc k)
on-more edges u w v zero same (i, e, is, from, to) = (e, edge-member edges i e is, from ∙ sym same, to)
on-more edges u w v (suc k) (e, own, at, rest) last = (e, own, at, on-more edges e.target w v k rest last)

on : (edges : List Edge) (u v k : ℕ) → IsPath edges u v k → On edges u v k
on edges u v zero same = same
on edges u v (suc k) (middle, path, last) = on-more edges u middle v k (on edges u middle k path) last

from-on : (edges : List Edge) (u v k : ℕ) → On edges u v k → IsPath edges u v k
from-on edges u v zero same = same
from-on edges u v (suc k) (e, own, at, rest) =
    path-cons edges u e.target v k (subst (λ w. HasEdge edges w e.target) at (member-edge edges e own)) (from-on edges e.target v k rest)

-- ---- the lengths of the longest paths

path-append : (edges : List Edge) (u v w m n : ℕ) → IsPath edges u v m → IsPath edges v w n → IsPath edges u w (m + n)
path-append edges u v w m zero a b = let e : m ≡ m + 0 = omega arith in subst (IsPath edges u w) e (subst (λ z. IsPath edges u z m) b a)
path-append edges u v w m (suc n) a (middle, b, last) =
    let e : suc (m + n) ≡ m + suc n = omega arith in
    subst (IsPath edges u w) e (middle, path-append edges u v middle m n a b, last)

-- a path goes up in the numbers of nodes
path-up : (N : Network) → IsNetwork N → (u v n : ℕ) → IsPath N.edges u v n → u + n ≤ v
path-up N net u v n path = path-rises N.edges (λ w. w) (λ i e is. let forward = (goes-forward N net i e is).forward in omega arith) u v n path

pub down-is : (N : Network) → IsNetwork N → (v : ℕ) → v < length N.nodes → IsDown N v (down_of N v)
down-is N net v low =
    let down = downs-are N net v low in
    let d = at (all_downs N) v in
    let own = path-up N net down.input v d down.path in
    let over = longest-over (λ e. e.target) (λ e. e.source) N.edges (length N.nodes) v down.input d (omega arith) (back N.edges down.input v d down.path) in
    let (from, way) = longest-way (λ e. e.target) (λ e. e.source) N.edges (length N.nodes) v in
    let path = from-back N.edges from v (down_of N v) way in
    let rises = path-up N net from v (down_of N v) path in
    let before = downs-are N net from (omega arith) in
    let whole = down.longest before.input (at (all_downs N) from + down_of N v) before.starts (path-append N.edges before.input from v (at (all_downs N) from) (down_of N v) before.path path) in
    let same : d ≡ down_of N v = omega arith in
    subst (IsDown N v) same down

-- a path ends at a node, if it begins at one
path-within : (N : Network) → IsNetwork N → (u v n : ℕ) → u < length N.nodes → IsPath N.edges u v n → v < length N.nodes
path-within N net u v zero low same = omega (arith, same)
path-within N net u v (suc n) low (middle, path, (i, e, is, from, to)) = let within = (goes-forward N net i e is).within in omega (arith, to)

pub up-is : (N : Network) → IsNetwork N → (v : ℕ) → v < length N.nodes → IsUp N v (up_of N v)
up-is N net v low =
    let up = ups-are N net v low in
    let d = at (all_ups N) v in
    let own = path-up N net v up.output d up.path in
    let (node, is_node, _) = up.ends in
    let inside = got-within N.nodes up.output node is_node in
    let over = longest-over (λ e. e.source) (λ e. e.target) N.edges (length N.nodes) v up.output d (omega arith) (on N.edges v up.output d up.path) in
    let (to, way) = longest-way (λ e. e.source) (λ e. e.target) N.edges (length N.nodes) v in
    let path = from-on N.edges v to (up_of N v) way in
    let behind = ups-are N net to (path-within N net v to (up_of N v) low path) in
    let whole = up.longest behind.output (up_of N v + at (all_ups N) to) behind.ends (path-append N.edges v to behind.output (up_of N v) (at (all_ups N) to) path behind.path) in
    let same : d ≡ up_of N v = omega arith in
    subst (IsUp N v) same up

-- ---- the test

between : (down up row height : ℕ) → IsTrue (nat_le down row && nat_le (row + up + 1) height) ↔ ((down ≤ row) × (row + up + 1 ≤ height))
between down up row height = (λ h. (grind (arith, nat_tests), grind (arith, nat_tests)), λ (a, b). grind (arith, nat_tests))

fits : (kind : Kind) (down up row height : ℕ) → IsTrue (fits_row kind down up row height) ↔ MayStand kind down up row height
fits Input down up row height = (eqb-true row 0, eq-eqb row 0)
fits Output down up row height = (eqb-true (row + 1) height, eq-eqb (row + 1) height)
fits Not down up row height = between down up row height
fits Fan down up row height = between down up row height
fits And down up row height = between down up row height
fits Or down up row height = between down up row height
fits Nand down up row height = between down up row height
fits Nor down up row height = between down up row height
fits Xor down up row height = between down up row height
fits Xnor down up row height = between down up row height

-- the test of a node of this kind
pub window-of : (N : Network) (v row height : ℕ) (kind : Kind) → HasKind N v kind → in_window N v row height ≡ fits_row kind (down_of N v) (up_of N v) row height
unfolding in_window
window-of N v row height kind (node, is, same) =
    ap (λ o. node_fits_row o (down_of N v) (up_of N v) row height) is ∙ ap (λ k. fits_row k (down_of N v) (up_of N v) row height) same

pub window-exact : (N : Network) → IsNetwork N → (v row height : ℕ) → v < length N.nodes → IsTrue (in_window N v row height) ↔ IsInWindow N v row height
window-exact N net v row height low =
    let (kind, has) = kind-at N v low in
    let says = subst (λ b. IsTrue b ↔ MayStand kind (down_of N v) (up_of N v) row height) (sym (window-of N v row height kind has)) (fits kind (down_of N v) (up_of N v) row height) in
    window-is N v kind (down_of N v) (up_of N v) row height (in_window N v row height) has (down-is N net v low) (up-is N net v low) says
