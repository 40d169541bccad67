-- Paths by some of a network's edges, those before a place of the list or those from it on, and what one more
-- edge adds to them.
use Rattle.std.proofs.Common.{◌≡◌, ◌≢◌, ℕ, zero, suc, ◌+◌, ◌<◌, ◌≤◌, ◌⊎◌, ◌↔◌, List, length, slice_get, Some, inl, inr, refl, sym, ap, ◌∙◌, subst, arith}
use Rattle.std.proofs.lemmas.Bool.{cases_eq}
use Rattle.bx_network.specs.declared.node.Edge.{Edge}
use Rattle.bx_network.specs.Networks.{Network, IsNetwork}
use Rattle.bx_network.specs.Paths.{HasEdge, IsPath}
use Rattle.bx_network.proofs.Lists.{got-within}
use Rattle.bx_network.proofs.Networks.{goes-forward, sources-rise}
use Rattle.bx_bounds.specs.Ancestors.{IsAncestor, IsAtOrAbove}
use Rattle.bx_bounds.specs.Rows.{Enters, EntersFromAbove}

-- n steps of a relation lead from u to v
abbrev pub IsChain : (ℕ → ℕ → Type 0) → ℕ → ℕ → ℕ → Type 0
IsChain R u v zero = u ≡ v
IsChain R u v (suc n) = (m : ℕ) × IsChain R u m n × R m v

chain-map : (R S : ℕ → ℕ → Type 0) → ((u v : ℕ) → R u v → S u v) → (u v n : ℕ) → IsChain R u v n → IsChain S u v n
chain-map R S f u v zero c = c
chain-map R S f u v (suc n) (m, c, r) = (m, chain-map R S f u m n c, f m v r)

-- a chain with a step before it, and its first step
chain-cons : (R : ℕ → ℕ → Type 0) (u w v n : ℕ) → R u w → IsChain R w v n → IsChain R u v (suc n)
chain-cons R u w v zero r same = (u, refl, subst (R u) same r)
chain-cons R u w v (suc n) r (m, c, last) = (m, chain-cons R u w m n r c, last)

chain-front : (R : ℕ → ℕ → Type 0) (u v n : ℕ) → IsChain R u v (suc n) → (w : ℕ) × R u w × IsChain R w v n
chain-front R u v zero (m, same, r) = (v, subst (λ (x : ℕ). R x v) (sym same) r, refl)
chain-front R u v (suc n) (m, c, r) = let (w, first, rest) = chain-front R u m n c in (w, first, (m, rest, r))

-- edge number i leads from u to v
abbrev pub Joins : List Edge → ℕ → ℕ → ℕ → Type 0
Joins edges i u v = (e : Edge) × (slice_get edges i ≡ Some e) × (e.source ≡ u) × (e.target ≡ v)

-- an edge before place k does, and one from place k on
abbrev pub Before : List Edge → ℕ → ℕ → ℕ → Type 0
Before edges k u v = (i : ℕ) × (i < k) × Joins edges i u v

abbrev pub Onward : List Edge → ℕ → ℕ → ℕ → Type 0
Onward edges k u v = (i : ℕ) × (k ≤ i) × Joins edges i u v

path-chain : (edges : List Edge) (u v n : ℕ) → IsPath edges u v n → IsChain (HasEdge edges) u v n
path-chain edges u v zero p = p
path-chain edges u v (suc n) (m, p, e) = (m, path-chain edges u m n p, e)

chain-path : (edges : List Edge) (u v n : ℕ) → IsChain (HasEdge edges) u v n → IsPath edges u v n
chain-path edges u v zero p = p
chain-path edges u v (suc n) (m, p, e) = (m, chain-path edges u m n p, e)

same-edge : (one other : Edge) → Some one ≡ Some other → one ≡ other
same-edge one other e = cc

-- ---- descendants, from the last edge on

-- t is below u by edges from place k on
abbrev pub IsBelowBy : List Edge → ℕ → ℕ → ℕ → Type 0
IsBelowBy edges k u t = (n : ℕ) × IsChain (Onward edges k) u t (suc n)

pub below-none : (edges : List Edge) (k u t : ℕ) → length edges ≤ k → IsBelowBy edges k u t → ⊥
below-none edges k u t past (n, (m, c, (i, high, (e, is, s, d)))) = let low = got-within edges i e is in omega arith

pub below-all : (edges : List Edge) (u t : ℕ) → IsBelowBy edges 0 u t ↔ IsAncestor edges u t
below-all edges u t = (
  (λ (n, c). (n, chain-path edges u t (suc n) (chain-map (Onward edges 0) (HasEdge edges) (λ u v (i, high, (e, is, s, d)). (i, e, is, s, d)) u t (suc n) c))),
  (λ (n, p). (n, chain-map (HasEdge edges) (Onward edges 0) (λ u v (i, e, is, s, d). (i, omega arith, (e, is, s, d))) u t (suc n) (path-chain edges u t (suc n) p))),
)

module _ (N : Network) (net : IsNetwork N) (k : ℕ) (e : Edge) (is : slice_get N.edges k ≡ Some e) where
  other-place : (i : ℕ) (f : Edge) → slice_get N.edges i ≡ Some f → f ≢ e → i ≢ k
  other-place i f at differ same = differ (same-edge f e (sym at ∙ ap (slice_get N.edges) same ∙ is))

  -- beyond the source of the edge it is not met again
  chain-beyond : (m t n : ℕ) → e.source < m → IsChain (Onward N.edges k) m t n → IsChain (Onward N.edges (k + 1)) m t n × (m ≤ t)
  chain-beyond m t zero beyond same = (same, omega arith)
  chain-beyond m t (suc n) beyond (mid, c, (i, high, (f, at, s, d))) =
      let (rest, low) = chain-beyond m mid n beyond c in
      let forward = (goes-forward N net i f at).forward in
      let other = other-place i f at (λ same. let source = ap (λ (x : Edge). x.source) same in omega arith) in
      ((mid, rest, (i, omega arith, (f, at, s, d))), omega arith)

  below-front : (u t n : ℕ) → (w : ℕ) × Onward N.edges k u w × IsChain (Onward N.edges k) w t n → IsBelowBy N.edges (k + 1) u t ⊎ ((u ≡ e.source) × ((t ≡ e.target) ⊎ IsBelowBy N.edges (k + 1) e.target t))
  below-front u t n (w, (i, high, (f, at, s, d)), rest) =
      let forward = (goes-forward N net i f at).forward in
      let rise = sources-rise N net k i e f is at high in
      let (beyond, low) = chain-beyond w t n (omega arith) rest in
      elim (cases_eq i k) [
        | inr later ↦ inl (n, chain-cons (Onward N.edges (k + 1)) u w t n (i, omega arith, (f, at, s, d)) beyond)
        | inl here ↦ (
            let same = same-edge f e (sym at ∙ ap (slice_get N.edges) here ∙ is) in
            let from : u ≡ e.source = sym s ∙ ap (λ (x : Edge). x.source) same in
            let to : w ≡ e.target = sym d ∙ ap (λ (x : Edge). x.target) same in
            inr (from, ends n (subst (λ (x : ℕ). IsChain (Onward N.edges (k + 1)) x t n) to beyond)))
      ]
    where
      ends : (n : ℕ) → IsChain (Onward N.edges (k + 1)) e.target t n → (t ≡ e.target) ⊎ IsBelowBy N.edges (k + 1) e.target t
      ends zero same = inl (sym same)
      ends (suc n) c = inr (n, c)

  onward : (u v : ℕ) → Onward N.edges (k + 1) u v → Onward N.edges k u v
  onward u v (i, high, joins) = (i, omega arith, joins)

  own-onward : Onward N.edges k e.source e.target
  own-onward = (k, omega arith, (e, is, refl, refl))

  -- one more edge, before the others
  pub below-more : (u t : ℕ) → IsBelowBy N.edges k u t ↔ (IsBelowBy N.edges (k + 1) u t ⊎ ((u ≡ e.source) × ((t ≡ e.target) ⊎ IsBelowBy N.edges (k + 1) e.target t)))
  below-more u t = ((λ (n, c). below-front u t n (chain-front (Onward N.edges k) u t n c)), back)
    where
      back : IsBelowBy N.edges (k + 1) u t ⊎ ((u ≡ e.source) × ((t ≡ e.target) ⊎ IsBelowBy N.edges (k + 1) e.target t)) → IsBelowBy N.edges k u t
      back (inl (n, c)) = (n, chain-map (Onward N.edges (k + 1)) (Onward N.edges k) onward u t (suc n) c)
      back (inr (from, inl to)) = (0, (u, refl, (k, omega arith, (e, is, sym from, sym to))))
      back (inr (from, inr (n, c))) =
          let rest = chain-map (Onward N.edges (k + 1)) (Onward N.edges k) onward e.target t (suc n) c in
          (suc n, chain-cons (Onward N.edges k) u e.target t (suc n) (subst (λ (x : ℕ). Onward N.edges k x e.target) (sym from) own-onward) rest)

  -- ---- nodes above, up to this edge

  source-first : (i : ℕ) (f : Edge) → slice_get N.edges i ≡ Some f → i < k + 1 → f.source < e.target
  source-first i f at low =
      let rise = sources-rise N net i k f e at is (omega arith) in
      let forward = (goes-forward N net k e is).forward in
      omega arith

  -- a chain that doesn't end at the edge's target doesn't go by the edge
  chain-apart : (x m n : ℕ) → m ≢ e.target → IsChain (Before N.edges (k + 1)) x m n → IsChain (Before N.edges k) x m n
  chain-apart x m zero apart same = same
  chain-apart x m (suc n) apart (mid, c, (i, low, (f, at, s, d))) =
      let first = source-first i f at low in
      let other = other-place i f at (λ same. apart (sym d ∙ ap (λ (x : Edge). x.target) same)) in
      (mid, chain-apart x mid n (λ same. omega arith) c, (i, omega arith, (f, at, s, d)))

  earlier : (u v : ℕ) → Before N.edges k u v → Before N.edges (k + 1) u v
  earlier u v (i, low, joins) = (i, omega arith, joins)

  pub above-more : (x u : ℕ) → ((n : ℕ) × IsChain (Before N.edges (k + 1)) x u n) ↔ (((n : ℕ) × IsChain (Before N.edges k) x u n) ⊎ ((u ≡ e.target) × ((n : ℕ) × IsChain (Before N.edges k) x e.source n)))
  above-more x u = ((λ (n, c). last n c), back)
    where
      last : (n : ℕ) → IsChain (Before N.edges (k + 1)) x u n → ((n : ℕ) × IsChain (Before N.edges k) x u n) ⊎ ((u ≡ e.target) × ((n : ℕ) × IsChain (Before N.edges k) x e.source n))
      last zero same = inl (0, same)
      last (suc n) (mid, c, (i, low, (f, at, s, d))) =
          let first = source-first i f at low in
          let rest = chain-apart x mid n (λ same. omega arith) c in
          elim (cases_eq i k) [
            | inr other ↦ inl (suc n, (mid, rest, (i, omega arith, (f, at, s, d))))
            | inl here ↦ (
                let same = same-edge f e (sym at ∙ ap (slice_get N.edges) here ∙ is) in
                let from : mid ≡ e.source = sym s ∙ ap (λ (y : Edge). y.source) same in
                let to : u ≡ e.target = sym d ∙ ap (λ (y : Edge). y.target) same in
                inr (to, (n, subst (λ (y : ℕ). IsChain (Before N.edges k) x y n) from rest)))
          ]

      back : ((n : ℕ) × IsChain (Before N.edges k) x u n) ⊎ ((u ≡ e.target) × ((n : ℕ) × IsChain (Before N.edges k) x e.source n)) → (n : ℕ) × IsChain (Before N.edges (k + 1)) x u n
      back (inl (n, c)) = (n, chain-map (Before N.edges k) (Before N.edges (k + 1)) earlier x u n c)
      back (inr (to, (n, c))) = (suc n, (e.source, chain-map (Before N.edges k) (Before N.edges (k + 1)) earlier x e.source n c, (k, omega arith, (e, is, refl, sym to))))

-- ---- what is entered from above

-- from a node above u by edges before place k
abbrev pub EntersBy : List Edge → ℕ → ℕ → ℕ → ℕ → Type 0
EntersBy edges operand k u t = (x : ℕ) × ((n : ℕ) × IsChain (Before edges k) x u n) × Enters edges operand x t

pub enters-none : (edges : List Edge) (operand u t : ℕ) → Enters edges operand u t ↔ EntersBy edges operand 0 u t
enters-none edges operand u t = ((λ own. (u, (0, refl), own)), (λ (x, (n, c), own). none x n c own))
  where
    none : (x n : ℕ) → IsChain (Before edges 0) x u n → Enters edges operand x t → Enters edges operand u t
    none x zero same own = subst (λ (y : ℕ). Enters edges operand y t) same own
    none x (suc n) (mid, c, (i, low, joins)) own = absurd (omega arith)

pub enters-all : (edges : List Edge) (operand k u t : ℕ) → length edges ≤ k → EntersBy edges operand k u t ↔ EntersFromAbove edges operand u t
enters-all edges operand k u t all = ((λ (x, (n, c), own). (x, above x n c, own)), (λ (x, at, own). (x, chained x at, own)))
  where
    above : (x n : ℕ) → IsChain (Before edges k) x u n → IsAtOrAbove edges x u
    above x zero same = inl same
    above x (suc n) c = inr (n, chain-path edges x u (suc n) (chain-map (Before edges k) (HasEdge edges) (λ u v (i, low, (e, is, s, d)). (i, e, is, s, d)) x u (suc n) c))

    chained : (x : ℕ) → IsAtOrAbove edges x u → (n : ℕ) × IsChain (Before edges k) x u n
    chained x (inl same) = (0, same)
    chained x (inr (n, p)) = (suc n, chain-map (HasEdge edges) (Before edges k) (λ u v (i, e, is, s, d). (i, let low = got-within edges i e is in omega arith, (e, is, s, d))) x u (suc n) (path-chain edges x u (suc n) p))

pub enters-more : (N : Network) → IsNetwork N → (operand k : ℕ) (e : Edge) → slice_get N.edges k ≡ Some e → (u t : ℕ) →
    EntersBy N.edges operand (k + 1) u t ↔ (EntersBy N.edges operand k u t ⊎ ((u ≡ e.target) × EntersBy N.edges operand k e.source t))
enters-more N net operand k e is u t = ((λ (x, c, own). there x own ((above-more N net k e is x u).0 c)), back)
  where
    there : (x : ℕ) → Enters N.edges operand x t → ((n : ℕ) × IsChain (Before N.edges k) x u n) ⊎ ((u ≡ e.target) × ((n : ℕ) × IsChain (Before N.edges k) x e.source n)) → EntersBy N.edges operand k u t ⊎ ((u ≡ e.target) × EntersBy N.edges operand k e.source t)
    there x own (inl c) = inl (x, c, own)
    there x own (inr (to, c)) = inr (to, (x, c, own))

    back : EntersBy N.edges operand k u t ⊎ ((u ≡ e.target) × EntersBy N.edges operand k e.source t) → EntersBy N.edges operand (k + 1) u t
    back (inl (x, c, own)) = (x, (above-more N net k e is x u).1 (inl c), own)
    back (inr (to, (x, c, own))) = (x, (above-more N net k e is x u).1 (inr (to, c)), own)

-- ---- what is entered

-- by an edge before place k
abbrev pub EntersEarly : List Edge → ℕ → ℕ → ℕ → ℕ → Type 0
EntersEarly edges operand k u t = (i : ℕ) × (i < k) × ((edge : Edge) × (slice_get edges i ≡ Some edge) × (edge.source ≡ u) × (edge.target ≡ t) × (edge.operand ≡ operand))

pub early-none : (edges : List Edge) (operand u t : ℕ) → EntersEarly edges operand 0 u t → ⊥
early-none edges operand u t (i, low, own) = omega arith

pub early-all : (edges : List Edge) (operand k u t : ℕ) → length edges ≤ k → EntersEarly edges operand k u t ↔ Enters edges operand u t
early-all edges operand k u t all = ((λ (i, low, (e, is, s, d, o)). (i, e, is, s, d, o)), (λ (i, e, is, s, d, o). (i, let low = got-within edges i e is in omega arith, (e, is, s, d, o))))

pub early-more : (edges : List Edge) (operand k : ℕ) (e : Edge) → slice_get edges k ≡ Some e → e.operand ≡ operand → (u t : ℕ) →
    EntersEarly edges operand (k + 1) u t ↔ (EntersEarly edges operand k u t ⊎ ((u ≡ e.source) × (t ≡ e.target)))
early-more edges operand k e is by u t = (there, back)
  where
    there : EntersEarly edges operand (k + 1) u t → EntersEarly edges operand k u t ⊎ ((u ≡ e.source) × (t ≡ e.target))
    there (i, low, (f, at, s, d, o)) = elim (cases_eq i k) [
      | inr other ↦ inl (i, omega arith, (f, at, s, d, o))
      | inl here ↦ (
          let same = same-edge f e (sym at ∙ ap (slice_get edges) here ∙ is) in
          inr (sym s ∙ ap (λ (y : Edge). y.source) same, sym d ∙ ap (λ (y : Edge). y.target) same))
    ]

    back : EntersEarly edges operand k u t ⊎ ((u ≡ e.source) × (t ≡ e.target)) → EntersEarly edges operand (k + 1) u t
    back (inl (i, low, own)) = (i, omega arith, own)
    back (inr (from, to)) = (k, omega arith, (e, is, sym from, sym to, by))

pub early-stay : (edges : List Edge) (operand k : ℕ) (e : Edge) → slice_get edges k ≡ Some e → e.operand ≢ operand → (u t : ℕ) →
    EntersEarly edges operand (k + 1) u t ↔ EntersEarly edges operand k u t
early-stay edges operand k e is differ u t = (there, λ (i, low, own). (i, omega arith, own))
  where
    there : EntersEarly edges operand (k + 1) u t → EntersEarly edges operand k u t
    there (i, low, (f, at, s, d, o)) = elim (cases_eq i k) [
      | inr other ↦ (i, omega arith, (f, at, s, d, o))
      | inl here ↦ absurd (differ (sym (ap (λ (y : Edge). y.operand) (same-edge f e (sym at ∙ ap (slice_get edges) here ∙ is))) ∙ o))
    ]
