-- What the six conditions say at one tile: at the tile of its source an edge leaves once and doesn't enter,
-- at that of its target it enters once and doesn't leave, and at any other it does both, once, or neither.
use Rattle.std.proofs.Common.{◌≡◌, ℕ, zero, suc, ◌<◌, ◌≤◌, ◌⊎◌, Bool, List, [], ◌∷◌, length, slice_get, Option, Some, None, if◌then◌else◌, inl, inr, refl, ap, arith, eq-eqb}
use Rattle.std.specs.Prelude.{option_and_then}
use Rattle.std.proofs.lemmas.Bool.{cases_eq, ne_eqb}
use Rattle.bx_forms.specs.declared.side.Side.{Side}
use Rattle.bx_forms.specs.declared.side.Side.TheVariants.{Left, Right}
use Rattle.bx_grid.specs.Tiles.{IsTile, entering}
use Rattle.bx_network.specs.declared.node.Edge.{Edge}
use Rattle.bx_network.specs.Networks.{Network, IsNetwork}
use Rattle.bx_network.proofs.Lists.{IsAt, got-at, got-all}
use Rattle.bx_layout.specs.declared.layout.Layout.{Layout}
use Rattle.bx_layout.specs.Layouts.{Stands, edge_on, enters, leaves, one_if_is, ways_in, ways_out, stands_count}
use Rattle.bx_layout.specs.Legal.{IsPlaced, IsBalanced}

-- ---- options

pub option-cases : {X : Type 0} (o : Option X) → (o ≡ None) ⊎ ((x : X) × (o ≡ Some x))
option-cases None = inl refl
option-cases (Some x) = inr (x, refl)

pub one-is : (o : Option ℕ) (n : ℕ) → o ≡ Some n → one_if_is o n ≡ 1
one-is None n e = absurd (cc)
one-is (Some m) n e = let same : m ≡ n = cc in ap (λ (b : Bool). if b then 1 else 0) (eq-eqb m n same)

pub one-not : (o : Option ℕ) (n : ℕ) → (o ≡ Some n → ⊥) → one_if_is o n ≡ 0
one-not None n h = refl
one-not (Some m) n h = ap (λ (b : Bool). if b then 1 else 0) (ne_eqb m n (λ e. h (ap Some e)))

pub one-cases : (o : Option ℕ) (n : ℕ) → ((o ≡ Some n) × (one_if_is o n ≡ 1)) ⊎ ((o ≡ Some n → ⊥) × (one_if_is o n ≡ 0))
one-cases None n = inr ((λ e. cc), refl)
one-cases (Some m) n = elim (cases_eq m n) [
  | inl e ↦ inl (ap Some e, one-is (Some m) n (ap Some e))
  | inr ne ↦ (let other : Some m ≡ Some n → ⊥ = λ e. ne (cc) in inr (other, one-not (Some m) n other))
]

-- ---- how often an edge enters and leaves

pub in-some : (L : Layout) (t e : ℕ) (side : Side) → enters L t side ≡ Some e → 1 ≤ ways_in L t e
in-some L t e Left h = let one = one-is (enters L t Left) e h in omega (arith, one)
in-some L t e Right h = let one = one-is (enters L t Right) e h in omega (arith, one)

pub out-some : (L : Layout) (t e : ℕ) (side : Side) → leaves L t side ≡ Some e → 1 ≤ ways_out L t e
out-some L t e Left h = let one = one-is (leaves L t Left) e h in omega (arith, one)
out-some L t e Right h = let one = one-is (leaves L t Right) e h in omega (arith, one)

pub in-both : (L : Layout) (t e : ℕ) → enters L t Left ≡ Some e → enters L t Right ≡ Some e → ways_in L t e ≡ 2
in-both L t e l r = let a = one-is (enters L t Left) e l in let b = one-is (enters L t Right) e r in omega (arith, a, b)

pub out-both : (L : Layout) (t e : ℕ) → leaves L t Left ≡ Some e → leaves L t Right ≡ Some e → ways_out L t e ≡ 2
out-both L t e l r = let a = one-is (leaves L t Left) e l in let b = one-is (leaves L t Right) e r in omega (arith, a, b)

pub side-in : (L : Layout) (t e : ℕ) → 1 ≤ ways_in L t e → (side : Side) × (enters L t side ≡ Some e)
side-in L t e h = elim (one-cases (enters L t Left) e) [
  | inl (is, one) ↦ (Left, is)
  | inr (out, none) ↦ elim (one-cases (enters L t Right) e) [
    | inl (is, one) ↦ (Right, is)
    | inr (off, nil) ↦ absurd (omega (arith, none, nil))
  ]
]

pub side-out : (L : Layout) (t e : ℕ) → 1 ≤ ways_out L t e → (side : Side) × (leaves L t side ≡ Some e)
side-out L t e h = elim (one-cases (leaves L t Left) e) [
  | inl (is, one) ↦ (Left, is)
  | inr (out, none) ↦ elim (one-cases (leaves L t Right) e) [
    | inl (is, one) ↦ (Right, is)
    | inr (off, nil) ↦ absurd (omega (arith, none, nil))
  ]
]

-- ---- places

pub find-place : (places : List ℕ) (t : ℕ) → ((v : ℕ) × (slice_get places v ≡ Some t)) ⊎ ((v : ℕ) → slice_get places v ≡ Some t → ⊥)
find-place [] t = inr (λ v e. cc)
find-place (p ∷ ps) t = elim (cases_eq p t) [
  | inl e ↦ inl (0, ap Some e)
  | inr ne ↦ elim (find-place ps t) [
    | inl (v, e) ↦ inl (suc v, e)
    | inr none ↦ inr (nowhere ne none)
  ]
]
  where
    nowhere : (p ≡ t → ⊥) → ((v : ℕ) → slice_get ps v ≡ Some t → ⊥) → (v : ℕ) → slice_get (p ∷ ps) v ≡ Some t → ⊥
    nowhere ne none zero e = ne (cc)
    nowhere ne none (suc v) e = none v e

-- ---- a legal layout

-- an edge that enters or leaves a tile is one of the network's
pub entering-is : (N : Network) (L : Layout) → IsPlaced N L → (t e : ℕ) (side : Side) → enters L t side ≡ Some e → e < length N.edges
entering-is N L placed t e side h = on (entering L.ratio t side) h
  where
    on : (o : Option ℕ) → option_and_then (edge_on L) o ≡ Some e → e < length N.edges
    on None q = absurd (cc)
    on (Some b) q = placed.edges b e q

pub leaving-is : (N : Network) (L : Layout) → IsPlaced N L → (t e : ℕ) (side : Side) → leaves L t side ≡ Some e → e < length N.edges
leaving-is N L placed t e side h = placed.edges _ e h

module _ (N : Network) (L : Layout) (network : IsNetwork N) (placed : IsPlaced N L) (balances : IsBalanced N L) where
  -- an edge leads from a node to another further on
  pub edge-forward : (e : ℕ) (edge : Edge) → slice_get N.edges e ≡ Some edge → edge.source < edge.target
  edge-forward e edge is = got-all (λ (d : Edge). d.source < d.target) N.edges e edge network.forward is

  pub edge-within : (e : ℕ) (edge : Edge) → slice_get N.edges e ≡ Some edge → edge.target < length N.nodes
  edge-within e edge is = got-all (λ (d : Edge). d.target < length N.nodes) N.edges e edge network.within is

  -- each node stands somewhere
  pub place-of : (v : ℕ) → v < length N.nodes → IsAt L.places v
  place-of v h = let same = placed.places in got-at L.places v (omega (arith, same))

  held-one : (t v : ℕ) → Stands L v t → stands_count L t v ≡ 1
  held-one t v h = one-is (slice_get L.places v) t h

  held-none : (t v : ℕ) → (Stands L v t → ⊥) → stands_count L t v ≡ 0
  held-none t v h = one-not (slice_get L.places v) t h

  -- at the tile of its source
  pub record AtSource (t e : ℕ) : Type 0 where
    pub none_in : ways_in L t e ≡ 0
    pub one_out : ways_out L t e ≡ 1

  pub at-source : (t e : ℕ) (edge : Edge) → slice_get N.edges e ≡ Some edge → Stands L edge.source t → AtSource t e
  at-source t e edge is stands =
      let forward = edge-forward e edge is in
      let here = held-one t edge.source stands in
      let distinct = placed.apart in
      let away = held-none t edge.target (λ other. let same : edge.source ≡ edge.target = distinct edge.source edge.target t stands other in omega arith) in
      let balance = balances t e edge (placed.inside edge.source t stands) is in
      let once = balance.once in
      let balanced = balance.balanced in
      record { none_in = omega (arith, here); one_out = omega (arith, here, away) }

  -- at the tile of its target
  pub record AtTarget (t e : ℕ) : Type 0 where
    pub one_in : ways_in L t e ≡ 1
    pub none_out : ways_out L t e ≡ 0

  pub at-target : (t e : ℕ) (edge : Edge) → slice_get N.edges e ≡ Some edge → Stands L edge.target t → AtTarget t e
  at-target t e edge is stands =
      let forward = edge-forward e edge is in
      let here = held-one t edge.target stands in
      let distinct = placed.apart in
      let away = held-none t edge.source (λ other. let same : edge.source ≡ edge.target = distinct edge.source edge.target t other stands in omega arith) in
      let balance = balances t e edge (placed.inside edge.target t stands) is in
      let once = balance.once in
      let balanced = balance.balanced in
      record { one_in = omega (arith, here, away); none_out = omega (arith, here, away) }

  -- at a tile that holds neither
  pub at-other : (t e : ℕ) (edge : Edge) → IsTile L.ratio t → slice_get N.edges e ≡ Some edge → (Stands L edge.source t → ⊥) → (Stands L edge.target t → ⊥) →
      (ways_in L t e ≡ ways_out L t e) × (ways_in L t e ≤ 1)
  at-other t e edge inside is no_source no_target =
      let a = held-none t edge.source no_source in
      let b = held-none t edge.target no_target in
      let balance = balances t e edge inside is in
      let once = balance.once in
      let balanced = balance.balanced in
      (omega (arith, a, b), omega (arith, a))

  -- no edge enters a tile twice, and none leaves it twice
  pub in-once : (t e : ℕ) → IsTile L.ratio t → ways_in L t e ≤ 1
  in-once t e inside = elim (option-cases (slice_get N.edges e)) [
    | inl none ↦ absent none
    | inr (edge, is) ↦ (let once = (balances t e edge inside is).once in omega arith)
  ]
    where
      absent : slice_get N.edges e ≡ None → ways_in L t e ≤ 1
      absent none = elim (one-cases (enters L t Left) e) [
        | inl (is, one) ↦ absurd (gone (entering-is N L placed t e Left is))
        | inr (out, nil) ↦ elim (one-cases (enters L t Right) e) [
          | inl (is, one) ↦ absurd (gone (entering-is N L placed t e Right is))
          | inr (off, nought) ↦ omega (arith, nil, nought)
        ]
      ]
        where
          gone : e < length N.edges → ⊥
          gone l = let at = got-at N.edges e l in let is = at.at in cc

  pub in-apart : (t e : ℕ) → IsTile L.ratio t → enters L t Left ≡ Some e → enters L t Right ≡ Some e → ⊥
  in-apart t e inside l r = let two = in-both L t e l r in let once = in-once t e inside in omega (arith, two)

  pub out-apart : (t e : ℕ) → IsTile L.ratio t → leaves L t Left ≡ Some e → leaves L t Right ≡ Some e → ⊥
  out-apart t e inside l r =
      let two = out-both L t e l r in
      let at = got-at N.edges e (leaving-is N L placed t e Left l) in
      let balance = balances t e at.item inside at.at in
      let once = balance.once in
      let balanced = balance.balanced in
      omega (arith, two)
