-- A layout that true bits mean balances each edge on each tile, and leaves a tile with a node to its edges alone.
use Rattle.std.proofs.Common.{◌≡◌, ℕ, ◌+◌, ◌<◌, ◌⊎◌, Bool, List, length, slice_get, Some, inl, inr, sym, ◌∙◌, subst, arith}
use Rattle.std.proofs.lemmas.Bool.{cases_Bool, false≢true}
use Rattle.std.specs.Prelude.{Option}
use Rattle.bx_forms.specs.declared.side.Side.{Side}
use Rattle.bx_forms.specs.declared.side.Side.TheVariants.{Left, Right}
use Rattle.bx_grid.specs.Tiles.{IsTile, border}
use Rattle.bx_layout.specs.declared.layout.Layout.{Layout}
use Rattle.bx_layout.specs.Layouts.{Stands, edge_on, enters, leaves, one_if_is}
use Rattle.bx_layout.specs.Legal.{IsBalancedAt, IsBalanced, NodesAreAlone}
use Rattle.bx_layout.specs.Permits.{PermitTest}
use Rattle.bx_layout.proofs.Balances.{one-is, one-not, one-cases}
use Rattle.bx_network.specs.declared.node.Edge.{Edge}
use Rattle.bx_network.specs.Networks.{Network, IsNetwork}
use Rattle.bx_network.proofs.Lists.{got-within}
use Rattle.bx_network.proofs.Networks.{goes-forward}
use Rattle.bx_encode.specs.declared.variable.Variable.TheVariants.{NodeOn, Taken, EdgeOn}
use Rattle.bx_encode.specs.Variables.{border_count, number}
use Rattle.bx_encode.specs.Families.{source, target, entries, exits}
use Rattle.bx_encode.proofs.Barring.{entering-in}
use Rattle.bx_cnf.specs.Literals.{value_of}
use Rattle.bx_decode.specs.Meaning.{AreTrue, Means}
use Rattle.bx_decode.proofs.Clauses.{IsOn, got-map}
use Rattle.bx_decode.proofs.Families.{takes}
use Rattle.bx_decode.proofs.Rules.{OnSome, comes-from, goes-on, begins, ends, leaves-once, enters-once, no-entry, no-exit, begins-there, ends-there}
use Rattle.bx_decode.proofs.Sides.{exit-of, exit-side, entry-of, entry-side, exit-pair, entry-pair, enters-by, by-enters}
use Rattle.bx_decode.proofs.Placing.{node-set, stands-on, edge-set, placed}

-- ---- by how many of two sides an edge goes

none-by : (f : Side → Option ℕ) (e : ℕ) → ((side : Side) → f side ≡ Some e → ⊥) → one_if_is (f Left) e + one_if_is (f Right) e ≡ 0
none-by f e none = omega (arith, one-not (f Left) e (none Left), one-not (f Right) e (none Right))

one-by : (f : Side → Option ℕ) (e : ℕ) (side : Side) → f side ≡ Some e → (f Left ≡ Some e → f Right ≡ Some e → ⊥) → one_if_is (f Left) e + one_if_is (f Right) e ≡ 1
one-by f e Left is both = omega (arith, one-is (f Left) e is, one-not (f Right) e (λ other. both is other))
one-by f e Right is both = omega (arith, one-is (f Right) e is, one-not (f Left) e (λ other. both other is))

side-or-none : (f : Side → Option ℕ) (e : ℕ) → ((side : Side) × (f side ≡ Some e)) ⊎ ((side : Side) → f side ≡ Some e → ⊥)
side-or-none f e = elim (one-cases (f Left) e) [
  | inl (is, one) ↦ inl (Left, is)
  | inr (off, none) ↦ elim (one-cases (f Right) e) [
    | inl (is, one) ↦ inl (Right, is)
    | inr (out, nil) ↦ inr (neither off out)
  ]
]
  where
    neither : (f Left ≡ Some e → ⊥) → (f Right ≡ Some e → ⊥) → (side : Side) → f side ≡ Some e → ⊥
    neither off out Left = off
    neither off out Right = out

-- ---- one edge on one tile

module _ (N : Network) (permit : PermitTest) (L : Layout) (bits : List Bool) (network : IsNetwork N) (all : AreTrue N permit L.ratio bits) (means : Means N L.ratio bits L)
    (t e : ℕ) (edge : Edge) (tile : IsTile L.ratio t) (is : slice_get N.edges e ≡ Some edge) where
  low : e < length N.edges
  low = got-within N.edges e edge is

  source-is : source N L.ratio e ≡ edge.source
  source-is = got-map (λ (d : Edge). d.source) N.edges e edge is

  target-is : target N L.ratio e ≡ edge.target
  target-is = got-map (λ (d : Edge). d.target) N.edges e edge is

  target-in : edge.target < length N.nodes
  target-in = (goes-forward N network e edge is).within

  forward : edge.source < edge.target
  forward = (goes-forward N network e edge is).forward

  source-in : edge.source < length N.nodes
  source-in = let up = forward in let inside = target-in in omega arith

  -- between bits and the layout
  begins-on : IsOn N L.ratio bits (NodeOn (source N L.ratio e) t) → Stands L edge.source t
  begins-on on = stands-on N permit L bits all means edge.source t source-in tile (subst (λ v. IsOn N L.ratio bits (NodeOn v t)) source-is on)

  ends-on : IsOn N L.ratio bits (NodeOn (target N L.ratio e) t) → Stands L edge.target t
  ends-on on = stands-on N permit L bits all means edge.target t target-in tile (subst (λ v. IsOn N L.ratio bits (NodeOn v t)) target-is on)

  on-begins : Stands L edge.source t → IsOn N L.ratio bits (NodeOn (source N L.ratio e) t)
  on-begins stands = subst (λ v. IsOn N L.ratio bits (NodeOn v t)) (sym source-is) (node-set N permit L bits all means edge.source t stands).1

  on-ends : Stands L edge.target t → IsOn N L.ratio bits (NodeOn (target N L.ratio e) t)
  on-ends stands = subst (λ v. IsOn N L.ratio bits (NodeOn v t)) (sym target-is) (node-set N permit L bits all means edge.target t stands).1

  on-leaves : (side : Side) → leaves L t side ≡ Some e → IsOn N L.ratio bits (EdgeOn e (border t side))
  on-leaves side out = (edge-set N permit L bits all means e (border t side) out).1

  carries-on : (b : ℕ) → b < border_count L.ratio → IsOn N L.ratio bits (EdgeOn e b) → edge_on L b ≡ Some e
  carries-on b inside on = (means.carries e b).1 ((low, inside), on)

  some-out : OnSome N permit L.ratio bits all t e tile low (exits N L.ratio t) → (side : Side) × (leaves L t side ≡ Some e)
  some-out (b, own, on) =
      let (side, same) = exit-side N L.ratio t b own in
      (side, carries-on (border t side) (inside side) (subst (λ c. IsOn N L.ratio bits (EdgeOn e c)) (sym same) on))
    where
      inside : (side : Side) → border t side < border_count L.ratio
      inside Left = omega arith
      inside Right = omega arith

  some-in : OnSome N permit L.ratio bits all t e tile low (entries N L.ratio t) → (side : Side) × (enters L t side ≡ Some e)
  some-in (b, own, on) =
      let (side, same) = entry-side N L.ratio t b own in
      let before = entering-in L.ratio t b side same in
      (side, by-enters L t e b side same (carries-on b (omega arith) on))

  -- ---- what the rules say

  pub leaving : (side : Side) → leaves L t side ≡ Some e → Stands L edge.source t ⊎ ((from : Side) × (enters L t from ≡ Some e))
  leaving side out = elim (comes-from N permit L.ratio bits all t e tile low (border t side) (exit-of N L.ratio t side) (on-leaves side out)) [
    | inl here ↦ inl (begins-on here)
    | inr some ↦ inr (some-in some)
  ]

  pub entering-it : (side : Side) → enters L t side ≡ Some e → Stands L edge.target t ⊎ ((to : Side) × (leaves L t to ≡ Some e))
  entering-it side come =
      let by = enters-by L t e side come in
      elim (goes-on N permit L.ratio bits all t e tile low by.border (entry-of N L.ratio t by.border side by.is) (edge-set N permit L bits all means e by.border by.carries).1) [
        | inl here ↦ inl (ends-on here)
        | inr some ↦ inr (some-out some)
      ]

  pub source-leaves : Stands L edge.source t → (side : Side) × (leaves L t side ≡ Some e)
  source-leaves stands = some-out (begins N permit L.ratio bits all t e tile low (on-begins stands))

  pub target-entered : Stands L edge.target t → (side : Side) × (enters L t side ≡ Some e)
  target-entered stands = some-in (ends N permit L.ratio bits all t e tile low (on-ends stands))

  pub not-twice-out : leaves L t Left ≡ Some e → leaves L t Right ≡ Some e → ⊥
  not-twice-out left right = leaves-once N permit L.ratio bits all t e tile low (border t Left) (border t Right) (exit-pair N L.ratio t e) (on-leaves Left left) (on-leaves Right right)

  pub not-twice-in : enters L t Left ≡ Some e → enters L t Right ≡ Some e → ⊥
  not-twice-in left right =
      let a = enters-by L t e Left left in
      let b = enters-by L t e Right right in
      enters-once N permit L.ratio bits all t e tile low a.border b.border (entry-pair N L.ratio t e a.border b.border a.is b.is)
      (edge-set N permit L bits all means e a.border a.carries).1 (edge-set N permit L bits all means e b.border b.carries).1

  pub source-not-entered : Stands L edge.source t → (side : Side) → enters L t side ≡ Some e → ⊥
  source-not-entered stands side come =
      let by = enters-by L t e side come in
      no-entry N permit L.ratio bits all t e tile low by.border (entry-of N L.ratio t by.border side by.is) (on-begins stands) (edge-set N permit L bits all means e by.border by.carries).1

  pub target-not-left : Stands L edge.target t → (side : Side) → leaves L t side ≡ Some e → ⊥
  target-not-left stands side out = no-exit N permit L.ratio bits all t e tile low (border t side) (exit-of N L.ratio t side) (on-ends stands) (on-leaves side out)

  pub begun-there : (side : Side) → IsOn N L.ratio bits (Taken t) → leaves L t side ≡ Some e → Stands L edge.source t
  begun-there side taken out = begins-on (begins-there N permit L.ratio bits all t e tile low (border t side) (exit-of N L.ratio t side) taken (on-leaves side out))

  pub ended-there : (side : Side) → IsOn N L.ratio bits (Taken t) → enters L t side ≡ Some e → Stands L edge.target t
  ended-there side taken come =
      let by = enters-by L t e side come in
      ends-on (ends-there N permit L.ratio bits all t e tile low by.border (entry-of N L.ratio t by.border side by.is) taken (edge-set N permit L bits all means e by.border by.carries).1)

  -- ---- the balance

  stands-or-not : (v : ℕ) → v < length N.nodes → Stands L v t ⊎ (Stands L v t → ⊥)
  stands-or-not v node = elim (cases_Bool (value_of bits (number N L.ratio (NodeOn v t)))) [
    | inl on ↦ inl (stands-on N permit L bits all means v t node tile on)
    | inr off ↦ inr (λ stands. false≢true (sym off ∙ (node-set N permit L bits all means v t stands).1))
  ]

  at-source : Stands L edge.source t → IsBalancedAt L t e edge
  at-source stands =
      let distinct = (placed N permit L bits all means).apart in
      let up = forward in
      let here = one-is (slice_get L.places edge.source) t stands in
      let away = one-not (slice_get L.places edge.target) t (λ other. let same : edge.source ≡ edge.target = distinct edge.source edge.target t stands other in omega arith) in
      let none = none-by (enters L t) e (source-not-entered stands) in
      let (side, out) = source-leaves stands in
      let one = one-by (leaves L t) e side out not-twice-out in
      record { balanced = omega (arith, here, away, none, one); once = omega (arith, here, none) }

  at-target : Stands L edge.target t → (Stands L edge.source t → ⊥) → IsBalancedAt L t e edge
  at-target stands elsewhere =
      let here = one-is (slice_get L.places edge.target) t stands in
      let away = one-not (slice_get L.places edge.source) t elsewhere in
      let none = none-by (leaves L t) e (target-not-left stands) in
      let (side, come) = target-entered stands in
      let one = one-by (enters L t) e side come not-twice-in in
      record { balanced = omega (arith, here, away, none, one); once = omega (arith, away, one) }

  at-neither : (Stands L edge.source t → ⊥) → (Stands L edge.target t → ⊥) → IsBalancedAt L t e edge
  at-neither no_source no_target =
      let a = one-not (slice_get L.places edge.source) t no_source in
      let b = one-not (slice_get L.places edge.target) t no_target in
      elim (side-or-none (enters L t) e) [
        | inl (side, come) ↦ elim (entering-it side come) [
          | inl here ↦ absurd (no_target here)
          | inr (to, out) ↦
              let one = one-by (enters L t) e side come not-twice-in in
              let other = one-by (leaves L t) e to out not-twice-out in
              record { balanced = omega (arith, a, b, one, other); once = omega (arith, a, one) }
        ]
        | inr none ↦
            let zero = none-by (enters L t) e none in
            let nil = none-by (leaves L t) e (λ side out. elim (leaving side out) [ inl here ↦ no_source here | inr (from, come) ↦ none from come ]) in
            record { balanced = omega (arith, a, b, zero, nil); once = omega (arith, a, zero) }
      ]

  pub balanced-at : IsBalancedAt L t e edge
  balanced-at = elim (stands-or-not edge.source source-in) [
    | inl here ↦ at-source here
    | inr elsewhere ↦ elim (stands-or-not edge.target target-in) [
      | inl here ↦ at-target here elsewhere
      | inr away ↦ at-neither elsewhere away
    ]
  ]

-- ---- all of them

module _ (N : Network) (permit : PermitTest) (L : Layout) (bits : List Bool) (network : IsNetwork N) (all : AreTrue N permit L.ratio bits) (means : Means N L.ratio bits L) where
  pub balanced : IsBalanced N L
  balanced t e edge tile is = balanced-at N permit L bits network all means t e edge tile is

  pub alone : NodesAreAlone N L
  alone v t stands side e edge carries is =
      let ((node, tile), on) = node-set N permit L bits all means v t stands in
      let taken = takes N permit L.ratio bits all v t node tile on in
      let distinct = (placed N permit L bits all means).apart in
      elim carries [
        | inl come ↦ inr (distinct edge.target v t (ended-there N permit L bits network all means t e edge tile is side taken come) stands)
        | inr out ↦ inl (distinct edge.source v t (begun-there N permit L bits network all means t e edge tile is side taken out) stands)
      ]
