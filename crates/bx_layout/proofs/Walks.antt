-- An edge of a legal layout goes a way of borders from the tile of its source down to that of its target, and
-- every border that carries it is on that way.
use Rattle.std.proofs.Common.{◌≡◌, ◌≢◌, ℕ, zero, suc, ◌+◌, ◌*◌, ◌<◌, ◌≤◌, length, get_or, slice_get, Option, Some, None, inl, inr, refl, sym, ap, ◌∙◌, subst, arith}
use Rattle.std.specs.Prelude.{option_and_then, option_map}
use Rattle.std.proofs.lemmas.Bool.{cases_lt, cases_eq}
use Rattle.std.proofs.lemmas.List.{get_or_past}
use Rattle.std.proofs.lemmas.Option.{get_or_from_slice_get}
use Rattle.bx_forms.specs.declared.kind.Kind.{Kind}
use Rattle.bx_forms.specs.declared.kind.Kind.TheVariants.{Input, Output, Not, Fan, And, Or, Nand, Nor, Xor, Xnor}
use Rattle.bx_forms.specs.declared.side.Side.{Side}
use Rattle.bx_forms.specs.declared.side.Side.TheVariants.{Left, Right}
use Rattle.bx_forms.specs.Sides.{opposite}
use Rattle.bx_grid.specs.Tiles.{tile_count, IsTile, IsInLastRow, y_of, above, below, border}
use Rattle.bx_grid.proofs.Neighbours.{above-less, above-below, below-inside, below-next_row, border-side, border-some}
use Rattle.bx_network.specs.declared.node.Edge.{Edge}
use Rattle.bx_network.specs.Networks.{Network, IsNetwork, HasKind}
use Rattle.bx_network.specs.Paths.{IsPath, IsDown, IsUp}
use Rattle.bx_network.specs.Windows.{MayStand}
use Rattle.bx_network.proofs.Lists.{got-at, got-within}
use Rattle.bx_layout.specs.declared.layout.Layout.{Layout}
use Rattle.bx_layout.specs.Layouts.{Stands, edge_on, enters, leaves}
use Rattle.bx_layout.specs.Permits.{PermitTest}
use Rattle.bx_layout.specs.Legal.{IsPlaced, StandsAtItsEnd, StaysOnGrid, IsBalanced, IsLegal}
use Rattle.bx_layout.specs.Ways.{IsWay, IsOnWay}
use Rattle.bx_layout.proofs.Balances.{option-cases, out-some, side-in, leaving-is, edge-forward, edge-within, place-of, at-target, at-other, out-apart}

-- what enters a tile leaves the tile above
record Comes (L : Layout) (t e : ℕ) : Type 0 where
  from : ℕ
  side : Side
  less : from < t
  under : below L.ratio from side ≡ Some t
  out : leaves L from side ≡ Some e

comes-from : (L : Layout) (t e : ℕ) (side : Side) → IsTile L.ratio t → enters L t side ≡ Some e → Comes L t e
comes-from L t e side inside come = at (above L.ratio t side) refl come
  where
    at : (o : Option ℕ) → above L.ratio t side ≡ o → option_and_then (edge_on L) (option_map (λ u. border u (opposite side)) o) ≡ Some e → Comes L t e
    at None q h = absurd (cc)
    at (Some u) q h = record { from = u; side = opposite side; less = above-less L.ratio t u side q; under = above-below L.ratio t u side inside q; out = h }

-- ---- ways in general

pub way-rows : (L : Layout) (e n t u : ℕ) → IsWay L e t u n → y_of L.ratio u ≡ y_of L.ratio t + n
way-rows L e zero t u way = let same : y_of L.ratio t ≡ y_of L.ratio u = ap (y_of L.ratio) way in omega arith
way-rows L e (suc n) t u (side, next, out, under, rest) =
    let here = below-next_row L.ratio t next side under in
    let there = way-rows L e n next u rest in
    omega arith

way-more : (L : Layout) (e n t u next : ℕ) (side : Side) → IsWay L e t u n → leaves L u side ≡ Some e → below L.ratio u side ≡ Some next → IsWay L e t next (suc n)
way-more L e zero t u next side way out under =
    (side, next, subst (λ (v : ℕ). leaves L v side ≡ Some e) (sym way) out, subst (λ (v : ℕ). below L.ratio v side ≡ Some next) (sym way) under, refl)
way-more L e (suc n) t u next side (first, middle, leave, down, rest) out under = (first, middle, leave, down, way-more L e n middle u next side rest out under)

module _ (N : Network) (L : Layout) (network : IsNetwork N) (placed : IsPlaced N L) (balances : IsBalanced N L) (e : ℕ) (edge : Edge) (is : slice_get N.edges e ≡ Some edge)
    (a b : ℕ) (starts : Stands L edge.source a) (ends : Stands L edge.target b) where
  -- no tile is left twice
  one-side : (t : ℕ) (side other : Side) → IsTile L.ratio t → leaves L t side ≡ Some e → leaves L t other ≡ Some e → side ≡ other
  one-side t Left Left inside p q = refl
  one-side t Left Right inside p q = absurd (out-apart N L network placed balances t e inside p q)
  one-side t Right Left inside p q = absurd (out-apart N L network placed balances t e inside q p)
  one-side t Right Right inside p q = refl

  -- nothing leaves the target
  target-last : (side : Side) → leaves L b side ≡ Some e → ⊥
  target-last side out =
      let at = at-target N L network placed balances b e edge is ends in
      let none = at.none_out in
      let some = out-some L b e side out in
      omega arith

  -- where it leaves and doesn't begin, it enters
  came : (t : ℕ) (side : Side) → IsTile L.ratio t → leaves L t side ≡ Some e → t ≢ a → (from : Side) × (enters L t from ≡ Some e)
  came t side inside out other =
      let some = out-some L t e side out in
      let no_source : Stands L edge.source t → ⊥ = λ s. other (let both : Some t ≡ Some a = sym s ∙ starts in cc) in
      let no_target : Stands L edge.target t → ⊥ = λ s. let at = at-target N L network placed balances t e edge is s in let none = at.none_out in omega arith in
      let same = (at-other N L network placed balances t e edge inside is no_source no_target).0 in
      side-in L t e (omega arith)

  -- up to the source
  climb : (fuel t : ℕ) (side : Side) → t < fuel → IsTile L.ratio t → leaves L t side ≡ Some e → (k : ℕ) × IsWay L e a t k
  climb zero t side few inside out = absurd (omega arith)
  climb (suc fuel) t side few inside out = elim (cases_eq a t) [
    | inl here ↦ (0, here)
    | inr away ↦ (
        let (from, come) = came t side inside out (λ same. away (sym same)) in
        let c = comes-from L t e from inside come in
        let less = c.less in
        let (k, way) = climb fuel c.from c.side (omega arith) (omega arith) c.out in
        (suc k, way-more L e k a c.from t c.side way c.out c.under))
  ]

  -- the way of the edge, found from its end
  pub the-way : (n : ℕ) × IsWay L e a b (suc n)
  the-way =
      let at = at-target N L network placed balances b e edge is ends in
      let one = at.one_in in
      let (side, come) = side-in L b e (omega arith) in
      let inside = placed.inside edge.target b ends in
      let c = comes-from L b e side inside come in
      let less = c.less in
      let (k, way) = climb (suc c.from) c.from c.side (omega arith) (omega arith) c.out in
      (k, way-more L e k a c.from b c.side way c.out c.under)

  -- a way that goes on from a tile of another is part of that
  on-way : (k n s t : ℕ) (side : Side) → IsTile L.ratio s → IsWay L e s t k → IsWay L e s b n → leaves L t side ≡ Some e → IsOnWay L e (border t side) s n
  on-way k zero s t side inside part whole out = absurd (stuck k part)
    where
      stuck : (k : ℕ) → IsWay L e s t k → ⊥
      stuck zero same = target-last side (subst (λ (v : ℕ). leaves L v side ≡ Some e) (sym same ∙ whole) out)
      stuck (suc k) (first, next, leave, under, rest) = target-last first (subst (λ (v : ℕ). leaves L v first ≡ Some e) whole leave)
  on-way zero (suc n) s t side inside same (first, next, leave, under, rest) out =
      let here : leaves L s side ≡ Some e = subst (λ (v : ℕ). leaves L v side ≡ Some e) (sym same) out in
      let sides = one-side s first side inside leave here in
      (first, next, leave, under, inl (ap (border s) sides ∙ ap (λ (v : ℕ). border v side) same))
  on-way (suc k) (suc n) s t side inside (one, middle, go, down, part) (first, next, leave, under, rest) out =
      let sides = one-side s one first inside go leave in
      let tiles : Some middle ≡ Some next = sym down ∙ ap (below L.ratio s) sides ∙ under in
      let same : middle ≡ next = cc in
      let part_on : IsWay L e next t k = subst (λ (v : ℕ). IsWay L e v t k) same part in
      (first, next, leave, under, inr (on-way k n next t side (below-inside L.ratio s next first under) part_on rest out))

  -- every border that carries the edge is on its way
  pub all-on-way : (border_number : ℕ) → edge_on L border_number ≡ Some e → IsOnWay L e border_number a (suc the-way.0)
  all-on-way c carries =
      let (t, side, inside, at) = border-some L.ratio c (low c carries) in
      let out : leaves L t side ≡ Some e = ap (edge_on L) at ∙ carries in
      let (k, part) = climb (suc t) t side (omega arith) inside out in
      subst (λ (d : ℕ). IsOnWay L e d a (suc the-way.0)) at (on-way k (suc the-way.0) a t side (placed.inside edge.source a starts) part the-way.1 out)
    where
      low : (d : ℕ) → edge_on L d ≡ Some e → d < 2 * tile_count L.ratio
      low d h = elim (cases_lt d (length L.borders)) [
        | inl less ↦ (let whole = placed.borders in omega arith)
        | inr past ↦ (let gone : edge_on L d ≡ None = get_or_past L.borders d None past in let both : Some e ≡ None = sym h ∙ gone in absurd (cc))
      ]

  -- no border that carries the edge leads off the grid: it is on the way, and each border of the way leads to a tile
  way-leads : (n s : ℕ) (t : ℕ) (side : Side) → IsTile L.ratio t → IsOnWay L e (border t side) s n → (u : ℕ) × (below L.ratio t side ≡ Some u)
  way-leads zero s t side inside on = absurd on
  way-leads (suc n) s t side inside (first, next, leave, under, inl same) =
      let (tiles, sides) = border-side s t first side same in
      (next, sym (ap (λ (v : ℕ). below L.ratio v side) tiles) ∙ ap (below L.ratio s) (sym sides) ∙ under)
  way-leads (suc n) s t side inside (first, next, leave, under, inr on) = way-leads n next t side inside on

  pub stays-on : (t : ℕ) (side : Side) → IsTile L.ratio t → leaves L t side ≡ Some e → (u : ℕ) × (below L.ratio t side ≡ Some u)
  stays-on t side inside out = way-leads (suc the-way.0) a t side inside (all-on-way (border t side) out)

-- the third condition follows from the first and the fourth
pub stays-on-grid : (N : Network) (L : Layout) → IsNetwork N → IsPlaced N L → IsBalanced N L → StaysOnGrid L
stays-on-grid N L network placed balances t side inside none = elim (option-cases (leaves L t side)) [
  | inl empty ↦ empty
  | inr (e, out) ↦ absurd (led e out)
]
  where
    led : (e : ℕ) → leaves L t side ≡ Some e → ⊥
    led e out =
        let at = got-at N.edges e (leaving-is N L placed t e side out) in
        let forward = edge-forward N L network placed balances e at.item at.at in
        let within = edge-within N L network placed balances e at.item at.at in
        let source = place-of N L network placed balances at.item.source (omega arith) in
        let target = place-of N L network placed balances at.item.target within in
        let (u, under) = stays-on N L network placed balances e at.item at.at source.item target.item source.at target.at t side inside out in
        let both : None ≡ Some u = sym none ∙ under in
        cc

-- ---- rows

-- the target stands below the source
pub edge-down : (N : Network) (permit : PermitTest) (L : Layout) → IsNetwork N → IsLegal N permit L → (e : ℕ) (edge : Edge) → slice_get N.edges e ≡ Some edge →
    (a b : ℕ) → Stands L edge.source a → Stands L edge.target b → y_of L.ratio a + 1 ≤ y_of L.ratio b
edge-down N permit L network legal e edge is a b starts ends =
    let (n, way) = the-way N L network legal.placed legal.balanced e edge is a b starts ends in
    let down = way-rows L e (suc n) a b way in
    omega arith

row_of : Layout → ℕ → ℕ
row_of L v = y_of L.ratio (get_or L.places v 0)

module _ (N : Network) (permit : PermitTest) (L : Layout) (network : IsNetwork N) (legal : IsLegal N permit L) where
  row-of : (v t : ℕ) → Stands L v t → row_of L v ≡ y_of L.ratio t
  unfolding row_of
  row-of v t stands = ap (y_of L.ratio) (get_or_from_slice_get L.places v t 0 stands)

  rises : (i : ℕ) (edge : Edge) → slice_get N.edges i ≡ Some edge → row_of L edge.source + 1 ≤ row_of L edge.target
  rises i edge is =
      let forward = edge-forward N L network legal.placed legal.balanced i edge is in
      let within = edge-within N L network legal.placed legal.balanced i edge is in
      let source = place-of N L network legal.placed legal.balanced edge.source (omega arith) in
      let target = place-of N L network legal.placed legal.balanced edge.target within in
      let down = edge-down N permit L network legal i edge is source.item target.item source.at target.at in
      let a = row-of edge.source source.item source.at in
      let b = row-of edge.target target.item target.at in
      omega arith

  -- a path takes a row for each of its edges
  path-down : (u v n : ℕ) → IsPath N.edges u v n → row_of L u + n ≤ row_of L v
  path-down u v zero path = let same = ap (row_of L) path in omega arith
  path-down u v (suc n) (middle, path, (i, edge, is, from, to)) =
      let before = path-down u middle n path in
      let last = rises i edge is in
      let s = ap (row_of L) from in
      let t = ap (row_of L) to in
      omega arith

  -- a node has room for its longest paths above it and below it
  pub room-above : (v t d : ℕ) → Stands L v t → IsDown N v d → d ≤ y_of L.ratio t
  room-above v t d stands down =
      let path = path-down down.input v d down.path in
      let row = row-of v t stands in
      omega arith

  pub room-below : (v t u : ℕ) → Stands L v t → IsUp N v u → y_of L.ratio t + u + 1 ≤ L.ratio.h
  room-below v t u stands up =
      let (node, is, kind) = up.ends in
      let place = place-of N L network legal.placed legal.balanced up.output (got-within N.nodes up.output node is) in
      let end : IsInLastRow L.ratio place.item = subst (λ (k : Kind). StandsAtItsEnd k L.ratio place.item) kind (legal.ends up.output place.item node is place.at) in
      let path = path-down v up.output u up.path in
      let row = row-of v t stands in
      let last = row-of up.output place.item place.at in
      omega arith

  pub in-window : (v t d u : ℕ) (kind : Kind) → Stands L v t → HasKind N v kind → IsDown N v d → IsUp N v u → MayStand kind d u (y_of L.ratio t) L.ratio.h
  in-window v t d u kind stands (node, is, same) down up = at kind (subst (λ (k : Kind). StandsAtItsEnd k L.ratio t) same (legal.ends v t node is stands))
    where
      room : (d ≤ y_of L.ratio t) × (y_of L.ratio t + u + 1 ≤ L.ratio.h)
      room = (room-above v t d stands down, room-below v t u stands up)

      at : (k : Kind) → StandsAtItsEnd k L.ratio t → MayStand k d u (y_of L.ratio t) L.ratio.h
      at Input end = end
      at Output end = end
      at Not end = room
      at Fan end = room
      at And end = room
      at Or end = room
      at Nand end = room
      at Nor end = room
      at Xor end = room
      at Xnor end = room
