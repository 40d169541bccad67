-- A count proof that holds leaves no legal layout.
use Rattle.std.proofs.Common.{◌≡◌, ℕ, suc, ◌+◌, ◌-◌, ◌*◌, ◌%◌, ◌<◌, ◌≤◌, ◌⊎◌, max, get_or, slice_get, Some, inl, inr, sym, ap, ◌∙◌, subst, arith}
use Rattle.std.proofs.Math.Nat.{le-max_left, le-max_right, mul_comm, mul-le-mul_left}
use Rattle.std.proofs.lemmas.List.FromFn.{length-range_with_len}
use Rattle.std.proofs.lemmas.Option.{get_or_from_slice_get}
use Rattle.std.specs.List.{range_with_len}
use Rattle.bx_logic.proofs.Members.{Member}
use Rattle.bx_logic.proofs.Ordered.{Member-range}
use Rattle.bx_grid.specs.declared.ratio.Ratio.{Ratio}
use Rattle.bx_grid.specs.declared.count.CountProof.{CountProof}
use Rattle.bx_grid.specs.declared.count.CountProof.TheVariants.{Late, Crowd, Cut, Pair}
use Rattle.bx_grid.specs.Tiles.{y_of}
use Rattle.bx_network.specs.declared.node.Edge.{Edge}
use Rattle.bx_network.specs.Networks.{Network, IsNetwork}
use Rattle.bx_network.proofs.Downs.{path-rises, downs-are, ups-are}
use Rattle.bx_network.proofs.Networks.{kind-within, goes-forward}
use Rattle.bx_network.proofs.Window.{not-before, not-behind}
use Rattle.bx_layout.specs.declared.layout.Layout.{Layout}
use Rattle.bx_layout.specs.Layouts.{Stands, edge_on}
use Rattle.bx_layout.specs.Permits.{PermitTest}
use Rattle.bx_layout.specs.Legal.{IsLegal}
use Rattle.bx_layout.proofs.Balances.{edge-forward, edge-within, place-of}
use Rattle.bx_layout.proofs.Walks.{edge-down, room-above, room-below, in-window, the-way}
use Rattle.bx_bounds.specs.Numbers.{IsCount}
use Rattle.bx_bounds.specs.Ancestors.{IsAncestor, IsAtOrAbove}
use Rattle.bx_bounds.specs.Windows.{IsEarliestFrom, IsLatestTo}
use Rattle.bx_layout.specs.Permits.{PermitTest}
use Rattle.bx_layout.specs.Legal.{LacksLayout}
use Rattle.bx_bounds.specs.Refutes.{borders_between, IsLate, IsKeptTo, IsCutAt, PassesBelow, Refutes}
use Rattle.bx_bounds.proofs.Pigeons.{few-by}
use Rattle.bx_bounds.proofs.Gaps.{gap, length-gap, TakesBorder, way-crosses}

module _ (N : Network) (permit : PermitTest) (L : Layout) (network : IsNetwork N) (legal : IsLegal N permit L) where
  -- the row of a node
  row_of : ℕ → ℕ
  row_of v = y_of L.ratio (get_or L.places v 0)

  row-is : (v t : ℕ) → Stands L v t → row_of v ≡ y_of L.ratio t
  unfolding row_of
  row-is v t stands = ap (y_of L.ratio) (get_or_from_slice_get L.places v t 0 stands)

  -- a node stands in one of the rows from its earliest to its latest
  latest-row : (v t row : ℕ) → Stands L v t → IsLatestTo N v row L.ratio.h → y_of L.ratio t ≤ row
  latest-row v t row stands to =
      let within = kind-within N v to.kind to.is_kind in
      let down = downs-are N network v within in
      not-behind to.kind _ to.up (y_of L.ratio t) L.ratio.h row (in-window N permit L network legal v t _ to.up to.kind stands to.is_kind down to.is_up) to.to

  earliest-row : (v t row : ℕ) → Stands L v t → IsEarliestFrom N v row L.ratio.h → row ≤ y_of L.ratio t
  earliest-row v t row stands from =
      let within = kind-within N v from.kind from.is_kind in
      let up = ups-are N network v within in
      not-before from.kind from.down _ (y_of L.ratio t) L.ratio.h row (in-window N permit L network legal v t from.down _ from.kind stands from.is_kind from.is_down up) from.from

  -- Late
  pub late-none : (v : ℕ) → IsLate N L.ratio.h v → ⊥
  late-none v late =
      let place = place-of N L network legal.placed legal.balanced v late.within in
      let above = room-above N permit L network legal v place.item late.down place.at late.is_down in
      let below = room-below N permit L network legal v place.item late.up place.at late.is_up in
      let long = late.long in
      omega arith

  -- Crowd: the nodes stand on different tiles of these rows
  pub crowd-few : (first last c : ℕ) → first ≤ last → IsCount (IsKeptTo N L.ratio.h first last) c → c ≤ L.ratio.w * (last - first + 1)
  crowd-few first last c ordered count =
      let tiles = range_with_len (L.ratio.w * first) (L.ratio.w * (last - first + 1)) in
      let few = few-by (IsKeptTo N L.ratio.h first last) c (Stands L) tiles count legal.placed.apart stood in
      let size = length-range_with_len (L.ratio.w * first) (L.ratio.w * (last - first + 1)) in
      omega arith
    where
      in-rows : (w y x t : ℕ) → y * w + x ≡ t → x < w → first ≤ y → y ≤ last → Member t (range_with_len (w * first) (w * (last - first + 1)))
      in-rows w y x t number low above below =
          let begin = mul-le-mul_left w above in
          let end : w * (y + 1) ≤ w * (last + 1) = mul-le-mul_left w (omega arith) in
          let same : y * w ≡ w * y = mul_comm y w in
          let next : w * (y + 1) ≡ w * y + w = omega arith in
          let all : w * first + w * (last - first + 1) ≡ w * (last + 1) = let e : last + 1 ≡ first + (last - first + 1) = omega arith in rw e (omega arith) in
          Member-range (w * first) (w * (last - first + 1)) t (omega arith) (omega arith)

      stood : (v : ℕ) → IsKeptTo N L.ratio.h first last v → (t : ℕ) × Stands L v t × Member t (range_with_len (L.ratio.w * first) (L.ratio.w * (last - first + 1)))
      stood v kept =
          let within = kind-within N v kept.latest.kind kept.latest.is_kind in
          let place = place-of N L network legal.placed legal.balanced v within in
          let t = place.item in
          let wide = legal.grid.wide in
          let above = earliest-row v t first place.at kept.earliest in
          let below = latest-row v t last place.at kept.latest in
          (t, place.at, in-rows L.ratio.w (y_of L.ratio t) (t % L.ratio.w) t (omega arith) (omega arith) above below)

  -- edges that all cross one gap are few
  record Crosses (row e : ℕ) : Type 0 where
    edge : Edge
    is : slice_get N.edges e ≡ Some edge
    above : row_of edge.source ≤ row
    below : row < row_of edge.target

  takes : (row e : ℕ) → Crosses row e → TakesBorder L e row
  takes row e crosses =
      let forward = edge-forward N L network legal.placed legal.balanced e crosses.edge crosses.is in
      let within = edge-within N L network legal.placed legal.balanced e crosses.edge crosses.is in
      let source = place-of N L network legal.placed legal.balanced crosses.edge.source (omega arith) in
      let target = place-of N L network legal.placed legal.balanced crosses.edge.target within in
      let (n, way) = the-way N L network legal.placed legal.balanced e crosses.edge crosses.is source.item target.item source.at target.at in
      let high = row-is crosses.edge.source source.item source.at in
      let low = row-is crosses.edge.target target.item target.at in
      let a = crosses.above in
      let b = crosses.below in
      way-crosses L e row (suc n) source.item target.item legal.grid.wide way (omega arith) (omega arith)

  crossing-few : (P : ℕ → Type 0) (row c : ℕ) → IsCount P c → ((e : ℕ) → P e → Crosses row e) → c ≤ borders_between L.ratio
  crossing-few P row c count cross =
      let few = few-by P c (λ e b. edge_on L b ≡ Some e) (gap L.ratio row) count
      (λ d e b p q. let both : Some d ≡ Some e = sym p ∙ q in cc)
      (λ e p. let t = takes row e (cross e p) in (t.border_number, t.carries, t.between)) in
      let size = length-gap L.ratio row in
      omega arith

  -- Cut
  pub cut-few : (row c : ℕ) → IsCount (IsCutAt N L.ratio.h row) c → c ≤ borders_between L.ratio
  cut-few row c count = crossing-few (IsCutAt N L.ratio.h row) row c count cross
    where
      cross : (e : ℕ) → IsCutAt N L.ratio.h row e → Crosses row e
      cross e cut =
          let forward = edge-forward N L network legal.placed legal.balanced e cut.edge cut.is in
          let within = edge-within N L network legal.placed legal.balanced e cut.edge cut.is in
          let source = place-of N L network legal.placed legal.balanced cut.edge.source (omega arith) in
          let target = place-of N L network legal.placed legal.balanced cut.edge.target within in
          let high = row-is cut.edge.source source.item source.at in
          let low = row-is cut.edge.target target.item target.at in
          let above = latest-row cut.edge.source source.item row source.at cut.above in
          let below = earliest-row cut.edge.target target.item (row + 1) target.at cut.below in
          record { edge = cut.edge; is = cut.is; above = omega arith; below = omega arith }

  -- Pair
  rises : (e : ℕ) (edge : Edge) → slice_get N.edges e ≡ Some edge → row_of edge.source + 1 ≤ row_of edge.target
  rises e edge is =
      let forward = edge-forward N L network legal.placed legal.balanced e edge is in
      let within = edge-within N L network legal.placed legal.balanced e edge is in
      let source = place-of N L network legal.placed legal.balanced edge.source (omega arith) in
      let target = place-of N L network legal.placed legal.balanced edge.target within in
      let down = edge-down N permit L network legal e edge is source.item target.item source.at target.at in
      let high = row-is edge.source source.item source.at in
      let low = row-is edge.target target.item target.at in
      omega arith

  at-or-above : (u v : ℕ) → IsAtOrAbove N.edges u v → row_of u ≤ row_of v
  at-or-above u v (inl same) = let rows = ap row_of same in omega arith
  at-or-above u v (inr (n, path)) = let down = path-rises N.edges row_of rises u v (suc n) path in omega arith

  below-it : (u v : ℕ) → IsAncestor N.edges u v → row_of u < row_of v
  below-it u v (n, path) = let down = path-rises N.edges row_of rises u v (suc n) path in omega arith

  pub pair-few : (u v c : ℕ) → IsCount (PassesBelow N u v) c → c ≤ borders_between L.ratio
  pair-few u v c count = crossing-few (PassesBelow N u v) (max (row_of u) (row_of v)) c count cross
    where
      high : (s : ℕ) → IsAtOrAbove N.edges s u ⊎ IsAtOrAbove N.edges s v → row_of s ≤ max (row_of u) (row_of v)
      high s (inl one) = let a = at-or-above s u one in let b = le-max_left (row_of u) (row_of v) in omega arith
      high s (inr two) = let a = at-or-above s v two in let b = le-max_right (row_of u) (row_of v) in omega arith

      cross : (e : ℕ) → PassesBelow N u v e → Crosses (max (row_of u) (row_of v)) e
      cross e passes =
          let a = below-it u passes.edge.target passes.below_one in
          let b = below-it v passes.edge.target passes.below_two in
          record { edge = passes.edge; is = passes.is; above = high passes.edge.source passes.source; below = omega arith }

refuted-none : (N : Network) (permit : PermitTest) (L : Layout) (proof : CountProof) → IsNetwork N → Refutes N L.ratio proof → IsLegal N permit L → ⊥
refuted-none N permit L (Late v) network late legal = late-none N permit L network legal v late
refuted-none N permit L (Crowd first last) network (ordered, within, (c, count, more)) legal = let few = crowd-few N permit L network legal first last c ordered count in omega arith
refuted-none N permit L (Cut row) network (within, (c, count, more)) legal = let few = cut-few N permit L network legal row c count in omega arith
refuted-none N permit L (Pair u v) network (ordered, within, (c, count, more)) legal = let few = pair-few N permit L network legal u v c count in omega arith

pub no-layout : (N : Network) (ratio : Ratio) (proof : CountProof) → IsNetwork N → Refutes N ratio proof → (permit : PermitTest) → LacksLayout N permit ratio
no-layout N ratio proof network refutes permit L same legal =
    refuted-none N permit L proof network (subst (λ (r : Ratio). Refutes N r proof) (sym same) refutes) legal

pub not-own : (N : Network) (v : ℕ) → IsNetwork N → IsAncestor N.edges v v → ⊥
not-own N v network (n, path) =
    let rise = path-rises N.edges (λ u. u) (λ i e at. let forward = (goes-forward N network i e at).forward in omega arith) v v (suc n) path in
    omega arith
