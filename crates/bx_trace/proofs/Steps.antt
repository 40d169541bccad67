-- One step along an edge of a layout with a known form grid.
use Rattle.std.proofs.Common.{◌≡◌, ◌↔◌, ℕ, ◌*◌, ◌/◌, ◌<◌, ◌≤◌, true, false, List, length, slice_get, Option, Some, None, is_some, inl, inr, refl, sym, ap, ◌∙◌, subst, arith}
use Rattle.std.specs.Prelude.{option_and_then, option_map}
use Rattle.bx_forms.specs.declared.side.Side.{Side}
use Rattle.bx_forms.specs.declared.side.Side.TheVariants.{Left, Right}
use Rattle.bx_forms.specs.Forms.{form_node, form_lower, form_upper}
use Rattle.bx_forms.specs.Kinds.{slots}
use Rattle.bx_forms.specs.Sides.{is_used, opposite, used_values}
use Rattle.bx_grid.specs.declared.ratio.Ratio.{Ratio}
use Rattle.bx_grid.specs.Tiles.{tile_count, IsTile, below, above, border, entering}
use Rattle.bx_grid.proofs.Neighbours.{above-less, below-above}
use Rattle.bx_network.specs.declared.node.Node.{Node}
use Rattle.bx_network.specs.declared.node.Edge.{Edge}
use Rattle.bx_network.specs.Networks.{Network, IsNetwork, HasSlot}
use Rattle.bx_network.specs.Values.{edge_out}
use Rattle.bx_network.proofs.Lists.{got-at, got-within}
use Rattle.bx_network.proofs.Networks.{edge-leaves}
use Rattle.bx_layout.specs.declared.layout.Layout.{Layout}
use Rattle.bx_layout.specs.Grids.{FormGrid, form_at, lower_in}
use Rattle.bx_layout.specs.Layouts.{Stands, IsFree, edge_on, enters, leaves}
use Rattle.bx_layout.specs.Permits.{all_forms}
use Rattle.bx_layout.specs.TileForms.{on_side, lower_sides, ComesFrom, HasForm, HasWireForm}
use Rattle.bx_layout.specs.Ways.{Goes}
use Rattle.bx_layout.proofs.Balances.{option-cases, in-some, side-out, entering-is, at-other, in-apart}
use Rattle.bx_layout.proofs.Edges.{begins-here, ends-here, leaving-spread}
use Rattle.bx_layout.proofs.Flow.{row-clocked}
use Rattle.bx_layout.proofs.OnTiles.{comes-leaves, none-of, some-of}
use Rattle.bx_layout.proofs.Soundness.{grid-cases, form-lower, lower-is}
use Rattle.bx_layout.proofs.Spread.{ways, Ways, AreSpread}
use Rattle.bx_layout.proofs.Spread as spreads
use Rattle.bx_layout.proofs.Wires.{unused-sends}
use Rattle.bx_trace.specs.Known.{entry, target_of, IsLayoutOf, IsStraight, Begins, KnowsTargetsFrom, KnowsBorders}
use Rattle.bx_trace.specs.Passing.{Passes}
use Rattle.bx_trace.proofs.HandingOn.{one-source}

-- ---- what a form without a node hands on

-- what leaves, leaves as it enters
abbrev pub handed-on : Layout → ℕ → Option Side → Option ℕ
handed-on L t o = option_and_then (enters L t) o

from-is : (L : Layout) (t : ℕ) (side : Side) (o : Option Side) → ComesFrom L t side o → leaves L t side ≡ handed-on L t o
from-is L t side None c = c
from-is L t side (Some from) c = let (e, out, come) = comes-leaves L t side from c in out ∙ sym come

comes-on : (L : Layout) (t form : ℕ) (b : HasWireForm L t form) (side : Side) → ComesFrom L t side (on_side b.left b.right side)
comes-on L t form b Left = b.from_left
comes-on L t form b Right = b.from_right

used-on : (left right : Option Side) (side : Side) → is_used (record { left = is_some left; right = is_some right }) side ≡ is_some (on_side left right side)
used-on left right Left = refl
used-on left right Right = refl

-- the side whose value is sent out is the one from which the edge comes
wire-passes : (L : Layout) (t form : ℕ) (b : HasWireForm L t form) (side from : Side) → (on_side b.left b.right side ≡ Some from) ↔ Passes form from side
wire-passes L t form b side from = (forth, back (on_side b.left b.right side) refl)
  where
    forth : on_side b.left b.right side ≡ Some from → Passes form from side
    forth e = (b.wire_of.sends side from e true false, b.wire_of.sends side from e false true)

    back : (o : Option Side) → on_side b.left b.right side ≡ o → Passes form from side → on_side b.left b.right side ≡ Some from
    back (Some other) e p =
        let q : Passes form other side = (b.wire_of.sends side other e true false, b.wire_of.sends side other e false true) in
        e ∙ ap Some (one-source form side other from q p)
    back None e p = absurd (idle from p)
      where
        unused : is_used (form_lower form) side ≡ false
        unused = ap (λ sides. is_used sides side) b.wire_of.lower_sides ∙ used-on b.left b.right side ∙ ap is_some e

        idle : (f : Side) → Passes form f side → ⊥
        idle Left q = let none = unused-sends form (used_values (form_upper form) true false) side unused in let both : true ≡ false = sym q.0 ∙ none in cc
        idle Right q = let none = unused-sends form (used_values (form_upper form) false true) side unused in let both : true ≡ false = sym q.1 ∙ none in cc

same-option : (o p : Option Side) → ((s : Side) → (o ≡ Some s) ↔ (p ≡ Some s)) → o ≡ p
same-option None None h = refl
same-option None (Some s) h = (h s).1 refl
same-option (Some s) p h = sym ((h s).0 refl)

pub wire-leaves : (L : Layout) (t form : ℕ) → HasWireForm L t form → (side : Side) (o : Option Side) → ((from : Side) → (o ≡ Some from) ↔ Passes form from side) → leaves L t side ≡ handed-on L t o
wire-leaves L t form b side o found =
    from-is L t side (on_side b.left b.right side) (comes-on L t form b side)
    ∙ ap (handed-on L t) (same-option (on_side b.left b.right side) o (λ s.
    ((λ e. (found s).1 ((wire-passes L t form b side s).0 e)), (λ e. (wire-passes L t form b side s).1 ((found s).0 e)))))

-- where it is known what the borders above carry, it is known what leaves
pub known-leaves : (L : Layout) (t form : ℕ) → HasWireForm L t form → (r : Ratio) → L.ratio ≡ r → IsTile r t → (edges : List (Option ℕ)) → KnowsBorders L edges (2 * t) → (side : Side) (o : Option Side) (over : Option ℕ) →
    ((from : Side) → (o ≡ Some from) ↔ Passes form from side) → (from : Side) → o ≡ Some from → over ≡ entering r t from → option_and_then (entry edges) over ≡ leaves L t side
known-leaves L t form b r ratio inside edges known side o over found from is e =
    ap (option_and_then (entry edges)) (e ∙ ap (λ q. entering q t from) (sym ratio))
    ∙ seen (above L.ratio t from) (λ u h. above-less L.ratio t u from h)
    ∙ sym (wire-leaves L t form b side o found ∙ ap (handed-on L t) is)
  where
    low : (u : ℕ) (s : Side) → u < t → border u s < 2 * t
    low u Left h = omega arith
    low u Right h = omega arith

    seen : (o : Option ℕ) → ((u : ℕ) → o ≡ Some u → u < t) →
        option_and_then (entry edges) (option_map (λ u. border u (opposite from)) o) ≡ option_and_then (edge_on L) (option_map (λ u. border u (opposite from)) o)
    seen None less = refl
    seen (Some u) less = known (border u (opposite from)) (low u (opposite from) (less u refl))

-- the edge by slot 0 is one of the network's, where there is one by slot 1
pub first-within : (N : Network) (v : ℕ) → IsNetwork N → HasSlot N v 1 → edge_out N.edges v 0 < length N.edges
first-within N v network (kind, has, low) =
    let only = edge-leaves N network v kind has 0 (omega arith) in
    got-within N.edges (edge_out N.edges v 0) only.item only.at

-- ---- a node's tile

module _ (N : Network) (L : Layout) (v t form : ℕ) (left : Option ℕ) (b : Begins N L v t form left) where
  used-is : (side : Side) → is_used (form_lower form) side ≡ is_some (leaves L t side)
  used-is Left = ap (λ sides. is_used sides Left) b.lower
  used-is Right = ap (λ sides. is_used sides Right) b.lower

  -- nothing begins on a side that isn't used
  pub begins-unused : (side : Side) → is_used (form_lower form) side ≡ false → leaves L t side ≡ None
  begins-unused side e = none-of (leaves L t side) (sym (used-is side) ∙ e)

  module _ (node : Node) (is : slice_get N.nodes v ≡ Some node) where
    spread : AreSpread (slots node.kind) (edge_out N.edges v) (leaves L t)
    spread = leaving-spread N all_forms L b.network b.legal v node is t b.stands

    pub begins-none : (side : Side) → slots node.kind ≡ 0 → leaves L t side ≡ None
    begins-none side none = elim (option-cases (leaves L t side)) [
      | inl e ↦ e
      | inr (e, out) ↦ (let found = spread.only side e out in let low = found.1 in absurd (omega arith))
    ]

    pub begins-one : (side : Side) → slots node.kind ≡ 1 → is_used (form_lower form) side ≡ true → leaves L t side ≡ Some (edge_out N.edges v 0)
    begins-one side one used =
        let (e, out) = some-of (leaves L t side) (sym (used-is side) ∙ used) in
        let found = spread.only side e out in
        let low = found.1 in
        let slot : found.0 ≡ 0 = omega arith in
        out ∙ ap Some (found.2 ∙ ap (edge_out N.edges v) slot)

    pub begins-two : (side : Side) (slot : ℕ) → slots node.kind ≡ 2 →
        (left ≡ target_of N (edge_out N.edges v 0) → slot ≡ on_side 0 1 side) → ((left ≡ target_of N (edge_out N.edges v 0) → ⊥) → slot ≡ on_side 1 0 side) →
        leaves L t side ≡ Some (edge_out N.edges v slot)
    begins-two side slot two if_straight if_crossed = at (slots node.kind) two (ways (edge_out N.edges v) (leaves L t) (slots node.kind) spread)
      where
        on : (p q : ℕ) → leaves L t Left ≡ Some (edge_out N.edges v p) → leaves L t Right ≡ Some (edge_out N.edges v q) → (s : Side) → leaves L t s ≡ Some (edge_out N.edges v (on_side p q s))
        on p q l r Left = l
        on p q l r Right = r

        at : (n : ℕ) → n ≡ 2 → Ways (edge_out N.edges v) (leaves L t) n → leaves L t side ≡ Some (edge_out N.edges v slot)
        at _ n (spreads.none l r) = absurd (omega arith)
        at _ n (spreads.left l r) = absurd (omega arith)
        at _ n (spreads.right l r) = absurd (omega arith)
        at _ n (spreads.straight l r) = on 0 1 l r side ∙ ap (λ s. Some (edge_out N.edges v s)) (sym (if_straight (b.known (edge_out N.edges v 0) l)))
        at _ n (spreads.crossed l r) =
            on 1 0 l r side
            ∙ ap (λ s. Some (edge_out N.edges v s)) (sym (if_crossed (λ same. b.straight v t (node.kind, (node, is, refl), omega arith) b.stands (sym same ∙ b.known (edge_out N.edges v 1) l) l)))

-- ---- a tile of the form grid

module _ (N : Network) (g : FormGrid) (nodes : List (Option ℕ)) (L : Layout) (of : IsLayoutOf N g nodes L) where
  pub tile-inside : (b : ℕ) → b < 2 * tile_count g.ratio → IsTile L.ratio (b / 2)
  tile-inside b h = let same = ap tile_count of.forms.ratio in omega (arith, h, same)

  pub tile-on : (t : ℕ) → IsTile g.ratio t → IsTile L.ratio t
  tile-on t h = subst (λ r. IsTile r t) of.forms.ratio h

  pub no-form : (t : ℕ) (side : Side) → IsTile L.ratio t → form_at g t ≡ None → leaves L t side ≡ None
  no-form t side inside none = elim (grid-cases N all_forms L of.network of.legal g.tiles of.forms.each t inside) [
    | inl (bare, empty) ↦ bare.out_none side
    | inr (form, has, is) ↦ (let both : None ≡ Some form = sym none ∙ is in absurd (cc))
  ]

  pub free-tile : (t : ℕ) → entry nodes t ≡ None → IsFree L t
  free-tile t none v stands = let is = (of.nodes_are t v).1 stands in let both : None ≡ Some v = sym none ∙ is in cc

  pub node-tile : (t v : ℕ) → entry nodes t ≡ Some v → Stands L v t
  node-tile t v is = (of.nodes_are t v).0 is

  pub wire-form : (t form : ℕ) → IsTile L.ratio t → entry nodes t ≡ None → form_at g t ≡ Some form → HasWireForm L t form
  wire-form t form inside none is = wired ((of.forms.each t form inside).0 is)
    where
      wired : HasForm N L t form → HasWireForm L t form
      wired (inl a) = absurd (free-tile t none a.v a.stands)
      wired (inr b) = b

  pub node-begins : (t v form : ℕ) (left : Option ℕ) → IsStraight N L → IsTile L.ratio t → entry nodes t ≡ Some v → form_at g t ≡ Some form → ((e : ℕ) → leaves L t Left ≡ Some e → left ≡ target_of N e) → Begins N L v t form left
  node-begins t v form left straight inside at is known = record {
    network = of.network;
    legal = of.legal;
    straight = straight;
    stands = node-tile t v at;
    lower = form-lower N all_forms L of.network of.legal g.tiles of.forms.each t form ((of.forms.each t form inside).0 is);
    known = known;
  }

  -- ---- up a border

  -- what leaves a tile without a node left the tile above on the side from which the form hands it on
  pub came-from : (t e : ℕ) (side : Side) → IsTile L.ratio t → leaves L t side ≡ Some e → entry nodes t ≡ None →
      (form : ℕ) × (from : Side) × (u : ℕ) × (form_at g t ≡ Some form) × Passes form from side × (above g.ratio t from ≡ Some u) × (u < t) × (leaves L u (opposite from) ≡ Some e)
  came-from t e side inside out none = elim (option-cases (form_at g t)) [
    | inl empty ↦ (let gone = no-form t side inside empty in let both : Some e ≡ None = sym out ∙ gone in absurd (cc))
    | inr (form, is) ↦ (
        let b = wire-form t form inside none is in
        let (from, p, come) = handed-from form b (on_side b.left b.right side) refl in
        let (u, over, leave) = over-is from (above L.ratio t from) refl come in
        (form, from, u, is, p, ap (λ r. above r t from) of.forms.ratio ∙ over, above-less L.ratio t u from over, leave))
  ]
    where
      handed-from : (form : ℕ) (b : HasWireForm L t form) (o : Option Side) → on_side b.left b.right side ≡ o → (from : Side) × Passes form from side × (enters L t from ≡ Some e)
      handed-from form b None q =
          let gone : leaves L t side ≡ None = from-is L t side (on_side b.left b.right side) (comes-on L t form b side) ∙ ap (handed-on L t) q in
          let both : Some e ≡ None = sym out ∙ gone in
          absurd (cc)
      handed-from form b (Some from) q =
          (from, (wire-passes L t form b side from).0 q, sym (from-is L t side (on_side b.left b.right side) (comes-on L t form b side) ∙ ap (handed-on L t) q) ∙ out)

      over-is : (from : Side) (o : Option ℕ) → above L.ratio t from ≡ o → option_and_then (edge_on L) (option_map (λ u. border u (opposite from)) o) ≡ Some e → (u : ℕ) × (above L.ratio t from ≡ Some u) × (leaves L u (opposite from) ≡ Some e)
      over-is from None q come = absurd (cc)
      over-is from (Some u) q come = (u, q, come)

  -- an edge begins on the tile of its source
  pub begins-at : (t v e : ℕ) (side : Side) (edge : Edge) → entry nodes t ≡ Some v → leaves L t side ≡ Some e → slice_get N.edges e ≡ Some edge → edge.source ≡ v
  begins-at t v e side edge at out is =
      let stands = node-tile t v at in
      let same = of.legal.placed.places in
      let node = got-at N.nodes v (let l = got-within L.places v t stands in omega arith) in
      begins-here N all_forms L of.network of.legal v node.item node.at t stands side e edge out is

  -- a tile sends out on the sides that its form uses
  pub sends-on : (t : ℕ) → IsTile L.ratio t → lower_in (form_at g t) ≡ lower_sides L t
  sends-on t inside = lower-is N all_forms L of.network of.legal g.tiles of.forms.each t inside

  -- ---- down a border

  module _ (t e : ℕ) (side : Side) (inside : IsTile L.ratio t) (out : leaves L t side ≡ Some e) where
    goes-down : (u : ℕ) × Goes L e t u side
    goes-down = let (u, goes, zone) = row-clocked N all_forms L of.legal t e side inside out in (u, goes)

    pub not-off : below g.ratio t side ≡ None → ⊥
    not-off none =
        let (u, goes) = goes-down in
        let both : None ≡ Some u = sym none ∙ ap (λ r. below r t side) of.forms.ratio ∙ goes.next in
        cc

    pub down-is : (u : ℕ) → below g.ratio t side ≡ Some u → (enters L u (opposite side) ≡ Some e) × (t < u)
    down-is u under =
        let (w, goes) = goes-down in
        let here : below L.ratio t side ≡ Some u = ap (λ r. below r t side) (sym of.forms.ratio) ∙ under in
        let both : Some w ≡ Some u = sym goes.next ∙ here in
        let same : w ≡ u = cc in
        (subst (λ (x : ℕ). enters L x (opposite side) ≡ Some e) same goes.comes, above-less L.ratio u t (opposite side) (below-above L.ratio t u side here))

  module _ (u e : ℕ) (from : Side) (inside : IsTile L.ratio u) (come : enters L u from ≡ Some e) where
    -- it ends where a node stands
    pub ends-at : (v : ℕ) → entry nodes u ≡ Some v → Some v ≡ target_of N e
    ends-at v at =
        let stands = node-tile u v at in
        let same = of.legal.placed.places in
        let node = got-at N.nodes v (let l = got-within L.places v u stands in omega arith) in
        let edge = got-at N.edges e (entering-is N L of.legal.placed u e from come) in
        let target = ends-here N all_forms L of.network of.legal v node.item node.at u stands from e edge.item come edge.at in
        sym (ap (λ (o : Option Edge). option_map (λ d. d.target) o) edge.at ∙ ap Some target)

    one-side : (p q : Side) → enters L u p ≡ Some e → enters L u q ≡ Some e → p ≡ q
    one-side Left Left a c = refl
    one-side Left Right a c = absurd (in-apart N L of.network of.legal.placed of.legal.balanced u e inside a c)
    one-side Right Left a c = absurd (in-apart N L of.network of.legal.placed of.legal.balanced u e inside c a)
    one-side Right Right a c = refl

    passed : (form : ℕ) (b : HasWireForm L u form) (s : Side) → leaves L u s ≡ Some e → (o : Option Side) → on_side b.left b.right s ≡ o → Passes form from s
    passed form b s leave None q =
        let gone : leaves L u s ≡ None = from-is L u s (on_side b.left b.right s) (comes-on L u form b s) ∙ ap (handed-on L u) q in
        let both : Some e ≡ None = sym leave ∙ gone in
        absurd (cc)
    passed form b s leave (Some other) q =
        let enter : enters L u other ≡ Some e = sym (from-is L u s (on_side b.left b.right s) (comes-on L u form b s) ∙ ap (handed-on L u) q) ∙ leave in
        (wire-passes L u form b s from).0 (q ∙ ap Some (one-side other from enter come))

    -- and else goes on by the side to which the form hands it
    pub goes-on : (form : ℕ) → entry nodes u ≡ None → form_at g u ≡ Some form → (s : Side) × Passes form from s × (leaves L u s ≡ Some e)
    goes-on form none is =
        let free = free-tile u none in
        let edge = got-at N.edges e (entering-is N L of.legal.placed u e from come) in
        let flow = (at-other N L of.network of.legal.placed of.legal.balanced u e edge.item inside edge.at (free edge.item.source) (free edge.item.target)).0 in
        let some = in-some L u e from come in
        let (s, leave) = side-out L u e (omega arith) in
        let b = wire-form u form inside none is in
        (s, passed form b s leave (on_side b.left b.right s) refl, leave)

    pub not-empty : form_at g u ≡ None → ⊥
    not-empty none = elim (grid-cases N all_forms L of.network of.legal g.tiles of.forms.each u inside) [
      | inl (bare, empty) ↦ (let gone = bare.in_none from in let both : Some e ≡ None = sym come ∙ gone in absurd (cc))
      | inr (form, has, is) ↦ (let both : None ≡ Some form = sym none ∙ is in absurd (cc))
    ]

    pub not-node : (form : ℕ) → entry nodes u ≡ None → form_at g u ≡ Some form → form_node form ≡ None
    not-node form none is = (wire-form u form inside none is).wire_of.holds_none

    -- the target is that of the border on which it goes on
    pub handed-target : (form : ℕ) (targets : List (Option ℕ)) (o : Option Side) → entry nodes u ≡ None → form_at g u ≡ Some form → KnowsTargetsFrom N L targets (2 * u) →
        ((s : Side) → (o ≡ Some s) ↔ Passes form from s) → (next : Side) → o ≡ Some next → entry targets (border u next) ≡ target_of N e
    handed-target form targets o none is known found next at =
        let (s, p, leave) = goes-on form none is in
        let both : Some s ≡ Some next = sym ((found s).1 p) ∙ at in
        let same : s ≡ next = cc in
        known (border u next) e (low next) (subst (λ (x : Side). leaves L u x ≡ Some e) same leave)
      where
        low : (x : Side) → 2 * u ≤ border u x
        low Left = omega arith
        low Right = omega arith

    pub not-stopped : (form : ℕ) (o : Option Side) → entry nodes u ≡ None → form_at g u ≡ Some form → ((s : Side) → (o ≡ Some s) ↔ Passes form from s) → o ≡ None → ⊥
    not-stopped form o none is found stopped =
        let (s, p, leave) = goes-on form none is in
        let both : None ≡ Some s = sym stopped ∙ (found s).1 p in
        cc
