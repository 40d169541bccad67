-- Two layouts with one form grid and the same places carry on each border edges from one node to one other.
use Rattle.std.proofs.Common.{◌≡◌, ◌⊎◌, ℕ, zero, suc, ◌+◌, ◌*◌, ◌<◌, ◌≤◌, true, false, List, map, slice_get, Option, Some, None, is_some, inl, inr, sym, ap, ◌∙◌, subst, arith}
use Rattle.std.specs.List.{range_with_len}
use Rattle.std.specs.Prelude.{option_map}
use Rattle.std.proofs.lemmas.Bool.{cases_lt}
use Rattle.std.proofs.lemmas.List.{get_or_past}
use Rattle.std.proofs.lemmas.List.FromFn.{get_or-map-range_with_len, length-map-range_with_len}
use Rattle.bx_forms.specs.declared.side.Side.{Side}
use Rattle.bx_forms.specs.declared.side.Side.TheVariants.{Left, Right}
use Rattle.bx_forms.specs.Sides.{is_used, opposite}
use Rattle.bx_grid.specs.Tiles.{tile_count, IsTile, above, below, border}
use Rattle.bx_grid.proofs.Neighbours.{below-inside, border-some}
use Rattle.bx_network.specs.declared.node.Edge.{Edge}
use Rattle.bx_network.specs.Networks.{Network, IsNetwork}
use Rattle.bx_network.proofs.Lists.{got-at}
use Rattle.bx_layout.specs.declared.layout.Layout.{Layout}
use Rattle.bx_layout.specs.Grids.{FormGrid, form_at, lower_in}
use Rattle.bx_layout.specs.Layouts.{edge_on, enters, leaves}
use Rattle.bx_layout.specs.TileForms.{lower_sides}
use Rattle.bx_layout.proofs.Balances.{option-cases, find-place, leaving-is}
use Rattle.bx_trace.specs.Known.{entry, target_of, AreApartOn, AreNodesAt, IsLayoutOf}
use Rattle.bx_trace.specs.Passing.{Passes}
use Rattle.bx_trace.specs.Traced.{IsLegalWith}
use Rattle.bx_trace.specs.Twins.{AreTwins, DifferByTwins}
use Rattle.bx_trace.proofs.HandingOn.{one-source, one-exit}
use Rattle.bx_trace.proofs.Steps.{came-from, begins-at, sends-on, not-off, down-is, ends-at, goes-on, not-empty, not-node}

-- ---- the nodes on the tiles

abbrev Found : List ℕ → ℕ → Type 0
Found places t = ((v : ℕ) × (slice_get places v ≡ Some t)) ⊎ ((v : ℕ) → slice_get places v ≡ Some t → ⊥)

abbrev node_found : (places : List ℕ) (t : ℕ) → Found places t → Option ℕ
node_found places t (inl (v, is)) = Some v
node_found places t (inr none) = None

abbrev node_at : List ℕ → ℕ → Option ℕ
node_at places t = node_found places t (find-place places t)

abbrev nodes_of : List ℕ → ℕ → List (Option ℕ)
nodes_of places tiles = map (node_at places) (range_with_len 0 tiles)

found-is : (places : List ℕ) (t v : ℕ) (found : Found places t) → node_found places t found ≡ Some v → slice_get places v ≡ Some t
found-is places t v (inl (u, is)) e = let same : u ≡ v = cc in ap (slice_get places) (sym same) ∙ is
found-is places t v (inr none) e = absurd (cc)

found-not : (places : List ℕ) (t : ℕ) (found : Found places t) → node_found places t found ≡ None → (v : ℕ) → slice_get places v ≡ Some t → ⊥
found-not places t (inl (u, is)) e v at = absurd (cc)
found-not places t (inr none) e v at = none v at

nodes-at : (places : List ℕ) (tiles : ℕ) → AreApartOn places tiles → AreNodesAt places (nodes_of places tiles)
nodes-at places tiles apart t v = (forth, back)
  where
    within : t < tiles → entry (nodes_of places tiles) t ≡ node_at places t
    within low = get_or-map-range_with_len (node_at places) 0 tiles t t None low (omega arith)

    forth : entry (nodes_of places tiles) t ≡ Some v → slice_get places v ≡ Some t
    forth e = elim (cases_lt t tiles) [
      | inl low ↦ found-is places t v (find-place places t) (sym (within low) ∙ e)
      | inr past ↦ (
          let whole = length-map-range_with_len (node_at places) 0 tiles in
          let gone : entry (nodes_of places tiles) t ≡ None = get_or_past (nodes_of places tiles) t None (omega (arith, whole)) in
          let both : Some v ≡ None = sym e ∙ gone in
          absurd (cc))
    ]

    back : slice_get places v ≡ Some t → entry (nodes_of places tiles) t ≡ Some v
    back is = elim (option-cases (node_at places t)) [
      | inl none ↦ absurd (found-not places t (find-place places t) none v is)
      | inr (u, found) ↦ (
          let same : u ≡ v = apart.apart u v t (found-is places t u (find-place places t) found) is in
          within (apart.inside v t is) ∙ found ∙ ap Some same)
    ]

-- ---- two layouts

module _ (N : Network) (g : FormGrid) (nodes : List (Option ℕ)) (L M : Layout) (of : IsLayoutOf N g nodes L) (too : IsLayoutOf N g nodes M) where
  on-first : (t : ℕ) → IsTile g.ratio t → IsTile L.ratio t
  on-first t h = subst (λ r. IsTile r t) of.forms.ratio h

  on-second : (t : ℕ) → IsTile g.ratio t → IsTile M.ratio t
  on-second t h = subst (λ r. IsTile r t) too.forms.ratio h

  same-source : (fuel t e f : ℕ) (side : Side) (one other : Edge) → t < fuel → IsTile g.ratio t → leaves L t side ≡ Some e → leaves M t side ≡ Some f → slice_get N.edges e ≡ Some one → slice_get N.edges f ≡ Some other → one.source ≡ other.source
  same-source zero t e f side one other few inside out leave is also = absurd (omega arith)
  same-source (suc fuel) t e f side one other few inside out leave is also = elim (option-cases (entry nodes t)) [
    | inr (v, at) ↦ begins-at N g nodes L of t v e side one at out is ∙ sym (begins-at N g nodes M too t v f side other at leave also)
    | inl none ↦ (
        let (form, from, u, has, p, over, less, before) = came-from N g nodes L of t e side (on-first t inside) out none in
        let (form_too, from_too, u_too, has_too, q, over_too, less_too, before_too) = came-from N g nodes M too t f side (on-second t inside) leave none in
        let both_forms : Some form_too ≡ Some form = sym has_too ∙ has in
        let forms : form_too ≡ form = cc in
        let sides : from_too ≡ from = one-source form side from_too from (subst (λ (x : ℕ). Passes x from_too side) forms q) p in
        let both_tiles : Some u_too ≡ Some u = sym over_too ∙ ap (above g.ratio t) sides ∙ over in
        let tiles : u_too ≡ u = cc in
        let there : leaves M u (opposite from) ≡ Some f = subst (λ (x : ℕ). leaves M x (opposite from) ≡ Some f) tiles (subst (λ (x : Side). leaves M u_too (opposite x) ≡ Some f) sides before_too) in
        same-source fuel u e f (opposite from) one other (omega arith) (omega arith) before there is also)
  ]

  same-target : (fuel t e f : ℕ) (side : Side) → tile_count g.ratio ≤ t + fuel → IsTile g.ratio t → leaves L t side ≡ Some e → leaves M t side ≡ Some f → target_of N e ≡ target_of N f
  same-target zero t e f side few inside out leave = absurd (omega arith)
  same-target (suc fuel) t e f side few inside out leave = elim (option-cases (below g.ratio t side)) [
    | inl off ↦ absurd (not-off N g nodes L of t e side (on-first t inside) out off)
    | inr (u, under) ↦ (
        let (come, less) = down-is N g nodes L of t e side (on-first t inside) out u under in
        let (come_too, less_too) = down-is N g nodes M too t f side (on-second t inside) leave u under in
        let tile = below-inside g.ratio t u side under in
        onward fuel u e f (opposite side) (omega arith) tile come come_too (same-target fuel))
  ]
    where
      onward : (fuel u e f : ℕ) (from : Side) → tile_count g.ratio ≤ u + fuel → IsTile g.ratio u → enters L u from ≡ Some e → enters M u from ≡ Some f →
          ((t e f : ℕ) (side : Side) → tile_count g.ratio ≤ t + fuel → IsTile g.ratio t → leaves L t side ≡ Some e → leaves M t side ≡ Some f → target_of N e ≡ target_of N f) → target_of N e ≡ target_of N f
      onward fuel u e f from few tile come also more = elim (option-cases (entry nodes u)) [
        | inr (v, at) ↦ sym (ends-at N g nodes L of u e from (on-first u tile) come v at) ∙ ends-at N g nodes M too u f from (on-second u tile) also v at
        | inl none ↦ elim (option-cases (form_at g u)) [
          | inl empty ↦ absurd (not-empty N g nodes L of u e from (on-first u tile) come empty)
          | inr (form, has) ↦ (
              let (s, p, leave) = goes-on N g nodes L of u e from (on-first u tile) come form none has in
              let (s_too, q, leave_too) = goes-on N g nodes M too u f from (on-second u tile) also form none has in
              let same : s_too ≡ s = one-exit form from (not-node N g nodes L of u e from (on-first u tile) come form none has) s_too s q p in
              more u e f s few tile leave (subst (λ (x : Side). leaves M u x ≡ Some f) same leave_too))
        ]
      ]

  sent : (t : ℕ) (side : Side) → IsTile g.ratio t → is_some (leaves L t side) ≡ is_some (leaves M t side)
  sent t side inside = sym (used L side (sends-on N g nodes L of t (on-first t inside))) ∙ used M side (sends-on N g nodes M too t (on-second t inside))
    where
      used : (K : Layout) (s : Side) → lower_in (form_at g t) ≡ lower_sides K t → is_used (lower_in (form_at g t)) s ≡ is_some (leaves K t s)
      used K Left e = ap (λ sides. is_used sides Left) e
      used K Right e = ap (λ sides. is_used sides Right) e

  twins : (t e f : ℕ) (side : Side) → IsTile g.ratio t → leaves L t side ≡ Some e → leaves M t side ≡ Some f → AreTwins N e f
  twins t e f side inside out leave =
      let one = got-at N.edges e (leaving-is N L of.legal.placed t e side out) in
      let other = got-at N.edges f (leaving-is N M too.legal.placed t f side leave) in
      let lead : target_of N e ≡ target_of N f = same-target (tile_count g.ratio) t e f side (omega arith) inside out leave in
      let targets : Some one.item.target ≡ Some other.item.target =
      sym (ap (λ (o : Option Edge). option_map (λ d. d.target) o) one.at) ∙ lead ∙ ap (λ (o : Option Edge). option_map (λ d. d.target) o) other.at in
      record {
        one = one.item;
        other = other.item;
        is_one = one.at;
        is_other = other.at;
        source = same-source (suc t) t e f side one.item other.item (omega arith) inside out leave one.at other.at;
        target = (let same : one.item.target ≡ other.item.target = cc in same);
      }

  differ : DifferByTwins N L M
  differ b = elim (cases_lt b (2 * tile_count g.ratio)) [
    | inl low ↦ (let (t, side, inside, at) = border-some g.ratio b low in subst Differs at (on-side t side inside))
    | inr past ↦ inl (bare L of past ∙ sym (bare M too past))
  ]
    where
      Differs : ℕ → Type 0
      Differs c = (edge_on L c ≡ edge_on M c) ⊎ ((e : ℕ) × (f : ℕ) × (edge_on L c ≡ Some e) × (edge_on M c ≡ Some f) × AreTwins N e f)

      bare : (K : Layout) → IsLayoutOf N g nodes K → 2 * tile_count g.ratio ≤ b → edge_on K b ≡ None
      bare K is past =
          let whole = is.legal.placed.borders in
          let same = ap tile_count is.forms.ratio in
          get_or_past K.borders b None (omega (arith, whole, same))

      on-side : (t : ℕ) (side : Side) → IsTile g.ratio t → Differs (border t side)
      on-side t side inside = elim (option-cases (leaves L t side)) [
        | inl none ↦ elim (option-cases (leaves M t side)) [
          | inl also ↦ inl (none ∙ sym also)
          | inr (f, leave) ↦ (let both : false ≡ true = sym (ap is_some none) ∙ sent t side inside ∙ ap is_some leave in absurd (cc))
        ]
        | inr (e, out) ↦ elim (option-cases (leaves M t side)) [
          | inl none ↦ (let both : true ≡ false = sym (ap is_some out) ∙ sent t side inside ∙ ap is_some none in absurd (cc))
          | inr (f, leave) ↦ inr (e, f, out, leave, twins t e f side inside out leave)
        ]
      ]

pub differ-by-twins : (N : Network) (g : FormGrid) (L M : Layout) → IsNetwork N → L.places ≡ M.places → IsLegalWith N L g → IsLegalWith N M g → DifferByTwins N L M
differ-by-twins N g L M network same one other =
    let tiles = tile_count L.ratio in
    let nodes = nodes_of L.places tiles in
    let at : AreNodesAt L.places nodes = nodes-at L.places tiles (record { inside = one.legal.placed.inside; apart = one.legal.placed.apart }) in
    differ N g nodes L M (record { network = network; legal = one.legal; forms = one.forms; nodes_are = at })
    (record { network = network; legal = other.legal; forms = other.forms; nodes_are = subst (λ (ps : List ℕ). AreNodesAt ps nodes) same at })
