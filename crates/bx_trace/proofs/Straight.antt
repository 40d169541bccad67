-- Of the layouts with a form grid and places there is one in which no fan's two edges to one node are crossed.
use Rattle.std.proofs.Common.{◌≡◌, ℕ, zero, suc, ◌<◌, ◌==◌, Bool, true, false, ◌&&◌, nat_lt, length, get_or, slice_get, Option, Some, None, inl, inr, refl, sym, ap, ap₂, ◌∙◌, subst, arith, eqb-true, eq-eqb, lt-ltb, ltb-true}
use Rattle.std.specs.Prelude.{option_map, if◌then◌else◌}
use Rattle.std.proofs.lemmas.Bool.{cases_Bool, and_parts}
use Rattle.std.proofs.lemmas.Option.{get_or_from_slice_get}
use Rattle.bx_forms.specs.declared.kind.Kind.{Kind}
use Rattle.bx_forms.specs.declared.side.Side.TheVariants.{Left}
use Rattle.bx_forms.specs.Kinds.{slots}
use Rattle.bx_network.specs.declared.node.Node.{Node}
use Rattle.bx_network.specs.declared.node.Edge.{Edge}
use Rattle.bx_network.specs.Networks.{Network, IsNetwork, HasSlot, leaves_by}
use Rattle.bx_network.specs.Values.{edge_out}
use Rattle.bx_network.proofs.Lists.{IsOnly, got-at}
use Rattle.bx_network.proofs.Networks.{slots-few, edge-leaves, leaves-says, leaves-itself, has-slot}
use Rattle.bx_logic.proofs.Lists.{get-once}
use Rattle.bx_layout.specs.declared.layout.Layout.{Layout}
use Rattle.bx_layout.specs.Layouts.{leaves}
use Rattle.bx_layout.specs.Legal.{IsLegal}
use Rattle.bx_layout.specs.Permits.{all_forms}
use Rattle.bx_layout.proofs.Balances.{leaving-is}
use Rattle.bx_layout.proofs.Edges.{begins-here}
use Rattle.bx_trace.specs.Known.{target_of, IsStraight}
use Rattle.bx_trace.specs.Twins.{AreTwins}
use Rattle.bx_trace.proofs.Relabelled.{unmapped, relabelled, new-leaves}

-- ---- tests

abbrev same_option : Option ℕ → Option ℕ → Bool
same_option None None = true
same_option None (Some n) = false
same_option (Some m) None = false
same_option (Some m) (Some n) = m == n

same-told : (o p : Option ℕ) → same_option o p ≡ true → o ≡ p
same-told None None h = refl
same-told None (Some n) h = absurd (cc)
same-told (Some m) None h = absurd (cc)
same-told (Some m) (Some n) h = ap Some (eqb-true m n h)

same-itself : (o : Option ℕ) → same_option o o ≡ true
same-itself None = refl
same-itself (Some m) = eq-eqb m m refl

abbrev is_fan : Option Node → Bool
is_fan None = false
is_fan (Some node) = nat_lt 1 (slots node.kind)

fan-told : (N : Network) (v : ℕ) (o : Option Node) → slice_get N.nodes v ≡ o → is_fan o ≡ true → HasSlot N v 1
fan-told N v None is h = absurd (cc)
fan-told N v (Some node) is h = (node.kind, (node, is, refl), ltb-true 1 (slots node.kind) h)

fan-is : (N : Network) (v : ℕ) → HasSlot N v 1 → is_fan (slice_get N.nodes v) ≡ true
fan-is N v (kind, (node, is, same), low) = ap is_fan is ∙ ap (λ (k : Kind). nat_lt 1 (slots k)) same ∙ lt-ltb 1 (slots kind) low

-- the other one of two slots
abbrev other_slot : ℕ → ℕ
other_slot zero = 1
other_slot (suc n) = 0

other-other : (s : ℕ) → s < 2 → other_slot (other_slot s) ≡ s
other-other zero low = refl
other-other (suc zero) low = refl
other-other (suc (suc n)) low = absurd (omega arith)

other-low : (s : ℕ) → other_slot s < 2
other-low zero = omega arith
other-low (suc n) = omega arith

-- ---- what is exchanged

module _ (N : Network) (L : Layout) (network : IsNetwork N) (legal : IsLegal N all_forms L) where
  -- both edges of a fan lead to one node, and that of slot 1 leaves on the left
  abbrev leads_to_one : ℕ → Bool
  leads_to_one v = same_option (target_of N (edge_out N.edges v 0)) (target_of N (edge_out N.edges v 1))

  abbrev is_crossed : ℕ → Bool
  is_crossed v = same_option (leaves L (get_or L.places v 0) Left) (Some (edge_out N.edges v 1))

  abbrev swaps : ℕ → Bool
  swaps v = is_fan (slice_get N.nodes v) && (leads_to_one v && is_crossed v)

  abbrev partner_by : Option Edge → ℕ → ℕ
  partner_by None e = e
  partner_by (Some edge) e = if swaps edge.source then edge_out N.edges edge.source (other_slot edge.slot) else e

  abbrev pub partner : ℕ → ℕ
  partner e = partner_by (slice_get N.edges e) e

  record Swaps (v : ℕ) : Type 0 where
    fan : HasSlot N v 1
    to_one : target_of N (edge_out N.edges v 0) ≡ target_of N (edge_out N.edges v 1)
    crossed : leaves L (get_or L.places v 0) Left ≡ Some (edge_out N.edges v 1)

  swaps-told : (v : ℕ) → swaps v ≡ true → Swaps v
  swaps-told v h =
      let a = and_parts (is_fan (slice_get N.nodes v)) (leads_to_one v && is_crossed v) h in
      let b = and_parts (leads_to_one v) (is_crossed v) a.1 in
      record {
        fan = fan-told N v (slice_get N.nodes v) refl a.0;
        to_one = same-told (target_of N (edge_out N.edges v 0)) (target_of N (edge_out N.edges v 1)) b.0;
        crossed = same-told (leaves L (get_or L.places v 0) Left) (Some (edge_out N.edges v 1)) b.1;
      }

  swaps-is : (v : ℕ) → Swaps v → swaps v ≡ true
  swaps-is v s =
      ap₂ (λ (a b : Bool). a && (b && is_crossed v)) (fan-is N v s.fan)
      (ap (λ o. same_option o (target_of N (edge_out N.edges v 1))) s.to_one ∙ same-itself (target_of N (edge_out N.edges v 1)))
      ∙ ap (λ o. same_option o (Some (edge_out N.edges v 1))) s.crossed
      ∙ same-itself (Some (edge_out N.edges v 1))

  kept : (e : ℕ) (edge : Edge) → slice_get N.edges e ≡ Some edge → swaps edge.source ≡ false → partner e ≡ e
  kept e edge is doesnt = ap (λ o. partner_by o e) is ∙ ap (λ (b : Bool). if b then edge_out N.edges edge.source (other_slot edge.slot) else e) doesnt

  swapped : (e : ℕ) (edge : Edge) → slice_get N.edges e ≡ Some edge → swaps edge.source ≡ true → partner e ≡ edge_out N.edges edge.source (other_slot edge.slot)
  swapped e edge is does = ap (λ o. partner_by o e) is ∙ ap (λ (b : Bool). if b then edge_out N.edges edge.source (other_slot edge.slot) else e) does

  -- ---- the two edges of a fan

  module _ (v : ℕ) (fan : HasSlot N v 1) where
    by : (slot : ℕ) → slot < 2 → IsOnly (leaves_by v slot) N.edges
    by slot low = let (kind, has, more) = fan in edge-leaves N network v kind has slot (let few = slots-few kind in omega arith)

    by-slot : (slot : ℕ) (low : slot < 2) → ((by slot low).item.source ≡ v) × ((by slot low).item.slot ≡ slot)
    by-slot slot low = let only = by slot low in leaves-says v slot only.item only.passes

    -- an edge that leaves it is one of the two
    own : (e : ℕ) (edge : Edge) → slice_get N.edges e ≡ Some edge → edge.source ≡ v → (edge.slot < 2) × (e ≡ edge_out N.edges v edge.slot)
    own e edge is from =
        let (kind, has, low) = has-slot N network e edge is in
        let few = slots-few kind in
        let less : edge.slot < 2 = omega arith in
        let passes = ap (λ u. leaves_by u edge.slot edge) (sym from) ∙ leaves-itself edge in
        (less, (by edge.slot less).only e edge is passes)

    two-apart : edge_out N.edges v 0 ≡ edge_out N.edges v 1 → ⊥
    two-apart same =
        let low : 0 < 2 = omega arith in
        let high : 1 < 2 = omega arith in
        let zeroth = by 0 low in
        let first = by 1 high in
        let one = get-once N.edges (edge_out N.edges v 1) zeroth.item first.item (sym (ap (slice_get N.edges) same) ∙ zeroth.at) first.at in
        let p = (by-slot 0 low).1 in
        let q = (by-slot 1 high).1 in
        let r : zeroth.item.slot ≡ first.item.slot = ap (λ (d : Edge). d.slot) one in
        omega arith

    target-is : (slot : ℕ) (low : slot < 2) → target_of N (edge_out N.edges v slot) ≡ Some (by slot low).item.target
    target-is slot low = ap (λ (o : Option Edge). option_map (λ d. d.target) o) (by slot low).at

    same-target : target_of N (edge_out N.edges v 0) ≡ target_of N (edge_out N.edges v 1) → (s : ℕ) → s < 2 → target_of N (edge_out N.edges v s) ≡ target_of N (edge_out N.edges v (other_slot s))
    same-target one zero low = one
    same-target one (suc zero) low = sym one
    same-target one (suc (suc n)) low = absurd (omega arith)

    exchanged : target_of N (edge_out N.edges v 0) ≡ target_of N (edge_out N.edges v 1) → swaps v ≡ true → (e : ℕ) (edge : Edge) → slice_get N.edges e ≡ Some edge → edge.source ≡ v → AreTwins N e (partner e) × (partner (partner e) ≡ e)
    exchanged one does e edge is from =
        let (low, at) = own e edge is from in
        let next = other-low edge.slot in
        let other = by (other_slot edge.slot) next in
        let says = by-slot (other_slot edge.slot) next in
        let there : partner e ≡ edge_out N.edges v (other_slot edge.slot) = swapped e edge is (ap swaps from ∙ does) ∙ ap (λ u. edge_out N.edges u (other_slot edge.slot)) from in
        let found : slice_get N.edges (partner e) ≡ Some other.item = ap (slice_get N.edges) there ∙ other.at in
        let targets : Some edge.target ≡ Some other.item.target =
        sym (ap (λ (o : Option Edge). option_map (λ d. d.target) o) is) ∙ ap (target_of N) at ∙ same-target one edge.slot low ∙ target-is (other_slot edge.slot) next in (
          record {
            one = edge;
            other = other.item;
            is_one = is;
            is_other = found;
            source = from ∙ sym says.0;
            target = (let same : edge.target ≡ other.item.target = cc in same);
          },
          swapped (partner e) other.item found (ap swaps says.0 ∙ does)
              ∙ ap₂ (λ u s. edge_out N.edges u (other_slot s)) says.0 says.1
              ∙ ap (edge_out N.edges v) (other-other edge.slot low)
              ∙ sym at,
        )

  twins-itself : (e : ℕ) (edge : Edge) → slice_get N.edges e ≡ Some edge → AreTwins N e e
  twins-itself e edge is = record { one = edge; other = edge; is_one = is; is_other = is; source = refl; target = refl }

  partner-cases : (e : ℕ) → e < length N.edges → AreTwins N e (partner e) × (partner (partner e) ≡ e)
  partner-cases e h =
      let edge = got-at N.edges e h in
      elim (cases_Bool (swaps edge.item.source)) [
        | inl does ↦ (let s = swaps-told edge.item.source does in exchanged edge.item.source s.fan s.to_one does e edge.item edge.at refl)
        | inr doesnt ↦ (
            let same = kept e edge.item edge.at doesnt in
            (subst (AreTwins N e) (sym same) (twins-itself e edge.item edge.at), ap partner same ∙ same))
      ]

  pub partner-twins : (e : ℕ) → e < length N.edges → AreTwins N e (partner e)
  partner-twins e h = (partner-cases e h).0

  pub partner-back : (e : ℕ) → e < length N.edges → partner (partner e) ≡ e
  partner-back e h = (partner-cases e h).1

  -- ---- no fan is crossed then

  pub straightened : IsStraight N (relabelled N L legal partner partner-twins partner-back)
  straightened v t fan stands one out =
      let (m, was, new) = unmapped partner (leaves L t Left) (edge_out N.edges v 1) (sym (new-leaves N L legal partner partner-twins partner-back t Left) ∙ out) in
      let edge = got-at N.edges m (leaving-is N L legal.placed t m Left was) in
      let (kind, (node, is, same), low) = fan in
      let from = begins-here N all_forms L network legal v node is t stands Left m edge.item was edge.at in
      let here : get_or L.places v 0 ≡ t = get_or_from_slice_get L.places v t 0 stands in
      elim (cases_Bool (swaps v)) [
        | inl does ↦ (
            let s = swaps-told v does in
            let crossed : leaves L t Left ≡ Some (edge_out N.edges v 1) = ap (λ u. leaves L u Left) (sym here) ∙ s.crossed in
            let both : Some m ≡ Some (edge_out N.edges v 1) = sym was ∙ crossed in
            let first : m ≡ edge_out N.edges v 1 = cc in
            two-apart v fan (first-is does ∙ ap partner (sym first) ∙ new))
        | inr doesnt ↦ (
            let keep : partner m ≡ m = kept m edge.item edge.at (ap swaps from ∙ doesnt) in
            let crossed : leaves L (get_or L.places v 0) Left ≡ Some (edge_out N.edges v 1) = ap (λ u. leaves L u Left) here ∙ was ∙ ap Some (sym keep ∙ new) in
            let does = swaps-is v (record { fan = fan; to_one = one; crossed = crossed }) in
            let both : false ≡ true = sym doesnt ∙ does in
            cc)
      ]
    where
      -- the edge of slot 1 has that of slot 0 as its partner
      first-is : swaps v ≡ true → edge_out N.edges v 0 ≡ partner (edge_out N.edges v 1)
      first-is does =
          let high : 1 < 2 = omega arith in
          let only = by v fan 1 high in
          let says = by-slot v fan 1 high in
          sym (swapped (edge_out N.edges v 1) only.item only.at (ap swaps says.0 ∙ does) ∙ ap₂ (λ u s. edge_out N.edges u (other_slot s)) says.0 says.1)
