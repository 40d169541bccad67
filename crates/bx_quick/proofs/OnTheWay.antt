-- The lanes hold exactly the edges on their way: those whose source has had its turn and whose target hasn't.
-- A node's turn takes the edges into it from the lanes, and puts there those that leave it.
use Rattle.std.proofs.Common.{◌≡◌, ◌≢◌, ℕ, ◌+◌, ◌-◌, ◌<◌, ◌≤◌, ◌⊎◌, true, List, ◌++◌, length, take, set, Some, inl, inr, refl, sym, ap, ◌∙◌, subst, arith}
use Rattle.std.specs.Prelude.{swap, slice_get}
use Rattle.std.proofs.Common.{length-append, get_or-set_other, get_or-set_same}
use Rattle.std.proofs.lemmas.Bool.{cases_lt, cases_eq}
use Rattle.std.proofs.lemmas.List.{length-set, length-take-le, get_or_append_left, get_or-append_right, get_or-take}
use Rattle.std.proofs.lemmas.List.Edits.{swapped_from_swap, length-swap}
use Rattle.bx_forms.specs.declared.kind.Kind.{Kind}
use Rattle.bx_forms.specs.declared.kind.Kind.TheVariants.{Input, Output}
use Rattle.bx_forms.specs.Kinds.{operands, slots}
use Rattle.bx_network.specs.declared.node.Edge.{Edge}
use Rattle.bx_network.specs.Networks.{Network, IsNetwork, HasKind, leaves_by, enters_by}
use Rattle.bx_network.specs.Values.{edge_into, edge_out}
use Rattle.bx_network.proofs.Lists.{IsOnly}
use Rattle.bx_network.proofs.Networks.{kind-once, edge-leaves, edge-enters, leaves-itself, enters-itself, leaves-says, enters-says, slot-within, operand-within, goes-forward}
use Rattle.bx_quick.proofs.LaneRuns.{edge_on, IsKept}

-- the node has had its turn, or needs none
abbrev pub HasBegun : Network → ℕ → ℕ → Type 0
HasBegun N v u = (u < v) ⊎ HasKind N u Input

-- once the nodes before v have had their turn, this edge is on its way
pub record IsOnItsWay (N : Network) (v e : ℕ) : Type 0 where
  pub edge : Edge
  pub at : slice_get N.edges e ≡ Some edge
  pub begun : HasBegun N v edge.source
  pub waits : edge.target < v → HasKind N edge.target Output

pub record AreOnTheirWay (N : Network) (v : ℕ) (lanes : List ℕ) : Type 0 where
  pub once : (i j : ℕ) → i < length lanes → j < length lanes → edge_on lanes i ≡ edge_on lanes j → i ≡ j
  pub only : (i : ℕ) → i < length lanes → IsOnItsWay N v (edge_on lanes i)
  pub all : (e : ℕ) → IsOnItsWay N v e → (i : ℕ) × (i < length lanes) × (edge_on lanes i ≡ e)

-- ---- an exchange keeps them

record Turned (lanes : List ℕ) (x i : ℕ) : Type 0 where
  to : ℕ
  low : to < length lanes
  is : edge_on (swap lanes x (x + 1)) i ≡ edge_on lanes to
  back : edge_on (swap lanes x (x + 1)) to ≡ edge_on lanes i

turned : (lanes : List ℕ) (x : ℕ) → x + 1 < length lanes → (i : ℕ) → i < length lanes → Turned lanes x i
turned lanes x h i low =
    let swapped = swapped_from_swap lanes (swap lanes x (x + 1)) x (x + 1) 0 (omega arith) h refl in
    elim (cases_eq i x) [
      | inl at ↦ record { to = x + 1; low = h; is = ap (edge_on (swap lanes x (x + 1))) at ∙ swapped.0; back = swapped.1 ∙ sym (ap (edge_on lanes) at) }
      | inr ne ↦ elim (cases_eq i (x + 1)) [
        | inl at ↦ record { to = x; low = omega arith; is = ap (edge_on (swap lanes x (x + 1))) at ∙ swapped.1; back = swapped.0 ∙ sym (ap (edge_on lanes) at) }
        | inr other ↦ record { to = i; low = low; is = swapped.2 i ne other; back = swapped.2 i ne other }
      ]
    ]

pub on-their-way-kept : (N : Network) (v : ℕ) → IsKept (AreOnTheirWay N v)
on-their-way-kept N v lanes x h way = record {
  once = λ i j p q e. let l = same in once i j (omega arith) (omega arith) e;
  only = λ i p. let l = same in let t = turned lanes x h i (omega arith) in subst (IsOnItsWay N v) (sym t.is) (way.only t.to t.low);
  all = λ e is.
      let there = way.all e is in
      let t = turned lanes x h there.0 there.1 in
      let low = t.low in
      let l = same in
      (t.to, (let k : t.to < length (swap lanes x (x + 1)) = omega arith in k), t.back ∙ there.2);
}
  where
    same : length (swap lanes x (x + 1)) ≡ length lanes
    same = length-swap lanes x (x + 1)

    once : (i j : ℕ) → i < length lanes → j < length lanes → edge_on (swap lanes x (x + 1)) i ≡ edge_on (swap lanes x (x + 1)) j → i ≡ j
    once i j p q e =
        let s = turned lanes x h i p in
        let t = turned lanes x h j q in
        let one : s.to ≡ t.to = way.once s.to t.to s.low t.low (sym s.is ∙ e ∙ t.is) in
        way.once i j p q (sym s.back ∙ ap (edge_on (swap lanes x (x + 1))) one ∙ t.back)

-- ---- a node's turn

module _ (N : Network) (net : IsNetwork N) (v : ℕ) (kind : Kind) (has : HasKind N v kind) (no_input : kind ≢ Input) (no_output : kind ≢ Output) where
  pub entering : (o : ℕ) → o < operands kind → IsOnly (enters_by v o) N.edges
  entering o h = edge-enters N net v kind has o h

  pub leaving : (s : ℕ) → s < slots kind → IsOnly (leaves_by v s) N.edges
  leaving s h = edge-leaves N net v kind has s h

  not-input : HasKind N v Input → ⊥
  not-input other = no_input (kind-once N v kind Input has other)

  not-output : HasKind N v Output → ⊥
  not-output other = no_output (kind-once N v kind Output has other)

  -- an edge into the node is on its way when the node's turn comes
  pub into-waits : (o : ℕ) → o < operands kind → IsOnItsWay N v (edge_into N.edges v o)
  into-waits o h =
      let one = entering o h in
      let says = enters-says v o one.item one.passes in
      let forward = goes-forward N net (edge_into N.edges v o) one.item one.at in
      let ahead = forward.forward in
      let target = says.0 in
      record {
        edge = one.item;
        at = one.at;
        begun = inl (omega arith);
        waits = λ past. absurd (omega arith);
      }

  -- an edge that leaves the node isn't
  out-new : (s : ℕ) → s < slots kind → IsOnItsWay N v (edge_out N.edges v s) → ⊥
  out-new s h way =
      let one = leaving s h in
      let says = leaves-says v s one.item one.passes in
      let both : Some way.edge ≡ Some one.item = sym way.at ∙ one.at in
      let edges : way.edge ≡ one.item = cc in
      let source : way.edge.source ≡ v = ap (λ (e : Edge). e.source) edges ∙ says.0 in
      elim way.begun [
        | inl past ↦ omega arith
        | inr input ↦ not-input (subst (λ u. HasKind N u Input) source input)
      ]

  pub out-once : (s r : ℕ) → s < slots kind → r < slots kind → edge_out N.edges v s ≡ edge_out N.edges v r → s ≡ r
  out-once s r h k e =
      let one = leaving s h in
      let two = leaving r k in
      let both : Some one.item ≡ Some two.item = sym one.at ∙ ap (slice_get N.edges) e ∙ two.at in
      let edges : one.item ≡ two.item = cc in
      sym (leaves-says v s one.item one.passes).1 ∙ ap (λ (x : Edge). x.slot) edges ∙ (leaves-says v r two.item two.passes).1

  pub into-once : (o p : ℕ) → o < operands kind → p < operands kind → edge_into N.edges v o ≡ edge_into N.edges v p → o ≡ p
  into-once o p h k e =
      let one = entering o h in
      let two = entering p k in
      let both : Some one.item ≡ Some two.item = sym one.at ∙ ap (slice_get N.edges) e ∙ two.at in
      let edges : one.item ≡ two.item = cc in
      sym (enters-says v o one.item one.passes).1 ∙ ap (λ (x : Edge). x.operand) edges ∙ (enters-says v p two.item two.passes).1

  abbrev pub IsNotInto : ℕ → Type 0
  IsNotInto e = (o : ℕ) → o < operands kind → e ≡ edge_into N.edges v o → ⊥

  -- the lanes before and behind the node's turn
  pub record Replaced (before after : List ℕ) : Type 0 where
    pub each : (j : ℕ) → j < length after →
        ((i : ℕ) × (i < length before) × (edge_on after j ≡ edge_on before i) × IsNotInto (edge_on before i)) ⊎
        ((s : ℕ) × (s < slots kind) × (edge_on after j ≡ edge_out N.edges v s))
    pub keeps : (i : ℕ) → i < length before → IsNotInto (edge_on before i) → (j : ℕ) × (j < length after) × (edge_on after j ≡ edge_on before i)
    pub gives : (s : ℕ) → s < slots kind → (j : ℕ) × (j < length after) × (edge_on after j ≡ edge_out N.edges v s)
    pub once : (i j : ℕ) → i < length after → j < length after → edge_on after i ≡ edge_on after j → i ≡ j

  -- an edge that isn't into the node stays on its way
  still : (e : ℕ) → IsNotInto e → IsOnItsWay N v e → IsOnItsWay N (v + 1) e
  still e apart way = record {
    edge = way.edge;
    at = way.at;
    begun = elim way.begun [ inl past ↦ inl (omega arith) | inr input ↦ inr input ];
    waits = λ past. elim (cases_lt way.edge.target v) [
      | inl before ↦ way.waits before
      | inr here ↦ (
          let same : way.edge.target ≡ v = omega arith in
          let low = operand-within N net e way.edge way.at kind (subst (λ u. HasKind N u kind) (sym same) has) in
          let passes = subst (λ u. enters_by u way.edge.operand way.edge ≡ true) same (enters-itself way.edge) in
          absurd (apart way.edge.operand low ((entering way.edge.operand low).only e way.edge way.at passes)))
    ];
  }

  new : (s : ℕ) → s < slots kind → IsOnItsWay N (v + 1) (edge_out N.edges v s)
  new s h =
      let one = leaving s h in
      let says = leaves-says v s one.item one.passes in
      let forward = goes-forward N net (edge_out N.edges v s) one.item one.at in
      let ahead = forward.forward in
      let source = says.0 in
      record {
        edge = one.item;
        at = one.at;
        begun = inl (omega arith);
        waits = λ past. absurd (omega arith);
      }

  pub turn : (before after : List ℕ) → AreOnTheirWay N v before → Replaced before after → AreOnTheirWay N (v + 1) after
  turn before after way r = record {
    once = r.once;
    only = λ j h. elim (r.each j h) [
      | inl (i, low, is, apart) ↦ subst (IsOnItsWay N (v + 1)) (sym is) (still (edge_on before i) apart (way.only i low))
      | inr (s, low, is) ↦ subst (IsOnItsWay N (v + 1)) (sym is) (new s low)
    ];
    all = all;
  }
    where
      old : (e : ℕ) → IsOnItsWay N (v + 1) e → IsOnItsWay N v e → (j : ℕ) × (j < length after) × (edge_on after j ≡ e)
      old e later now =
          let there = way.all e now in
          let kept = r.keeps there.0 there.1 (λ o low is.
          let one = entering o low in
          let both : Some later.edge ≡ Some one.item = sym later.at ∙ ap (slice_get N.edges) (sym there.2 ∙ is) ∙ one.at in
          let edges : later.edge ≡ one.item = cc in
          let target : later.edge.target ≡ v = ap (λ (x : Edge). x.target) edges ∙ (enters-says v o one.item one.passes).0 in
          not-output (subst (λ u. HasKind N u Output) target (later.waits (omega arith)))) in
          (kept.0, kept.1, kept.2 ∙ there.2)

      earlier : (e : ℕ) (way_on : IsOnItsWay N (v + 1) e) → HasBegun N v way_on.edge.source → IsOnItsWay N v e
      earlier e later begun = record { edge = later.edge; at = later.at; begun = begun; waits = λ past. later.waits (omega arith) }

      all : (e : ℕ) → IsOnItsWay N (v + 1) e → (j : ℕ) × (j < length after) × (edge_on after j ≡ e)
      all e later = elim later.begun [
        | inr input ↦ old e later (earlier e later (inr input))
        | inl past ↦ elim (cases_lt later.edge.source v) [
          | inl low ↦ old e later (earlier e later (inl low))
          | inr here ↦ (
              let same : later.edge.source ≡ v = omega arith in
              let low = slot-within N net e later.edge later.at kind (subst (λ u. HasKind N u kind) (sym same) has) in
              let passes = subst (λ u. leaves_by u later.edge.slot later.edge ≡ true) same (leaves-itself later.edge) in
              let is : e ≡ edge_out N.edges v later.edge.slot = (leaving later.edge.slot low).only e later.edge later.at passes in
              let there = r.gives later.edge.slot low in
              (there.0, there.1, there.2 ∙ sym is))
        ]
      ]

  -- ---- the last lanes are replaced

  module _ (before : List ℕ) (way : AreOnTheirWay N v before) (n : ℕ) (outs : List ℕ) (size : n + operands kind ≡ length before) (full : length outs ≡ slots kind)
      (taken : (z : ℕ) → n ≤ z → z < length before → (o : ℕ) × (o < operands kind) × (edge_on before z ≡ edge_into N.edges v o))
      (held : (o : ℕ) → o < operands kind → (z : ℕ) × (n ≤ z) × (z < length before) × (edge_on before z ≡ edge_into N.edges v o))
      (given : (s : ℕ) → s < slots kind → edge_on outs s ≡ edge_out N.edges v s) where
    abbrev after : List ℕ
    after = take n before ++ outs

    front : length (take n before) ≡ n
    front = length-take-le n before (omega arith)

    whole : length after ≡ n + slots kind
    whole = let a = length-append (take n before) outs in let b = front in omega arith

    pub first-lanes : (j : ℕ) → j < n → edge_on after j ≡ edge_on before j
    first-lanes j h = let b = front in get_or_append_left (take n before) outs 0 j (omega arith) ∙ get_or-take n before j 0 h

    pub last-lanes : (s : ℕ) → s < slots kind → edge_on after (n + s) ≡ edge_out N.edges v s
    last-lanes s h =
        get_or-append_right (take n before) outs n (n + s) 0 front (omega arith)
        ∙ ap (edge_on outs) (let e : n + s - n ≡ s = omega arith in e)
        ∙ given s h

    apart : (i : ℕ) → i < n → IsNotInto (edge_on before i)
    apart i h o low is =
        let there = held o low in
        let same : i ≡ there.0 = way.once i there.0 (omega arith) there.2 (is ∙ sym there.3) in
        let past = there.1 in
        omega arith

    mixed : (i s : ℕ) → i < n → s < slots kind → edge_on before i ≡ edge_out N.edges v s → ⊥
    mixed i s h low is = out-new s low (subst (IsOnItsWay N v) is (way.only i (omega arith)))

    where-is : (j : ℕ) → j < length after → ((j < n) × (edge_on after j ≡ edge_on before j)) ⊎ ((s : ℕ) × (s < slots kind) × (n + s ≡ j) × (edge_on after j ≡ edge_out N.edges v s))
    where-is j h = elim (cases_lt j n) [
      | inl low ↦ inl (low, first-lanes j low)
      | inr past ↦ (
          let b = whole in
          let low : j - n < slots kind = omega arith in
          let at : n + (j - n) ≡ j = omega arith in
          inr (j - n, low, at, ap (edge_on after) (sym at) ∙ last-lanes (j - n) low))
    ]

    once : (i j : ℕ) → i < length after → j < length after → edge_on after i ≡ edge_on after j → i ≡ j
    once i j p q e = elim (where-is i p) [
      | inl (low, is) ↦ elim (where-is j q) [
        | inl (more, there) ↦ way.once i j (omega arith) (omega arith) (sym is ∙ e ∙ there)
        | inr (s, h, at, there) ↦ absurd (mixed i s low h (sym is ∙ e ∙ there))
      ]
      | inr (r, k, place, is) ↦ elim (where-is j q) [
        | inl (more, there) ↦ absurd (mixed j r more k (sym there ∙ sym e ∙ is))
        | inr (s, h, at, there) ↦ (let same : r ≡ s = out-once r s k h (sym is ∙ e ∙ there) in omega arith)
      ]
    ]

    pub replaced-last : Replaced before after
    replaced-last = record {
      each = λ j h. elim (where-is j h) [
        | inl (low, is) ↦ inl (j, omega arith, is, apart j low)
        | inr (s, low, at, is) ↦ inr (s, low, is)
      ];
      keeps = λ i h free. elim (cases_lt i n) [
        | inl low ↦ (let b = whole in (i, omega arith, first-lanes i low))
        | inr past ↦ (let there = taken i past h in absurd (free there.0 there.1 there.2))
      ];
      gives = λ s h. let b = whole in (n + s, omega arith, last-lanes s h);
      once = once;
    }

  -- ---- one lane is replaced

  module _ (before : List ℕ) (way : AreOnTheirWay N v before) (i : ℕ) (low : i < length before) (single : operands kind ≡ 1) (one : slots kind ≡ 1) (is : edge_on before i ≡ edge_into N.edges v 0) where
    abbrev changed : List ℕ
    changed = set before i (edge_out N.edges v 0)

    same : length changed ≡ length before
    same = length-set before i (edge_out N.edges v 0)

    at-lane : edge_on changed i ≡ edge_out N.edges v 0
    at-lane = get_or-set_same before i (edge_out N.edges v 0) 0 low

    beside : (j : ℕ) → j ≢ i → edge_on changed j ≡ edge_on before j
    beside j ne = get_or-set_other before i j (edge_out N.edges v 0) 0 ne

    others : (j : ℕ) → j < length before → j ≢ i → IsNotInto (edge_on before j)
    others j h ne o small e =
        let first : o ≡ 0 = omega arith in
        ne (way.once j i h low (e ∙ ap (edge_into N.edges v) first ∙ sym is))

    fresh : (j : ℕ) → j < length before → edge_on before j ≡ edge_out N.edges v 0 → ⊥
    fresh j h e = out-new 0 (omega arith) (subst (IsOnItsWay N v) e (way.only j h))

    once-changed : (a b : ℕ) → a < length changed → b < length changed → edge_on changed a ≡ edge_on changed b → a ≡ b
    once-changed a b p q e =
        let l = same in
        elim (cases_eq a i) [
          | inl here ↦ elim (cases_eq b i) [
            | inl there ↦ here ∙ sym there
            | inr ne ↦ absurd (fresh b (omega arith) (sym (beside b ne) ∙ sym e ∙ ap (edge_on changed) here ∙ at-lane))
          ]
          | inr ne ↦ elim (cases_eq b i) [
            | inl there ↦ absurd (fresh a (omega arith) (sym (beside a ne) ∙ e ∙ ap (edge_on changed) there ∙ at-lane))
            | inr other ↦ way.once a b (omega arith) (omega arith) (sym (beside a ne) ∙ e ∙ beside b other)
          ]
        ]

    pub replaced-one : Replaced before changed
    replaced-one = record {
      each = λ j h. elim (cases_eq j i) [
        | inl here ↦ inr (0, (let s : 0 < slots kind = omega arith in s), ap (edge_on changed) here ∙ at-lane)
        | inr ne ↦ (let l = same in inl (j, (let k : j < length before = omega arith in k), beside j ne, others j (omega arith) ne))
      ];
      keeps = λ j h free. elim (cases_eq j i) [
        | inl here ↦ absurd (free 0 (omega arith) (ap (edge_on before) here ∙ is))
        | inr ne ↦ (let l = same in (j, (let k : j < length changed = omega arith in k), beside j ne))
      ];
      gives = λ s h. (let l = same in let first : 0 ≡ s = omega arith in (i, (let k : i < length changed = omega arith in k), at-lane ∙ ap (edge_out N.edges v) first));
      once = once-changed;
    }
