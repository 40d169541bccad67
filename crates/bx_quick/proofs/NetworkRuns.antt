-- The operations of a network lead from the edges of its inputs to those of its outputs, so its grid is
-- sound.
use Rattle.std.proofs.Common.{◌≡◌, ℕ, zero, suc, ◌+◌, ◌<◌, ◌≤◌, Bool, true, false, List, [], ◌∷◌, length, Some, inl, inr, refl, sym, ap, ◌∙◌, subst, arith}
use Rattle.std.specs.Prelude.{slice_get, if◌then◌else◌}
use Rattle.std.proofs.lemmas.Bool.{cases_eq, cases_Bool}
use Rattle.bx_forms.specs.declared.kind.Kind.{Kind}
use Rattle.bx_forms.specs.declared.kind.Kind.TheVariants.{Input, Output, Not, Fan, And, Or, Nand, Nor, Xor, Xnor}
use Rattle.bx_forms.specs.Kinds.{operands}
use Rattle.bx_layout.specs.Grids.{IsSound}
use Rattle.bx_layout.specs.Valuations.{is_input}
use Rattle.bx_network.specs.declared.node.Node.{Node}
use Rattle.bx_network.specs.declared.node.Edge.{Edge}
use Rattle.bx_network.specs.Networks.{Network, IsNetwork, HasKind, leaves_by}
use Rattle.bx_network.specs.Values.{edge_out, IsValuation}
use Rattle.bx_network.proofs.Networks.{kind-at, kind-once, kind-within, operands-none, edge-leaves, edge-enters, leaves-itself, leaves-says, enters-says, slot-within, goes-forward}
use Rattle.bx_network.proofs.Valuations.{one-valuation}
use Rattle.bx_quick.specs.LaneStates.{input_edges, start_of, end_of, width_of}
use Rattle.bx_quick.specs.Grids.{grid_of}
use Rattle.bx_quick.specs.Chains.{IsChain, chain_grid}
use Rattle.bx_quick.proofs.ChainSound.{grid-sound}
use Rattle.bx_quick.proofs.LaneRuns.{edge_on, Runs, runs-chain}
use Rattle.bx_quick.proofs.OnTheWay.{IsOnItsWay, AreOnTheirWay}
use Rattle.bx_quick.proofs.NodeTurns.{val, Stands, most-first, nodes-run}

pub input-says : (kind : Kind) → is_input kind ≡ true → kind ≡ Input
input-says Input e = refl
input-says Output e = absurd (cc)
input-says Not e = absurd (cc)
input-says Fan e = absurd (cc)
input-says And e = absurd (cc)
input-says Or e = absurd (cc)
input-says Nand e = absurd (cc)
input-says Nor e = absurd (cc)
input-says Xor e = absurd (cc)
input-says Xnor e = absurd (cc)

module _ (N : Network) (net : IsNetwork N) where
  -- these are the edges of the inputs among n nodes from v on
  pub record Starts (v n : ℕ) (lanes : List ℕ) : Type 0 where
    pub each : (i : ℕ) → i < length lanes → (u : ℕ) × (v ≤ u) × HasKind N u Input × (edge_on lanes i ≡ edge_out N.edges u 0)
    pub all : (u : ℕ) → v ≤ u → u < v + n → HasKind N u Input → (i : ℕ) × (i < length lanes) × (edge_on lanes i ≡ edge_out N.edges u 0)
    pub once : (i j : ℕ) → i < length lanes → j < length lanes → edge_on lanes i ≡ edge_on lanes j → i ≡ j

  -- inputs with one edge are one
  pub same-input : (u v : ℕ) → HasKind N u Input → HasKind N v Input → edge_out N.edges u 0 ≡ edge_out N.edges v 0 → u ≡ v
  same-input u v a b e =
      let one = edge-leaves N net u Input a 0 (omega arith) in
      let two = edge-leaves N net v Input b 0 (omega arith) in
      let both : Some one.item ≡ Some two.item = sym one.at ∙ ap (slice_get N.edges) e ∙ two.at in
      let edges : one.item ≡ two.item = cc in
      sym (leaves-says u 0 one.item one.passes).0 ∙ ap (λ (x : Edge). x.source) edges ∙ (leaves-says v 0 two.item two.passes).0

  starts-none : (v : ℕ) → Starts v 0 []
  starts-none v = record {
    each = λ i h. absurd (omega arith);
    all = λ u low high input. absurd (omega arith);
    once = λ i j p q e. absurd (omega arith);
  }

  module _ (v n : ℕ) (lanes : List ℕ) (rest : Starts (v + 1) n lanes) where
    starts-skip : (HasKind N v Input → ⊥) → Starts v (suc n) lanes
    starts-skip other = record {
      each = λ i h. let (u, low, input, is) = rest.each i h in (u, omega arith, input, is);
      all = λ u low high input. elim (cases_eq u v) [
        | inl same ↦ absurd (other (subst (λ x. HasKind N x Input) same input))
        | inr ne ↦ rest.all u (omega arith) (omega arith) input
      ];
      once = rest.once;
    }

    module _ (input : HasKind N v Input) where
      abbrev more : List ℕ
      more = edge_out N.edges v 0 ∷ lanes

      apart : (i : ℕ) → i < length lanes → edge_on lanes i ≡ edge_out N.edges v 0 → ⊥
      apart i h e =
          let (u, low, other, is) = rest.each i h in
          let same = same-input u v other input (sym is ∙ e) in
          omega arith

      each : (i : ℕ) → i < length more → (u : ℕ) × (v ≤ u) × HasKind N u Input × (edge_on more i ≡ edge_out N.edges u 0)
      each zero h = (v, omega arith, input, refl)
      each (suc i) h = let (u, low, other, is) = rest.each i (omega arith) in (u, omega arith, other, is)

      once : (i j : ℕ) → i < length more → j < length more → edge_on more i ≡ edge_on more j → i ≡ j
      once zero zero p q e = refl
      once zero (suc j) p q e = absurd (apart j (omega arith) (sym e))
      once (suc i) zero p q e = absurd (apart i (omega arith) e)
      once (suc i) (suc j) p q e = ap suc (rest.once i j (omega arith) (omega arith) e)

      starts-more : Starts v (suc n) more
      starts-more = record {
        each = each;
        all = λ u low high other. elim (cases_eq u v) [
          | inl same ↦ (zero, (let k : 0 < length more = omega arith in k), ap (λ (x : ℕ). edge_out N.edges x 0) (sym same))
          | inr ne ↦ (let there = rest.all u (omega arith) (omega arith) other in let low_there = there.1 in (suc there.0, (let k : suc there.0 < length more = omega arith in k), there.2))
        ];
        once = once;
      }

  starts : (rest : List Node) (v : ℕ) → ((k : ℕ) → slice_get rest k ≡ slice_get N.nodes (v + k)) → Starts v (length rest) (input_edges N.edges v rest)
  unfolding input_edges
  starts [] v same = starts-none v
  starts (node ∷ rest) v same =
      let here : slice_get N.nodes v ≡ Some node = ap (slice_get N.nodes) (let e : v ≡ v + 0 = omega arith in e) ∙ sym (same 0) in
      let later = starts rest (v + 1) (λ k. same (suc k) ∙ ap (slice_get N.nodes) (let e : v + suc k ≡ v + 1 + k = omega arith in e)) in
      elim (cases_Bool (is_input node.kind)) [
        | inl is ↦ subst (λ (b : Bool). Starts v (suc (length rest)) (if b then edge_out N.edges v 0 ∷ input_edges N.edges (v + 1) rest else input_edges N.edges (v + 1) rest)) (sym is)
            (starts-more v (length rest) (input_edges N.edges (v + 1) rest) later (node, here, input-says node.kind is))
        | inr other ↦ subst (λ (b : Bool). Starts v (suc (length rest)) (if b then edge_out N.edges v 0 ∷ input_edges N.edges (v + 1) rest else input_edges N.edges (v + 1) rest)) (sym other)
            (starts-skip v (length rest) (input_edges N.edges (v + 1) rest) later (λ input.
            let kinds : node.kind ≡ Input = kind-once N v node.kind Input (node, here, refl) input in
            let clash : false ≡ true = sym other ∙ ap is_input kinds in
            cc))
      ]

  pub first-lanes : Starts 0 (length N.nodes) (start_of N).lanes
  unfolding start_of
  first-lanes = starts N.nodes 0 (λ k. ap (slice_get N.nodes) (let e : k ≡ 0 + k = omega arith in e))

  start-way : AreOnTheirWay N 0 (start_of N).lanes
  start-way = record {
    once = first-lanes.once;
    only = λ i h.
        let (u, low, input, is) = first-lanes.each i h in
        let one = edge-leaves N net u Input input 0 (omega arith) in
        let source = (leaves-says u 0 one.item one.passes).0 in
        subst (IsOnItsWay N 0) (sym is) (record {
          edge = one.item;
          at = one.at;
          begun = inr (subst (λ x. HasKind N x Input) (sym source) input);
          waits = λ past. absurd (omega arith);
        });
    all = λ e way. elim way.begun [
      | inl past ↦ absurd (omega arith)
      | inr input ↦ (
          let low = slot-within N net e way.edge way.at Input input in
          let first : way.edge.slot ≡ 0 = let few : way.edge.slot < 1 = low in omega arith in
          let one = edge-leaves N net way.edge.source Input input 0 (omega arith) in
          let is : e ≡ edge_out N.edges way.edge.source 0 = one.only e way.edge way.at (subst (λ s. leaves_by way.edge.source s way.edge ≡ true) first (leaves-itself way.edge)) in
          let there = first-lanes.all way.edge.source (omega arith) (let k = kind-within N way.edge.source Input input in omega arith) input in
          (there.0, there.1, there.2 ∙ sym is))
    ];
  }

  pub all-run : (bits values : List Bool) (valued : IsValuation N bits values) → Stands N net bits values valued (width_of N) (start_of N).lanes (length N.nodes) (end_of N)
  unfolding start_of end_of width_of
  all-run bits values valued =
      subst (λ u. Stands N net bits values valued (width_of N) (start_of N).lanes u (end_of N)) (let e : 0 + length N.nodes ≡ length N.nodes = omega arith in e)
      (nodes-run N net bits values valued (width_of N) (start_of N).lanes N.nodes 0 (start_of N)
      (λ k. ap (slice_get N.nodes) (let e : k ≡ 0 + k = omega arith in e))
      (record { runs = no-operations; way = start-way })
      (omega arith))
    where
      start-low : length (start_of N).lanes ≤ width_of N
      start-low = most-first N net bits values valued (width_of N) (start_of N).lanes (length (start_of N).lanes) N.nodes

      no-operations : Runs (width_of N) (val N net bits values valued (width_of N) (start_of N).lanes) (start_of N).lanes (start_of N).operations (start_of N).lanes
      no-operations = (start-low, refl)

  -- the network's first node is an input
  pub wide : 0 < length N.nodes → 1 ≤ width_of N
  unfolding width_of
  wide some =
      let (kind, has) = kind-at N 0 some in
      let none : operands kind ≡ 0 = elim (cases_eq (operands kind) 0) [
        | inl zero_operands ↦ zero_operands
        | inr ne ↦ (
            let one = edge-enters N net 0 kind has 0 (omega arith) in
            let forward = goes-forward N net _ one.item one.at in
            let ahead = forward.forward in
            let target = (enters-says 0 0 one.item one.passes).0 in
            absurd (omega arith))
      ] in
      let input = subst (HasKind N 0) (operands-none kind none) has in
      let there = first-lanes.all 0 (omega arith) (omega arith) input in
      let low = there.1 in
      let (values, only) = one-valuation N [] net in
      let most = most-first N net [] values only.is 0 [] (length (start_of N).lanes) N.nodes in
      omega arith

  pub chain : IsChain (width_of N) (length (start_of N).lanes) (end_of N).operations (length (end_of N).lanes)
  chain =
      let (values, only) = one-valuation N [] net in
      let stands = all-run [] values only.is in
      runs-chain (width_of N) (val N net [] values only.is (width_of N) (start_of N).lanes) (start_of N).lanes (end_of N).operations (end_of N).lanes stands.runs

  pub is-grid : grid_of N ≡ chain_grid (width_of N) (end_of N).operations (length (end_of N).lanes)
  unfolding grid_of
  is-grid = refl

  pub network-sound : 0 < length N.nodes → IsSound (grid_of N)
  network-sound some = subst IsSound (sym is-grid) (grid-sound (width_of N) (length (start_of N).lanes) (end_of N).operations (length (end_of N).lanes) (wide some) chain)
