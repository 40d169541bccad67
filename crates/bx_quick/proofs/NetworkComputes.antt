-- The grid of a network computes it, with its pins by port order.
use Rattle.std.proofs.Common.{◌≡◌, ◌≢◌, ℕ, zero, suc, ◌+◌, ◌-◌, ◌*◌, ◌/◌, ◌%◌, ◌<◌, ◌≤◌, Bool, true, false, List, [], ◌∷◌, length, map, get_or, Contains, Some, None, inl, inr, refl, sym, ap, ap₂, ◌∙◌, subst, arith}
use Rattle.std.specs.Prelude.{◌==◌, slice_get, if◌then◌else◌}
use Rattle.std.specs.List.{range_with_len}
use Rattle.std.proofs.lemmas.Bool.{cases_lt, cases_eq, lt-ltb, le-ltb, eq-eqb, ne_eqb, eqb-true, and_parts, false_from_ne_true}
use Rattle.std.proofs.lemmas.List.FromFn.{get_or-map-range_with_len, length-map-range_with_len}
use Rattle.std.proofs.lemmas.List.Sums.{position_or_len_is}
use Rattle.std.proofs.lemmas.Nat.{div-add-mod', mul-add-lt, div-mul-add, mod-mul-add}
use Rattle.bx_logic.specs.Lists.{AreDistinct}
use Rattle.bx_logic.specs.Op.{first_value}
use Rattle.bx_logic.specs.Values.{value_of}
use Rattle.bx_logic.proofs.Members.{Member, Member-map, Member-map_cases, Contains-from_member, Member-from_contains, AllByRecursion-from_member}
use Rattle.bx_forms.specs.declared.kind.Kind.{Kind}
use Rattle.bx_forms.specs.declared.kind.Kind.TheVariants.{Input, Output, Not, Fan, And, Or, Nand, Nor, Xor, Xnor}
use Rattle.bx_grid.specs.Tiles.{IsTile, IsInLastRow}
use Rattle.bx_layout.specs.Grids.{FormGrid, node_in, Holds, IsSound}
use Rattle.bx_layout.specs.Pins.{Pin, Pins, pin_ports, pin_tiles, AreForPorts, ArePins, given_at, given_to, GridGives, Computes}
use Rattle.bx_layout.specs.Valuations.{comes_in, IsBorderValuation}
use Rattle.bx_layout.proofs.PinLists.{distinct-append}
use Rattle.bx_layout.proofs.Valuations.{one-valuation as grid-valuation}
use Rattle.bx_network.specs.declared.node.Node.{Node}
use Rattle.bx_network.specs.declared.node.Edge.{Edge}
use Rattle.bx_network.specs.Networks.{Network, IsNetwork, HasKind, HasPort, is_output, output_count, enters_by}
use Rattle.bx_network.specs.Values.{edge_into, edge_out, IsValuation, NetworkGives}
use Rattle.bx_network.proofs.Lists.{got-within, got-get_or, got-slice_get}
use Rattle.bx_network.proofs.Networks.{edge-leaves, edge-enters, enters-itself, leaves-says, enters-says, operand-within, goes-forward}
use Rattle.bx_network.proofs.Valuations.{one-valuation}
use Rattle.bx_quick.specs.declared.operation.Operation.{Operation}
use Rattle.bx_quick.specs.Operations.{output_l}
use Rattle.bx_quick.specs.LaneStates.{lane_of, start_of, end_of, width_of}
use Rattle.bx_quick.specs.Grids.{leaves_left, lane_tile, output_tile, grid_of}
use Rattle.bx_quick.specs.Pins.{pin_at, is_output_at, output_node, output_tile_of, quick_pins}
use Rattle.bx_quick.specs.Chains.{IsChain, chain_grid}
use Rattle.bx_quick.proofs.ChainLinks.{lane-in, lane-out}
use Rattle.bx_quick.proofs.ChainSound.{head_of, chain-le, input-node, first-tile, last-tile, grid-sound}
use Rattle.bx_quick.proofs.ChainValues.{outputs-read}
use Rattle.bx_quick.proofs.LaneRuns.{edge_on, on, runs-wide, runs-carry, found}
use Rattle.bx_quick.proofs.OnTheWay.{IsOnItsWay, AreOnTheirWay}
use Rattle.bx_quick.proofs.NodeTurns.{val}
use Rattle.bx_quick.proofs.NetworkRuns.{first-lanes, all-run, wide, chain, is-grid}
use Rattle.bx_quick.proofs.InputPins.{Filled, input-pins}

-- ---- lists of numbers and pins

in-range : (a n x : ℕ) → Member x (range_with_len a n) → (a ≤ x) × (x < a + n)
in-range a zero x m = absurd m
in-range a (suc n) x (inl e) = (omega arith, omega arith)
in-range a (suc n) x (inr m) = let both = in-range (a + 1) n x m in let low = both.0 in let high = both.1 in (omega arith, omega arith)

range-has : (a n x : ℕ) → a ≤ x → x < a + n → Member x (range_with_len a n)
range-has a zero x low high = absurd (omega arith)
range-has a (suc n) x low high = elim (cases_eq a x) [ inl e ↦ inl e | inr ne ↦ inr (range-has (a + 1) n x (omega arith) (omega arith)) ]

distinct-made : (h : Pin → ℕ) (g : ℕ → Pin) (a n : ℕ) → ((i j : ℕ) → a ≤ i → i < a + n → a ≤ j → j < a + n → h (g i) ≡ h (g j) → i ≡ j) → AreDistinct (map h (map g (range_with_len a n)))
distinct-made h g a zero apart = tt
distinct-made h g a (suc n) apart = (
  AllByRecursion-from_member (λ y. y ≢ h (g a)) (map h (map g (range_with_len (a + 1) n))) (λ y m e.
      let (pin, there, is) = Member-map_cases h y (map g (range_with_len (a + 1) n)) m in
      let (k, inside, made) = Member-map_cases g pin (range_with_len (a + 1) n) there in
      let bounds = in-range (a + 1) n k inside in
      let low = bounds.0 in
      let high = bounds.1 in
      let same = apart k a (omega arith) (omega arith) (omega arith) (omega arith) (ap h made ∙ is ∙ e) in
      omega arith),
  distinct-made h g (a + 1) n (λ i j p q r s e. apart i j (omega arith) (omega arith) (omega arith) (omega arith) e),
)

given-is : (pins : List Pin) (bits : List Bool) (x : ℕ) (value : Bool) → ((pin : Pin) → Member pin pins → pin.tile ≡ x → value_of bits pin.port ≡ value) →
    (port : ℕ) → Member (pin_at port x) pins → given_at pins bits x ≡ value
given-is [] bits x value all port m = absurd m
given-is (pin ∷ pins) bits x value all port m = elim (cases_eq x pin.tile) [
  | inl here ↦ ap (λ (b : Bool). if b then value_of bits pin.port else given_at pins bits x) (eq-eqb x pin.tile here) ∙ all pin (inl refl) (sym here)
  | inr ne ↦ (
      ap (λ (b : Bool). if b then value_of bits pin.port else given_at pins bits x) (ne_eqb x pin.tile ne)
      ∙ given-is pins bits x value (λ p there. all p (inr there)) port (behind ne m))
]
  where
    behind : (x ≡ pin.tile → ⊥) → Member (pin_at port x) (pin ∷ pins) → Member (pin_at port x) pins
    behind ne (inl same) = absurd (ne (sym (ap (λ (p : Pin). p.tile) same)))
    behind ne (inr there) = there

pub output-says : (kind : Kind) → is_output kind ≡ true → kind ≡ Output
output-says Input e = absurd (cc)
output-says Output e = refl
output-says Not e = absurd (cc)
output-says Fan e = absurd (cc)
output-says And e = absurd (cc)
output-says Or e = absurd (cc)
output-says Nand e = absurd (cc)
output-says Nor e = absurd (cc)
output-says Xor e = absurd (cc)
output-says Xnor e = absurd (cc)

abbrev port_node : Kind → ℕ → Node
port_node kind port = record { kind = kind; port = port }

module _ (N : Network) (net : IsNetwork N) (some : 0 < length N.nodes) where
  abbrev w : ℕ
  w = width_of N

  abbrev ops : List Operation
  ops = (end_of N).operations

  abbrev start : List ℕ
  start = (start_of N).lanes

  abbrev lanes : List ℕ
  lanes = (end_of N).lanes

  abbrev s : ℕ
  s = length start

  abbrev t : ℕ
  t = length lanes

  abbrev rows : ℕ
  rows = 2 * length ops + 2

  abbrev base : ℕ
  base = rows - 1

  abbrev grid : FormGrid
  grid = chain_grid w ops t

  abbrev pins : Pins
  pins = quick_pins N

  room : 1 ≤ w
  room = wide N net some

  follow : IsChain w s ops t
  follow = chain N net

  sound : IsSound grid
  sound = grid-sound w s ops t room follow

  way : AreOnTheirWay N (length N.nodes) lanes
  way = let (values, only) = one-valuation N [] net in let stands = all-run N net [] values only.is in stands.way

  s-wide : s ≤ w
  s-wide = chain-le w s ops t follow

  t-wide : t ≤ w
  t-wide =
      let (values, only) = one-valuation N [] net in
      let stands = all-run N net [] values only.is in
      runs-wide w (val N net [] values only.is w start) start ops lanes stands.runs

  -- ---- places

  record IsPlace (y x u : ℕ) : Type 0 where
    inside : IsTile grid.ratio u
    row : u / w ≡ y
    column : u % w ≡ x

  place : (y x : ℕ) → y < rows → x < w → IsPlace y x (y * w + x)
  place y x h k = record { inside = mul-add-lt y w x rows h k; row = div-mul-add y w x k; column = mod-mul-add y w x k }

  first-place : (x : ℕ) → x < w → IsPlace 0 x x
  first-place x h = subst (IsPlace 0 x) (let e : 0 * w + x ≡ x = omega arith in e) (place 0 x (omega arith) h)

  input-holds : (x : ℕ) → x < s → Holds grid x Input
  input-holds x h =
      let low = s-wide in
      let at = first-place x (omega arith) in
      ap node_in (first-tile w s ops t room follow x at.inside at.row ∙ ap (lane_tile None (head_of ops) s) at.column ∙ lane-in None (head_of ops) s x h)
      ∙ input-node (leaves_left (head_of ops) x)

  last-is : (u l : ℕ) → IsPlace base l u → IsInLastRow grid.ratio u
  last-is u l at = let row = at.row in ap (λ (y : ℕ). y + 1) row ∙ (let e : base + 1 ≡ rows = omega arith in e)

  output-holds : (u l : ℕ) → IsPlace base l u → l < t → Holds grid u Output
  output-holds u l at h =
      ap node_in (last-tile w s ops t room follow u at.inside (last-is u l at) ∙ ap (output_tile t) at.column
      ∙ ap (λ (b : Bool). if b then Some output_l else None) (lt-ltb l t h))

  -- ---- the pins of inputs

  abbrev inputs_filled : Filled N net (length N.nodes) s pins.inputs
  inputs_filled = input-pins N net

  input-node-is : (x u port : ℕ) → x < s → edge_on start x ≡ edge_out N.edges u 0 → HasPort N u Input port → Member (pin_at port x) pins.inputs
  input-node-is x u port h is has =
      let there = inputs_filled.all u port (got-within N.nodes u (port_node Input port) has) has in
      let pin = inputs_filled.each (pin_at port there.0) there.1 in
      let same = net.inputs_apart pin.node u port pin.input has in
      let lane : there.0 ≡ x = (first-lanes N net).once there.0 x pin.low h (pin.is ∙ ap (λ (v : ℕ). edge_out N.edges v 0) same ∙ sym is) in
      subst (λ i. Member (pin_at port i) pins.inputs) lane there.1

  input-pin : (x : ℕ) → x < s → (port : ℕ) × Member (pin_at port x) pins.inputs
  input-pin x h =
      let (u, low, input, is) = (first-lanes N net).each x h in
      let (node, at, kind) = input in
      (node.port, input-node-is x u node.port h is (at ∙ ap (λ (k : Kind). Some (port_node k node.port)) kind))

  inputs-fit : AreForPorts N Input pins.inputs
  inputs-fit = record {
    each = λ port. (forth port, back port);
    once = inputs_filled.ports;
  }
    where
      forth : (port : ℕ) → Contains (pin_ports pins.inputs) port → (v : ℕ) × HasPort N v Input port
      forth port c =
          let (pin, m, same) = Member-map_cases (λ (p : Pin). p.port) port pins.inputs (Member-from_contains port (pin_ports pins.inputs) c) in
          let is = inputs_filled.each pin m in
          (is.node, subst (HasPort N is.node Input) same is.input)

      back : (port : ℕ) → (v : ℕ) × HasPort N v Input port → Contains (pin_ports pins.inputs) port
      back port (v, has) =
          let there = inputs_filled.all v port (got-within N.nodes v (port_node Input port) has) has in
          Contains-from_member port (pin_ports pins.inputs) (Member-map (λ (p : Pin). p.port) (pin_at port there.0) pins.inputs there.1)

  input-tile : (x : ℕ) → Contains (pin_tiles pins.inputs) x → x < s
  input-tile x c =
      let (pin, m, same) = Member-map_cases (λ (p : Pin). p.tile) x pins.inputs (Member-from_contains x (pin_tiles pins.inputs) c) in
      let low = (inputs_filled.each pin m).low in
      omega arith

  -- ---- the pins of outputs

  abbrev made : ℕ → Pin
  made port = pin_at port (output_tile_of N port)

  outputs-are : pins.outputs ≡ map made (range_with_len 0 (output_count N))
  unfolding quick_pins
  outputs-are = refl

  output-at : (v port : ℕ) → HasPort N v Output port → output_node N port ≡ v
  output-at v port has =
      position_or_len_is (is_output_at port) N.nodes v (port_node Output port) (let h = got-within N.nodes v (port_node Output port) has in omega arith)
      (λ k h. false_from_ne_true _ (λ e. other k h e))
      (λ h. ap (is_output_at port) (got-get_or N.nodes v (port_node Output port) (port_node Output port) has) ∙ eq-eqb port port refl)
    where
      other : (k : ℕ) → k < v → is_output_at port (get_or N.nodes k (port_node Output port)) ≡ true → ⊥
      other k h e =
          let within = got-within N.nodes v (port_node Output port) has in
          let node = get_or N.nodes k (port_node Output port) in
          let parts = and_parts (is_output node.kind) (node.port == port) e in
          let there : HasPort N k Output port = got-slice_get N.nodes k (port_node Output port) (omega arith)
          ∙ ap₂ (λ (kind : Kind) (p : ℕ). Some (port_node kind p)) (output-says node.kind parts.0) (eqb-true node.port port parts.1) in
          let same = net.outputs_apart k v port there has in
          omega arith

  ending : (v port : ℕ) → HasPort N v Output port → IsOnItsWay N (length N.nodes) (edge_into N.edges v 0)
  ending v port has =
      let kind : HasKind N v Output = (port_node Output port, has, refl) in
      let one = edge-enters N net v Output kind 0 (omega arith) in
      let target = (enters-says v 0 one.item one.passes).0 in
      let forward = goes-forward N net (edge_into N.edges v 0) one.item one.at in
      let ahead = forward.forward in
      let within = forward.within in
      record { edge = one.item; at = one.at; begun = inl (omega arith); waits = λ past. subst (λ u. HasKind N u Output) (sym target) kind }

  abbrev lane_for : ℕ → ℕ
  lane_for v = lane_of lanes (edge_into N.edges v 0)

  lane-found : (v port : ℕ) → HasPort N v Output port → (lane_for v < t) × (edge_on lanes (lane_for v) ≡ edge_into N.edges v 0)
  lane-found v port has = let there = way.all (edge_into N.edges v 0) (ending v port has) in found lanes (edge_into N.edges v 0) there.0 there.1 there.2

  tile-of-port : (v port : ℕ) → HasPort N v Output port → output_tile_of N port ≡ base * w + lane_for v
  tile-of-port v port has = ap (λ (u : ℕ). base * w + lane_for u) (output-at v port has)

  last-place : (v port : ℕ) → HasPort N v Output port → IsPlace base (lane_for v) (output_tile_of N port)
  last-place v port has =
      let low = (lane-found v port has).0 in
      let narrow = t-wide in
      subst (IsPlace base (lane_for v)) (sym (tile-of-port v port has)) (place base (lane_for v) (omega arith) (omega arith))

  record IsOutputPin (pin : Pin) : Type 0 where
    node : ℕ
    output : HasPort N node Output pin.port
    tile : pin.tile ≡ output_tile_of N pin.port

  output-pin : (pin : Pin) → Member pin pins.outputs → IsOutputPin pin
  output-pin pin m =
      let (port, inside, is) = Member-map_cases made pin (range_with_len 0 (output_count N)) (subst (Member pin) outputs-are m) in
      let low = (in-range 0 (output_count N) port inside).1 in
      let (v, has) = net.outputs_all port (omega arith) in
      subst IsOutputPin is (record { node = v; output = has; tile = refl })

  has-output-pin : (v port : ℕ) → HasPort N v Output port → Member (made port) pins.outputs
  has-output-pin v port has =
      let low = net.outputs_within v port has in
      subst (Member (made port)) (sym outputs-are) (Member-map made port (range_with_len 0 (output_count N)) (range-has 0 (output_count N) port (omega arith) (omega arith)))

  one-port : (u v p q : ℕ) → u ≡ v → HasPort N u Output p → HasPort N v Output q → p ≡ q
  one-port u v p q e a b =
      let both : Some (port_node Output p) ≡ Some (port_node Output q) = sym a ∙ ap (slice_get N.nodes) e ∙ b in
      let nodes : port_node Output p ≡ port_node Output q = cc in
      ap (λ (n : Node). n.port) nodes

  one-target : (u v p q : ℕ) → HasPort N u Output p → HasPort N v Output q → edge_into N.edges u 0 ≡ edge_into N.edges v 0 → u ≡ v
  one-target u v p q a b e =
      let one = edge-enters N net u Output (port_node Output p, a, refl) 0 (omega arith) in
      let two = edge-enters N net v Output (port_node Output q, b, refl) 0 (omega arith) in
      let both : Some one.item ≡ Some two.item = sym one.at ∙ ap (slice_get N.edges) e ∙ two.at in
      let edges : one.item ≡ two.item = cc in
      sym (enters-says u 0 one.item one.passes).0 ∙ ap (λ (x : Edge). x.target) edges ∙ (enters-says v 0 two.item two.passes).0

  output-tiles-apart : (i j : ℕ) → 0 ≤ i → i < 0 + output_count N → 0 ≤ j → j < 0 + output_count N → output_tile_of N i ≡ output_tile_of N j → i ≡ j
  output-tiles-apart i j a p b q e =
      let (u, is) = net.outputs_all i (omega arith) in
      let (v, has) = net.outputs_all j (omega arith) in
      let one = last-place u i is in
      let two = last-place v j has in
      let lane : lane_for u ≡ lane_for v = sym one.column ∙ ap (λ (n : ℕ). n % w) e ∙ two.column in
      let edges = sym (lane-found u i is).1 ∙ ap (edge_on lanes) lane ∙ (lane-found v j has).1 in
      one-port u v i j (one-target u v i j is has edges) is has

  outputs-fit : AreForPorts N Output pins.outputs
  outputs-fit = record {
    each = λ port. (forth port, back port);
    once = subst (λ ps. AreDistinct (pin_ports ps)) (sym outputs-are) (distinct-made (λ (p : Pin). p.port) made 0 (output_count N) (λ i j a p b q e. e));
  }
    where
      forth : (port : ℕ) → Contains (pin_ports pins.outputs) port → (v : ℕ) × HasPort N v Output port
      forth port c =
          let (pin, m, same) = Member-map_cases (λ (p : Pin). p.port) port pins.outputs (Member-from_contains port (pin_ports pins.outputs) c) in
          let is = output-pin pin m in
          (is.node, subst (HasPort N is.node Output) same is.output)

      back : (port : ℕ) → (v : ℕ) × HasPort N v Output port → Contains (pin_ports pins.outputs) port
      back port (v, has) = Contains-from_member port (pin_ports pins.outputs) (Member-map (λ (p : Pin). p.port) (made port) pins.outputs (has-output-pin v port has))

  output-tiles-distinct : AreDistinct (pin_tiles pins.outputs)
  output-tiles-distinct = subst (λ ps. AreDistinct (pin_tiles ps)) (sym outputs-are) (distinct-made (λ (p : Pin). p.tile) made 0 (output_count N) output-tiles-apart)

  record IsOutputTile (u : ℕ) : Type 0 where
    node : ℕ
    port : ℕ
    output : HasPort N node Output port
    is : u ≡ output_tile_of N port

  output-tile : (u : ℕ) → Contains (pin_tiles pins.outputs) u → IsOutputTile u
  output-tile u c =
      let (pin, m, same) = Member-map_cases (λ (p : Pin). p.tile) u pins.outputs (Member-from_contains u (pin_tiles pins.outputs) c) in
      let is = output-pin pin m in
      record { node = is.node; port = pin.port; output = is.output; is = sym same ∙ is.tile }

  tile-place : (u : ℕ) (o : IsOutputTile u) → IsPlace base (lane_for o.node) u
  tile-place u o = subst (IsPlace base (lane_for o.node)) (sym o.is) (last-place o.node o.port o.output)

  -- ---- no other tile holds an input or an output

  more-inputs : (u : ℕ) → IsTile grid.ratio u → Holds grid u Input → Contains (pin_tiles pins.inputs) u
  more-inputs u inside holds =
      let row : u / w ≡ 0 = (sound u inside).row.input holds in
      let number : u % w ≡ u = let e = ap (λ (q : ℕ). q * w + u % w) (sym row) ∙ div-add-mod' u w in omega arith in
      let tile = first-tile w s ops t room follow u inside row in
      elim (cases_lt (u % w) s) [
        | inl low ↦ (
            let there = input-pin (u % w) low in
            subst (Contains (pin_tiles pins.inputs)) number
            (Contains-from_member (u % w) (pin_tiles pins.inputs) (Member-map (λ (p : Pin). p.tile) (pin_at there.0 (u % w)) pins.inputs there.1)))
        | inr past ↦ absurd (let clash : None ≡ Some Input = sym (ap node_in (tile ∙ lane-out None (head_of ops) s (u % w) past)) ∙ holds in cc)
      ]

  more-outputs : (u : ℕ) → IsTile grid.ratio u → Holds grid u Output → Contains (pin_tiles pins.outputs) u
  more-outputs u inside holds =
      let row : u / w + 1 ≡ rows = (sound u inside).row.output holds in
      let tile = last-tile w s ops t room follow u inside row in
      elim (cases_lt (u % w) t) [
        | inl low ↦ (
            let on_way = way.only (u % w) low in
            let within = (goes-forward N net (edge_on lanes (u % w)) on_way.edge on_way.at).within in
            let (node, at, kind) = on_way.waits within in
            let has : HasPort N on_way.edge.target Output node.port = at ∙ ap (λ (k : Kind). Some (port_node k node.port)) kind in
            let small = operand-within N net (edge_on lanes (u % w)) on_way.edge on_way.at Output (node, at, kind) in
            let zero_operand : on_way.edge.operand ≡ 0 = let few : on_way.edge.operand < 1 = small in omega arith in
            let one = edge-enters N net on_way.edge.target Output (node, at, kind) 0 (omega arith) in
            let edge : edge_on lanes (u % w) ≡ edge_into N.edges on_way.edge.target 0 =
            one.only (edge_on lanes (u % w)) on_way.edge on_way.at (subst (λ o. enters_by on_way.edge.target o on_way.edge ≡ true) zero_operand (enters-itself on_way.edge)) in
            let there = lane-found on_way.edge.target node.port has in
            let lane : lane_for on_way.edge.target ≡ u % w = way.once (lane_for on_way.edge.target) (u % w) there.0 low (there.1 ∙ sym edge) in
            let number : output_tile_of N node.port ≡ u =
            tile-of-port on_way.edge.target node.port has ∙ ap₂ (λ (y x : ℕ). y * w + x) (let e : base ≡ u / w = omega arith in e) lane ∙ div-add-mod' u w in
            subst (Contains (pin_tiles pins.outputs)) number
            (Contains-from_member (output_tile_of N node.port) (pin_tiles pins.outputs) (Member-map (λ (p : Pin). p.tile) (made node.port) pins.outputs (has-output-pin on_way.edge.target node.port has))))
        | inr past ↦ absurd (let clash : None ≡ Some Output = sym (ap node_in (tile ∙ ap (λ (b : Bool). if b then Some output_l else None) (le-ltb (u % w) t past))) ∙ holds in cc)
      ]

  rows-differ : (x u : ℕ) → x < s → IsOutputTile u → u ≢ x
  rows-differ x u h o e =
      let low = s-wide in
      let one = (first-place x (omega arith)).row in
      let two = (tile-place u o).row in
      let same : base ≡ 0 = sym two ∙ ap (λ (n : ℕ). n / w) e ∙ one in
      omega arith

  pins-fit : ArePins grid N pins
  pins-fit = record {
    inputs = inputs-fit;
    outputs = outputs-fit;
    first = λ x c. let h = input-tile x c in let low = s-wide in let at = first-place x (omega arith) in (at.inside, at.row, input-holds x h);
    last = λ u c. let o = output-tile u c in let at = tile-place u o in (at.inside, last-is u (lane_for o.node) at, output-holds u (lane_for o.node) at (lane-found o.node o.port o.output).0);
    apart = distinct-append (pin_tiles pins.inputs) (pin_tiles pins.outputs) inputs_filled.tiles output-tiles-distinct
        (λ x y m n. rows-differ x y (input-tile x (Contains-from_member x (pin_tiles pins.inputs) m)) (output-tile y (Contains-from_member y (pin_tiles pins.outputs) n)));
    no_more_inputs = more-inputs;
    no_more_outputs = more-outputs;
  }

  -- ---- values

  module _ (bits values : List Bool) (valued : IsValuation N bits values) where
    input-value : (u port : ℕ) → HasPort N u Input port → value_of values (edge_out N.edges u 0) ≡ value_of bits port
    input-value u port has =
        let one = edge-leaves N net u Input (port_node Input port, has, refl) 0 (omega arith) in
        let says = leaves-says u 0 one.item one.passes in
        valued.each (edge_out N.edges u 0) one.item (port_node Input port) one.at (ap (slice_get N.nodes) says.0 ∙ has)

    begins : (x : ℕ) → x < s → value_of (given_to grid pins bits) x ≡ value_of values (edge_on start x)
    begins x h =
        let low = s-wide in
        let there = input-pin x h in
        get_or-map-range_with_len (given_at pins.inputs bits) 0 w x x false (omega arith) (omega arith)
        ∙ given-is pins.inputs bits x (value_of values (edge_on start x)) (λ pin m e.
        let is = inputs_filled.each pin m in
        sym (ap (λ (k : ℕ). value_of values (edge_on start k)) (sym e) ∙ ap (value_of values) is.is ∙ input-value is.node pin.port is.input)) there.0 there.1

    reads : (borders : List Bool) → IsBorderValuation grid (given_to grid pins bits) borders → (v port : ℕ) → HasPort N v Output port →
        first_value (comes_in grid borders (output_tile_of N port)) ≡ value_of values (edge_into N.edges v 0)
    reads borders valuation v port has =
        let there = lane-found v port has in
        let stands = all-run N net bits values valued in
        ap (λ (u : ℕ). first_value (comes_in grid borders u)) (tile-of-port v port has ∙ ap (λ (y : ℕ). y * w + lane_for v) (let e : base ≡ 2 * length ops + 1 = omega arith in e))
        ∙ outputs-read w s ops t room follow (given_to grid pins bits) borders valuation (on (value_of values) start) (on (value_of values) lanes)
        (runs-carry w (value_of values) start ops lanes stands.runs) begins (lane_for v) there.0
        ∙ ap (value_of values) there.1

  outputs-counted : length pins.outputs ≡ output_count N
  outputs-counted = ap length outputs-are ∙ length-map-range_with_len made 0 (output_count N)

  forth : (inputs : ℕ) (bits outputs : List Bool) → GridGives inputs grid pins bits outputs → NetworkGives inputs N bits outputs
  forth inputs bits outputs h =
      let (values, only) = one-valuation N bits net in
      record {
        given = h.given;
        values = values;
        valuation = only;
        all = h.all ∙ outputs-counted;
        read = λ v port has.
            h.read (made port) (Contains-from_member (made port) pins.outputs (has-output-pin v port has))
            ∙ reads bits values only.is h.borders h.valuation.is v port has;
      }

  back : (inputs : ℕ) (bits outputs : List Bool) → NetworkGives inputs N bits outputs → GridGives inputs grid pins bits outputs
  back inputs bits outputs n =
      let (borders, only) = grid-valuation grid (given_to grid pins bits) in
      record {
        given = n.given;
        borders = borders;
        valuation = only;
        all = n.all ∙ sym outputs-counted;
        read = λ pin c.
            let o = output-pin pin (Member-from_contains pin pins.outputs c) in
            n.read o.node pin.port o.output
            ∙ sym (reads bits n.values n.valuation.is borders only.is o.node pin.port o.output)
            ∙ ap (λ (u : ℕ). first_value (comes_in grid borders u)) (sym o.tile);
      }

  pub network-computed : (inputs : ℕ) → Computes inputs (grid_of N) pins N
  network-computed inputs =
      subst (λ (g : FormGrid). Computes inputs g pins N) (sym (is-grid N net))
      (record { pins_fit = pins-fit; same = record { forth = forth inputs; back = back inputs } })
