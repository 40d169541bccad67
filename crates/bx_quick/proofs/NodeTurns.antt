-- The turn of each node: its operations lead from the lanes before it to those behind it, and carry the
-- values of the edges.
use Rattle.std.proofs.Common.{◌≡◌, ◌≢◌, ℕ, zero, suc, ◌+◌, ◌-◌, ◌<◌, ◌≤◌, ◌⊎◌, Bool, true, false, not, List, [], ◌∷◌, ◌++◌, length, map, take, set, Some, inl, inr, refl, sym, ap, ap₂, ◌∙◌, subst, arith, get_or-set_other, get_or-set_same}
use Rattle.std.specs.Prelude.{slice_get, nat_lt, if◌then◌else◌}
use Rattle.std.specs.List.{range_with_len}
use Rattle.std.proofs.lemmas.Bool.{cases_lt, cases_eq, cases_Bool}
use Rattle.std.proofs.lemmas.List.{length-set, length-append, length-take-le}
use Rattle.bx_logic.specs.Values.{value_of}
use Rattle.bx_forms.specs.declared.kind.Kind.{Kind}
use Rattle.bx_forms.specs.declared.kind.Kind.TheVariants.{Input, Output, Not, Fan, And, Or, Nand, Nor, Xor, Xnor}
use Rattle.bx_forms.specs.declared.side.Side.TheVariants.{Left}
use Rattle.bx_forms.specs.declared.side.Sides.{Sides}
use Rattle.bx_forms.specs.Forms.{form_node, form_upper, form_lower, form_sends}
use Rattle.bx_forms.specs.Kinds.{operands, slots, gives}
use Rattle.bx_forms.specs.Sides.{side_count, used_values}
use Rattle.bx_forms.proofs.Exchange.{exchanged}
use Rattle.bx_network.specs.declared.node.Node.{Node}
use Rattle.bx_network.specs.Networks.{Network, IsNetwork, HasKind}
use Rattle.bx_network.specs.Values.{edge_into, edge_out, values_into, node_reads, IsValuation}
use Rattle.bx_network.proofs.Networks.{edge-leaves, leaves-says, slot-within, operand-within}
use Rattle.bx_quick.specs.Operations.{node_form}
use Rattle.bx_quick.specs.LaneStates.{State, lane_of, move_to, move_both, replace_last, after_not, after_fan, after_gate, after_node, after_nodes, lanes_after, most_lanes}
use Rattle.bx_quick.proofs.ChainLinks.{sides, right-is}
use Rattle.bx_quick.proofs.LaneRuns.{edge_on, on, operation, Turns, Runs, runs-wide, runs-more, Moved, moved-to, found}
use Rattle.bx_quick.proofs.OnTheWay.{IsOnItsWay, AreOnTheirWay, on-their-way-kept, into-waits, into-once, turn, replaced-last, replaced-one, first-lanes, last-lanes}

reads-entering : (kind : Kind) → kind ≢ Input → (given : Bool) (entering : List Bool) → node_reads kind given entering ≡ entering
reads-entering Input never given entering = absurd (never refl)
reads-entering Output never given entering = refl
reads-entering Not never given entering = refl
reads-entering Fan never given entering = refl
reads-entering And never given entering = refl
reads-entering Or never given entering = refl
reads-entering Nand never given entering = refl
reads-entering Nor never given entering = refl
reads-entering Xor never given entering = refl
reads-entering Xnor never given entering = refl

-- what makes a kind a gate
pub record IsGate (kind : Kind) : Type 0 where
  pub takes : operands kind ≡ 2
  pub sends : slots kind ≡ 1
  pub no_in : kind ≢ Input
  pub no_out : kind ≢ Output
  pub upper : form_upper (node_form kind) ≡ sides true true
  pub lower : form_lower (node_form kind) ≡ sides true false
  pub node : form_node (node_form kind) ≡ Some kind
  pub value : (a b : Bool) → form_sends (node_form kind) (a ∷ b ∷ []) Left ≡ gives kind (a ∷ b ∷ []) 0

and-gate : IsGate And
and-gate = record { takes = refl; sends = refl; no_in = λ e. cc; no_out = λ e. cc; upper = refl; lower = refl; node = refl; value = λ a b. refl }

or-gate : IsGate Or
or-gate = record { takes = refl; sends = refl; no_in = λ e. cc; no_out = λ e. cc; upper = refl; lower = refl; node = refl; value = λ a b. refl }

nand-gate : IsGate Nand
nand-gate = record { takes = refl; sends = refl; no_in = λ e. cc; no_out = λ e. cc; upper = refl; lower = refl; node = refl; value = λ a b. refl }

nor-gate : IsGate Nor
nor-gate = record { takes = refl; sends = refl; no_in = λ e. cc; no_out = λ e. cc; upper = refl; lower = refl; node = refl; value = λ a b. refl }

xor-gate : IsGate Xor
xor-gate = record { takes = refl; sends = refl; no_in = λ e. cc; no_out = λ e. cc; upper = refl; lower = refl; node = refl; value = λ a b. refl }

xnor-gate : IsGate Xnor
xnor-gate = record { takes = refl; sends = refl; no_in = λ e. cc; no_out = λ e. cc; upper = refl; lower = refl; node = refl; value = λ a b. refl }

not-in : Not ≢ Input
not-in e = cc

not-out : Not ≢ Output
not-out e = cc

fan-in : Fan ≢ Input
fan-in e = cc

fan-out : Fan ≢ Output
fan-out e = cc

-- the length of so many first lanes, and others behind them
whole-length : (n : ℕ) (lanes outs : List ℕ) → n ≤ length lanes → length (take n lanes ++ outs) ≡ n + length outs
whole-length n lanes outs h = length-append (take n lanes) outs ∙ ap (λ (k : ℕ). k + length outs) (length-take-le n lanes h)

none-is-one : (o p : ℕ) → o ≡ 0 → p ≡ 1 → o ≡ p → ⊥
none-is-one o p a b e = omega arith

two-lanes : (i j n : ℕ) → i ≢ j → i < n → j < n → 2 ≤ n
two-lanes i j n apart h k = elim (cases_eq i j) [ inl same ↦ absurd (apart same) | inr ne ↦ omega arith ]

below-last : (i n : ℕ) → i ≢ n - 1 → 2 ≤ n → i < n → i ≤ n - 2
below-last i n ne many h = omega arith

module _ (N : Network) (net : IsNetwork N) (bits values : List Bool) (valued : IsValuation N bits values) (w : ℕ) (start : List ℕ) where
  abbrev pub val : ℕ → Bool
  val e = value_of values e

  -- the operations so far lead from the first lanes to these, which hold the edges on their way
  pub record Stands (v : ℕ) (state : State) : Type 0 where
    pub runs : Runs w val start state.operations state.lanes
    pub way : AreOnTheirWay N v state.lanes

  -- an edge has the value that its source gives
  val-out : (v : ℕ) (kind : Kind) (has : HasKind N v kind) → kind ≢ Input → (s : ℕ) → s < slots kind → val (edge_out N.edges v s) ≡ gives kind (values_into N.edges values v kind) s
  val-out v kind (node, is, same) never s h =
      let one = edge-leaves N net v kind (node, is, same) s h in
      let says = leaves-says v s one.item one.passes in
      let given = value_of bits node.port in
      valued.each (edge_out N.edges v s) one.item node one.at (ap (slice_get N.nodes) says.0 ∙ is)
      ∙ ap₂ (λ (u r : ℕ). gives node.kind (node_reads node.kind given (values_into N.edges values u node.kind)) r) says.0 says.1
      ∙ ap (λ (k : Kind). gives k (node_reads k given (values_into N.edges values v k)) s) same
      ∙ ap (λ (bs : List Bool). gives kind bs s) (reads-entering kind never given (values_into N.edges values v kind))

  -- ---- a `not`

  module _ (v : ℕ) (has : HasKind N v Not) (state : State) (stands : Stands v state) where
    abbrev lane : ℕ
    lane = lane_of state.lanes (edge_into N.edges v 0)

    not-found : (lane < length state.lanes) × (edge_on state.lanes lane ≡ edge_into N.edges v 0)
    not-found =
        let there = stands.way.all (edge_into N.edges v 0) (into-waits N net v Not has not-in not-out 0 (omega arith)) in
        found state.lanes (edge_into N.edges v 0) there.0 there.1 there.2

    not-turns : Turns val (operation (length state.lanes) lane 8) state.lanes (set state.lanes lane (edge_out N.edges v 0))
    not-turns =
        let there = not-found.0 in
        let same = length-set state.lanes lane (edge_out N.edges v 0) in
        record {
          lanes = refl;
          step = record {
            takes_left = refl;
            gives_left = refl;
            within = omega arith;
            last = λ differ. absurd (differ refl);
            leaves = omega arith;
            no_input = λ e. let both : Some Not ≡ Some Input = e in let kinds : Not ≡ Input = cc in not-in kinds;
            no_output = λ e. let both : Some Not ≡ Some Output = e in let kinds : Not ≡ Output = cc in not-out kinds;
          };
          passes = record {
            left =
                ap val (get_or-set_same state.lanes lane (edge_out N.edges v 0) 0 there)
                ∙ val-out v Not has not-in 0 (omega arith)
                ∙ ap (λ (e : ℕ). not (val e)) (sym not-found.1);
            right = λ two. absurd (let both : false ≡ true = two in cc);
            others = λ z ne low single. ap val (get_or-set_other state.lanes lane z (edge_out N.edges v 0) 0 ne);
          };
        }

    pub not-stands : Stands (v + 1) (after_not N.edges v state)
    not-stands =
        let same = length-set state.lanes lane (edge_out N.edges v 0) in
        let wide = runs-wide w val start state.operations state.lanes stands.runs in
        record {
          runs = runs-more w val start state.operations state.lanes (set state.lanes lane (edge_out N.edges v 0)) (operation (length state.lanes) lane 8) stands.runs not-turns (omega arith);
          way = turn N net v Not has not-in not-out state.lanes (set state.lanes lane (edge_out N.edges v 0)) stands.way
              (replaced-one N net v Not has not-in not-out state.lanes stands.way lane not-found.0 refl refl not-found.1);
        }

    pub not-size : length (after_not N.edges v state).lanes ≡ length state.lanes
    not-size = length-set state.lanes lane (edge_out N.edges v 0)

  -- ---- a fan

  module _ (v : ℕ) (has : HasKind N v Fan) (state : State) (stands : Stands v state) (room : length state.lanes + 1 ≤ w) where
    abbrev from : ℕ
    from = lane_of state.lanes (edge_into N.edges v 0)

    abbrev last : ℕ
    last = length state.lanes - 1

    abbrev outs : List ℕ
    outs = edge_out N.edges v 0 ∷ edge_out N.edges v 1 ∷ []

    abbrev there_state : State
    there_state = move_to state (edge_into N.edges v 0) last

    fan-found : (from < length state.lanes) × (edge_on state.lanes from ≡ edge_into N.edges v 0)
    fan-found =
        let there = stands.way.all (edge_into N.edges v 0) (into-waits N net v Fan has fan-in fan-out 0 (omega arith)) in
        found state.lanes (edge_into N.edges v 0) there.0 there.1 there.2

    fan-moved : Moved w val start (AreOnTheirWay N v) state there_state from last
    fan-moved =
        let low = fan-found.0 in
        moved-to w val start (AreOnTheirWay N v) (on-their-way-kept N v) state (edge_into N.edges v 0) last (omega arith) (omega arith) stands.runs stands.way

    fan-at : edge_on there_state.lanes last ≡ edge_into N.edges v 0
    fan-at = fan-moved.there ∙ fan-found.1

    fan-size : last + 1 ≡ length there_state.lanes
    fan-size = let low = fan-found.0 in let same = fan-moved.size in omega arith

    fan-taken : (z : ℕ) → last ≤ z → z < length there_state.lanes → (o : ℕ) × (o < 1) × (edge_on there_state.lanes z ≡ edge_into N.edges v o)
    fan-taken z past h = let size = fan-size in let at : z ≡ last = omega arith in (0, omega arith, ap (edge_on there_state.lanes) at ∙ fan-at)

    fan-held : (o : ℕ) → o < 1 → (z : ℕ) × (last ≤ z) × (z < length there_state.lanes) × (edge_on there_state.lanes z ≡ edge_into N.edges v o)
    fan-held o h =
        let size = fan-size in
        let first : 0 ≡ o = omega arith in
        (last, omega arith, (let k : last < length there_state.lanes = omega arith in k), fan-at ∙ ap (edge_into N.edges v) first)

    fan-given : (s : ℕ) → s < 2 → edge_on outs s ≡ edge_out N.edges v s
    fan-given zero h = refl
    fan-given (suc zero) h = refl
    fan-given (suc (suc s)) h = absurd (omega arith)

    abbrev fan_lanes : List ℕ
    fan_lanes = take last there_state.lanes ++ outs

    fan-first : (j : ℕ) → j < last → edge_on fan_lanes j ≡ edge_on there_state.lanes j
    fan-first = first-lanes N net v Fan has fan-in fan-out there_state.lanes fan-moved.keeps last outs fan-size refl fan-taken fan-held fan-given

    fan-last : (s : ℕ) → s < 2 → edge_on fan_lanes (last + s) ≡ edge_out N.edges v s
    fan-last = last-lanes N net v Fan has fan-in fan-out there_state.lanes fan-moved.keeps last outs fan-size refl fan-taken fan-held fan-given

    fan-length : length fan_lanes ≡ last + 2
    fan-length = whole-length last there_state.lanes outs (let size = fan-size in omega arith)

    fan-turns : Turns val (operation (length there_state.lanes) last 12) there_state.lanes fan_lanes
    fan-turns =
        let size = fan-size in
        let whole = fan-length in
        record {
          lanes = refl;
          step = record {
            takes_left = refl;
            gives_left = refl;
            within = omega arith;
            last = λ differ. fan-size;
            leaves = omega arith;
            no_input = λ e. let both : Some Fan ≡ Some Input = e in let kinds : Fan ≡ Input = cc in fan-in kinds;
            no_output = λ e. let both : Some Fan ≡ Some Output = e in let kinds : Fan ≡ Output = cc in fan-out kinds;
          };
          passes = record {
            left =
                ap val (ap (edge_on fan_lanes) (let e : last ≡ last + 0 = omega arith in e) ∙ fan-last 0 (omega arith))
                ∙ val-out v Fan has fan-in 0 (omega arith)
                ∙ ap val (sym fan-at);
            right = λ two. ap val (fan-last 1 (omega arith)) ∙ val-out v Fan has fan-in 1 (omega arith) ∙ ap val (sym fan-at);
            others = λ z ne low single. ap val (fan-first z (omega arith));
          };
        }

    pub fan-stands : Stands (v + 1) (after_fan N.edges v state)
    fan-stands =
        let low = fan-found.0 in
        let whole = fan-length in
        record {
          runs = runs-more w val start there_state.operations there_state.lanes fan_lanes (operation (length there_state.lanes) last 12) fan-moved.runs fan-turns (omega arith);
          way = turn N net v Fan has fan-in fan-out there_state.lanes fan_lanes fan-moved.keeps
              (replaced-last N net v Fan has fan-in fan-out there_state.lanes fan-moved.keeps last outs fan-size refl fan-taken fan-held fan-given);
        }

    pub fan-more : length (after_fan N.edges v state).lanes ≡ length state.lanes + 1
    fan-more = let low = fan-found.0 in let whole = fan-length in omega arith

  -- ---- a gate

  pub record Together (v : ℕ) (state after : State) (left right : ℕ) : Type 0 where
    pub runs : Runs w val start after.operations after.lanes
    pub way : AreOnTheirWay N v after.lanes
    pub size : length after.lanes ≡ length state.lanes
    pub many : 2 ≤ length state.lanes
    pub before_last : edge_on after.lanes (length state.lanes - 2) ≡ left
    pub at_last : edge_on after.lanes (length state.lanes - 1) ≡ right

  pub together : (v : ℕ) (state : State) → Stands v state → (left right : ℕ) → IsOnItsWay N v left → IsOnItsWay N v right → left ≢ right → Together v state (move_both state left right) left right
  together v state stands left right l r differ =
      let here = stands.way.all left l in
      let there = stands.way.all right r in
      let low = here.1 in
      let more = there.1 in
      let apart : here.0 ≢ there.0 = λ e. differ (sym here.2 ∙ ap (edge_on state.lanes) e ∙ there.2) in
      let many : 2 ≤ length state.lanes = two-lanes here.0 there.0 (length state.lanes) apart low more in
      let first = found state.lanes right there.0 there.1 there.2 in
      let first_low = first.0 in
      let one = moved-to w val start (AreOnTheirWay N v) (on-their-way-kept N v) state right (length state.lanes - 1) (omega arith) (omega arith) stands.runs stands.way in
      let one_size = one.size in
      let again = one.keeps.all left l in
      let lanes = (move_to state right (length state.lanes - 1)).lanes in
      let second = found lanes left again.0 again.1 again.2 in
      let second_low = second.0 in
      let right_there : edge_on lanes (length state.lanes - 1) ≡ right = one.there ∙ first.1 in
      let off_last : lane_of lanes left ≢ length state.lanes - 1 = λ e. differ (sym second.1 ∙ ap (edge_on lanes) e ∙ right_there) in
      let before : lane_of lanes left ≤ length state.lanes - 2 = below-last (lane_of lanes left) (length state.lanes) off_last many (omega arith) in
      let two = moved-to w val start (AreOnTheirWay N v) (on-their-way-kept N v) (move_to state right (length state.lanes - 1)) left (length state.lanes - 2) before (omega arith) one.runs one.keeps in
      record {
        runs = two.runs;
        way = two.keeps;
        size = two.size ∙ one.size;
        many = many;
        before_last = two.there ∙ second.1;
        at_last = two.beyond (length state.lanes - 1) (omega arith) ∙ right_there;
      }

  module _ (v : ℕ) (kind : Kind) (has : HasKind N v kind) (gate : IsGate kind) (state moved : State) (left right : ℕ) (both : Together v state moved left right)
      (which : ((left ≡ edge_into N.edges v 0) × (right ≡ edge_into N.edges v 1)) ⊎ ((left ≡ edge_into N.edges v 1) × (right ≡ edge_into N.edges v 0))) (room : length state.lanes ≤ w) where
    abbrev low_lane : ℕ
    low_lane = length state.lanes - 2

    abbrev gate_lanes : List ℕ
    gate_lanes = take low_lane moved.lanes ++ edge_out N.edges v 0 ∷ []

    gate-size : low_lane + operands kind ≡ length moved.lanes
    gate-size = let many = both.many in let size = both.size in let two = gate.takes in omega arith

    next-is : edge_on moved.lanes (low_lane + 1) ≡ right
    next-is = let many = both.many in ap (edge_on moved.lanes) (let e : low_lane + 1 ≡ length state.lanes - 1 = omega arith in e) ∙ both.at_last

    abbrev InPlace : ℕ → Type 0
    InPlace z = (o : ℕ) × (o < operands kind) × (edge_on moved.lanes z ≡ edge_into N.edges v o)

    placed-left : InPlace low_lane
    placed-left = let two = gate.takes in elim which [
      | inl straight ↦ (0, (let k : 0 < operands kind = omega arith in k), both.before_last ∙ straight.0)
      | inr crossed ↦ (1, (let k : 1 < operands kind = omega arith in k), both.before_last ∙ crossed.0)
    ]

    placed-right : InPlace (low_lane + 1)
    placed-right = let two = gate.takes in elim which [
      | inl straight ↦ (1, (let k : 1 < operands kind = omega arith in k), next-is ∙ straight.1)
      | inr crossed ↦ (0, (let k : 0 < operands kind = omega arith in k), next-is ∙ crossed.1)
    ]

    gate-taken : (z : ℕ) → low_lane ≤ z → z < length moved.lanes → InPlace z
    gate-taken z past h = elim (cases_eq z low_lane) [
      | inl at ↦ (placed-left.0, placed-left.1, ap (edge_on moved.lanes) at ∙ placed-left.2)
      | inr ne ↦ (
          let size = gate-size in
          let two = gate.takes in
          let at : z ≡ low_lane + 1 = omega arith in
          (placed-right.0, placed-right.1, ap (edge_on moved.lanes) at ∙ placed-right.2))
    ]

    abbrev IsHeld : ℕ → Type 0
    IsHeld o = (z : ℕ) × (low_lane ≤ z) × (z < length moved.lanes) × (edge_on moved.lanes z ≡ edge_into N.edges v o)

    at-left : (o : ℕ) → left ≡ edge_into N.edges v o → IsHeld o
    at-left o e = let size = gate-size in let two = gate.takes in (low_lane, omega arith, (let k : low_lane < length moved.lanes = omega arith in k), both.before_last ∙ e)

    at-right : (o : ℕ) → right ≡ edge_into N.edges v o → IsHeld o
    at-right o e = let size = gate-size in let two = gate.takes in (low_lane + 1, omega arith, (let k : low_lane + 1 < length moved.lanes = omega arith in k), next-is ∙ e)

    gate-held : (o : ℕ) → o < operands kind → IsHeld o
    gate-held o h = elim (cases_eq o 0) [
      | inl first ↦ subst IsHeld (sym first) (elim which [ inl straight ↦ at-left 0 straight.0 | inr crossed ↦ at-right 0 crossed.1 ])
      | inr ne ↦ (
          let two = gate.takes in
          let second : 1 ≡ o = omega arith in
          subst IsHeld second (elim which [ inl straight ↦ at-right 1 straight.1 | inr crossed ↦ at-left 1 crossed.0 ]))
    ]

    gate-given : (s : ℕ) → s < slots kind → edge_on (edge_out N.edges v 0 ∷ []) s ≡ edge_out N.edges v s
    gate-given zero h = refl
    gate-given (suc s) h = absurd (let one = gate.sends in omega arith)

    gate-first : (j : ℕ) → j < low_lane → edge_on gate_lanes j ≡ edge_on moved.lanes j
    gate-first = first-lanes N net v kind has gate.no_in gate.no_out moved.lanes both.way low_lane (edge_out N.edges v 0 ∷ []) gate-size (sym gate.sends) gate-taken gate-held gate-given

    gate-last : (s : ℕ) → s < slots kind → edge_on gate_lanes (low_lane + s) ≡ edge_out N.edges v s
    gate-last = last-lanes N net v kind has gate.no_in gate.no_out moved.lanes both.way low_lane (edge_out N.edges v 0 ∷ []) gate-size (sym gate.sends) gate-taken gate-held gate-given

    gate-length : length gate_lanes ≡ low_lane + 1
    gate-length = whole-length low_lane moved.lanes (edge_out N.edges v 0 ∷ []) (let size = gate-size in omega arith)

    -- the gate reads its operands, maybe exchanged
    gate-reads : gives kind (val left ∷ val right ∷ []) 0 ≡ gives kind (values_into N.edges values v kind) 0
    gate-reads = elim which [
      | inl straight ↦ ap₂ (λ (a b : ℕ). gives kind (val a ∷ val b ∷ []) 0) straight.0 straight.1 ∙ sym entering
      | inr crossed ↦ (
          ap₂ (λ (a b : ℕ). gives kind (val a ∷ val b ∷ []) 0) crossed.0 crossed.1
          ∙ exchanged kind (val (edge_into N.edges v 1)) (val (edge_into N.edges v 0)) 0 gate.takes
          ∙ sym entering)
    ]
      where
        entering : gives kind (values_into N.edges values v kind) 0 ≡ gives kind (val (edge_into N.edges v 0) ∷ val (edge_into N.edges v 1) ∷ []) 0
        entering = ap (λ (k : ℕ). gives kind (map (λ o. value_of values (edge_into N.edges v o)) (range_with_len 0 k)) 0) gate.takes

    gate-turns : Turns val (operation (length moved.lanes) low_lane (node_form kind)) moved.lanes gate_lanes
    gate-turns =
        let size = gate-size in
        let two = gate.takes in
        let many = both.many in
        let whole = gate-length in
        let one = gate.sends in
        let taken : side_count (form_upper (node_form kind)) ≡ 2 = ap side_count gate.upper in
        let given : side_count (form_lower (node_form kind)) ≡ 1 = ap side_count gate.lower in
        record {
          lanes = refl;
          step = record {
            takes_left = ap (λ (u : Sides). u.left) gate.upper;
            gives_left = ap (λ (u : Sides). u.left) gate.lower;
            within = omega arith;
            last = λ differ. omega arith;
            leaves = omega arith;
            no_input = λ e. gate.no_in (let same : Some kind ≡ Some Input = sym gate.node ∙ e in cc);
            no_output = λ e. gate.no_out (let same : Some kind ≡ Some Output = sym gate.node ∙ e in cc);
          };
          passes = record {
            left =
                ap val (ap (edge_on gate_lanes) (let e : low_lane ≡ low_lane + 0 = omega arith in e) ∙ gate-last 0 (omega arith))
                ∙ val-out v kind has gate.no_in 0 (omega arith)
                ∙ sym gate-reads
                ∙ sym (gate.value (val left) (val right))
                ∙ sym (ap₂ (λ (a b : ℕ). form_sends (node_form kind) (val a ∷ val b ∷ []) Left) both.before_last next-is)
                ∙ sym (ap (λ (u : Sides). form_sends (node_form kind) (used_values u (on val moved.lanes low_lane) (on val moved.lanes (low_lane + 1))) Left) gate.upper);
            right = λ more. absurd (let none : false ≡ true = sym (ap (λ (u : Sides). u.right) gate.lower) ∙ more in cc);
            others = λ z ne low single. ap val (gate-first z (elim (cases_eq z (low_lane + 1)) [
              | inl at ↦ absurd (
                  let is = right-is (form_upper (node_form kind)) low_lane z (ap (λ (u : Sides). u.left) gate.upper) (ap (λ (u : Sides). u.right) gate.upper) at in
                  let clash : false ≡ true = sym single ∙ is in
                  cc)
              | inr other ↦ omega arith
            ]));
          };
        }

    pub gate-way : AreOnTheirWay N (v + 1) gate_lanes
    gate-way = turn N net v kind has gate.no_in gate.no_out moved.lanes gate_lanes both.way
        (replaced-last N net v kind has gate.no_in gate.no_out moved.lanes both.way low_lane (edge_out N.edges v 0 ∷ []) gate-size (sym gate.sends) gate-taken gate-held gate-given)

    pub gate-runs : Runs w val start (moved.operations ++ operation (length moved.lanes) low_lane (node_form kind) ∷ []) gate_lanes
    gate-runs = let whole = gate-length in let many = both.many in
        runs-more w val start moved.operations moved.lanes gate_lanes (operation (length moved.lanes) low_lane (node_form kind)) both.runs gate-turns (omega arith)

    pub gate-less : length gate_lanes ≡ length state.lanes - 1
    gate-less = let whole = gate-length in let many = both.many in omega arith

  -- ---- any node

  pub gate-turn : (v : ℕ) (kind : Kind) → HasKind N v kind → IsGate kind → (state : State) → Stands v state → length state.lanes ≤ w →
      Stands (v + 1) (after_gate N.edges v kind state) × (length (after_gate N.edges v kind state).lanes ≡ length state.lanes - 1)
  gate-turn v kind has gate state stands room = elim (cases_Bool (nat_lt (lane_of state.lanes first) (lane_of state.lanes second))) [
    | inl less ↦ subst Done (sym (ap (λ (b : Bool). if b then move_both state first second else move_both state second first) less))
        (done (move_both state first second) first second (together v state stands first second (waits 0 (omega (arith, gate.takes))) (waits 1 (omega (arith, gate.takes))) apart) (inl (refl, refl)))
    | inr no_more ↦ subst Done (sym (ap (λ (b : Bool). if b then move_both state first second else move_both state second first) no_more))
        (done (move_both state second first) second first (together v state stands second first (waits 1 (omega (arith, gate.takes))) (waits 0 (omega (arith, gate.takes))) (λ e. apart (sym e))) (inr (refl, refl)))
  ]
    where
      first : ℕ
      first = edge_into N.edges v 0

      second : ℕ
      second = edge_into N.edges v 1

      waits : (o : ℕ) → o < operands kind → IsOnItsWay N v (edge_into N.edges v o)
      waits o h = into-waits N net v kind has gate.no_in gate.no_out o h

      apart : edge_into N.edges v 0 ≢ edge_into N.edges v 1
      apart e = none-is-one 0 1 refl refl (into-once N net v kind has gate.no_in gate.no_out 0 1 (omega (arith, gate.takes)) (omega (arith, gate.takes)) e)

      Done : State → Type 0
      Done moved =
          Stands (v + 1) (replace_last moved (length state.lanes - 2) (node_form kind) (edge_out N.edges v 0 ∷ []))
          × (length (replace_last moved (length state.lanes - 2) (node_form kind) (edge_out N.edges v 0 ∷ [])).lanes ≡ length state.lanes - 1)

      done : (moved : State) (left right : ℕ) → Together v state moved left right →
          ((left ≡ edge_into N.edges v 0) × (right ≡ edge_into N.edges v 1)) ⊎ ((left ≡ edge_into N.edges v 1) × (right ≡ edge_into N.edges v 0)) → Done moved
      done moved left right both which = (
        record { runs = gate-runs v kind has gate state moved left right both which room; way = gate-way v kind has gate state moved left right both which room },
        gate-less v kind has gate state moved left right both which room,
      )

  -- an input and an output leave the lanes as they are

  input-way : (v : ℕ) → HasKind N v Input → (lanes : List ℕ) → AreOnTheirWay N v lanes → AreOnTheirWay N (v + 1) lanes
  input-way v has lanes way = record {
    once = way.once;
    only = λ i h. forth (edge_on lanes i) (way.only i h);
    all = λ e later. way.all e (back e later);
  }
    where
      forth : (e : ℕ) → IsOnItsWay N v e → IsOnItsWay N (v + 1) e
      forth e now = record {
        edge = now.edge;
        at = now.at;
        begun = elim now.begun [ inl past ↦ inl (omega arith) | inr input ↦ inr input ];
        waits = λ past. elim (cases_lt now.edge.target v) [
          | inl before ↦ now.waits before
          | inr here ↦ (
              let same : v ≡ now.edge.target = omega arith in
              let low = operand-within N net e now.edge now.at Input (subst (λ u. HasKind N u Input) same has) in
              let none : now.edge.operand < 0 = low in
              absurd (omega arith))
        ];
      }

      back : (e : ℕ) → IsOnItsWay N (v + 1) e → IsOnItsWay N v e
      back e later = record {
        edge = later.edge;
        at = later.at;
        begun = elim later.begun [
          | inl past ↦ elim (cases_lt later.edge.source v) [
            | inl low ↦ inl low
            | inr here ↦ (let same : v ≡ later.edge.source = omega arith in inr (subst (λ u. HasKind N u Input) same has))
          ]
          | inr input ↦ inr input
        ];
        waits = λ past. later.waits (omega arith);
      }

  output-way : (v : ℕ) → HasKind N v Output → (lanes : List ℕ) → AreOnTheirWay N v lanes → AreOnTheirWay N (v + 1) lanes
  output-way v has lanes way = record {
    once = way.once;
    only = λ i h. forth (edge_on lanes i) (way.only i h);
    all = λ e later. way.all e (back e later);
  }
    where
      forth : (e : ℕ) → IsOnItsWay N v e → IsOnItsWay N (v + 1) e
      forth e now = record {
        edge = now.edge;
        at = now.at;
        begun = elim now.begun [ inl past ↦ inl (omega arith) | inr input ↦ inr input ];
        waits = λ past. elim (cases_lt now.edge.target v) [
          | inl before ↦ now.waits before
          | inr here ↦ (let same : v ≡ now.edge.target = omega arith in subst (λ u. HasKind N u Output) same has)
        ];
      }

      back : (e : ℕ) → IsOnItsWay N (v + 1) e → IsOnItsWay N v e
      back e later = record {
        edge = later.edge;
        at = later.at;
        begun = elim later.begun [
          | inl past ↦ elim (cases_lt later.edge.source v) [
            | inl low ↦ inl low
            | inr here ↦ (
                let same : v ≡ later.edge.source = omega arith in
                let low = slot-within N net e later.edge later.at Output (subst (λ u. HasKind N u Output) same has) in
                let none : later.edge.slot < 0 = low in
                absurd (omega arith))
          ]
          | inr input ↦ inr input
        ];
        waits = λ past. later.waits (omega arith);
      }

  pub node-turn : (v : ℕ) (kind : Kind) → HasKind N v kind → (state : State) → Stands v state → length state.lanes ≤ w → lanes_after kind (length state.lanes) ≤ w →
      Stands (v + 1) (after_node N.edges v kind state) × (length (after_node N.edges v kind state).lanes ≡ lanes_after kind (length state.lanes))
  node-turn v Input has state stands now room = (record { runs = stands.runs; way = input-way v has state.lanes stands.way }, refl)
  node-turn v Output has state stands now room = (record { runs = stands.runs; way = output-way v has state.lanes stands.way }, refl)
  node-turn v Not has state stands now room = (not-stands v has state stands, not-size v has state stands)
  node-turn v Fan has state stands now room = (fan-stands v has state stands room, fan-more v has state stands room)
  node-turn v And has state stands now room = gate-turn v And has and-gate state stands now
  node-turn v Or has state stands now room = gate-turn v Or has or-gate state stands now
  node-turn v Nand has state stands now room = gate-turn v Nand has nand-gate state stands now
  node-turn v Nor has state stands now room = gate-turn v Nor has nor-gate state stands now
  node-turn v Xor has state stands now room = gate-turn v Xor has xor-gate state stands now
  node-turn v Xnor has state stands now room = gate-turn v Xnor has xnor-gate state stands now

  pub most-first : (s : ℕ) (rest : List Node) → s ≤ most_lanes s rest
  unfolding most_lanes
  most-first s [] = omega arith
  most-first s (node ∷ rest) = omega arith

  pub nodes-run : (rest : List Node) (v : ℕ) (state : State) → ((k : ℕ) → slice_get rest k ≡ slice_get N.nodes (v + k)) → Stands v state → most_lanes (length state.lanes) rest ≤ w →
      Stands (v + length rest) (after_nodes N.edges v rest state)
  unfolding after_nodes most_lanes
  nodes-run [] v state same stands room = subst (λ u. Stands u state) (let e : v ≡ v + 0 = omega arith in e) stands
  nodes-run (node ∷ rest) v state same stands room =
      let has : HasKind N v node.kind = (node, ap (slice_get N.nodes) (let e : v ≡ v + 0 = omega arith in e) ∙ sym (same 0), refl) in
      let later : most_lanes (lanes_after node.kind (length state.lanes)) rest ≤ w = omega arith in
      let next = most-first (lanes_after node.kind (length state.lanes)) rest in
      let done = node-turn v node.kind has state stands (omega arith) (omega arith) in
      subst (λ u. Stands u (after_nodes N.edges (v + 1) rest (after_node N.edges v node.kind state))) (let e : v + 1 + length rest ≡ v + suc (length rest) = omega arith in e)
      (nodes-run rest (v + 1) (after_node N.edges v node.kind state)
      (λ k. same (suc k) ∙ ap (slice_get N.nodes) (let e : v + suc k ≡ v + 1 + k = omega arith in e))
      done.0
      (subst (λ s. most_lanes s rest ≤ w) (sym done.1) later))
