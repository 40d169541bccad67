-- Operations on lanes that hold edges: exchanges, and how an edge moves to the right by them.
use Rattle.std.proofs.Common.{◌≡◌, ℕ, zero, suc, ◌+◌, ◌-◌, ◌<◌, ◌≤◌, Bool, false, List, [], ◌∷◌, ◌++◌, length, get_or, Some, None, inl, inr, refl, sym, ap, ◌∙◌, subst, arith}
use Rattle.std.specs.Prelude.{◌==◌, swap}
use Rattle.std.proofs.lemmas.Bool.{cases_lt, eqb-true, eqb-false}
use Rattle.std.proofs.lemmas.List.Edits.{swapped_from_swap, length-swap}
use Rattle.std.proofs.lemmas.List.Sums.{fails_before_first, passes_at_first}
use Rattle.bx_forms.specs.declared.kind.Kind.TheVariants.{Input, Output}
use Rattle.bx_forms.specs.Forms.{form_upper}
use Rattle.bx_quick.specs.declared.operation.Operation.{Operation}
use Rattle.bx_quick.specs.Operations.{takes_as_right, cross}
use Rattle.bx_quick.specs.LaneStates.{State, lane_of, exchange, move_right, move_to}
use Rattle.bx_quick.specs.Chains.{IsStep, IsChain, Passes, AreCarried}
use Rattle.bx_quick.proofs.ChainLinks.{right-is}

abbrev pub edge_on : List ℕ → ℕ → ℕ
edge_on lanes x = get_or lanes x 0

-- the values on the lanes, where edges have these
abbrev pub on : (ℕ → Bool) → List ℕ → ℕ → Bool
on val lanes x = val (edge_on lanes x)

abbrev pub operation : ℕ → ℕ → ℕ → Operation
operation lanes lane form = record { lanes = lanes; lane = lane; form = form }

-- the operation makes of these lanes those
pub record Turns (val : ℕ → Bool) (op : Operation) (before after : List ℕ) : Type 0 where
  pub lanes : op.lanes ≡ length before
  pub step : IsStep op (length after)
  pub passes : Passes op (on val before) (on val after)

-- so do these operations, one after the other, on w lanes at most
abbrev pub Runs : ℕ → (ℕ → Bool) → List ℕ → List Operation → List ℕ → Type 0
Runs w val before [] after = (length before ≤ w) × (before ≡ after)
Runs w val before (op ∷ ops) after = (between : List ℕ) × (length before ≤ w) × Turns val op before between × Runs w val between ops after

pub runs-chain : (w : ℕ) (val : ℕ → Bool) (before : List ℕ) (ops : List Operation) (after : List ℕ) → Runs w val before ops after → IsChain w (length before) ops (length after)
runs-chain w val before [] after r = (r.0, ap length r.1)
runs-chain w val before (op ∷ ops) after r = (length r.0, r.1, r.2.lanes, r.2.step, runs-chain w val r.0 ops after r.3)

pub runs-carry : (w : ℕ) (val : ℕ → Bool) (before : List ℕ) (ops : List Operation) (after : List ℕ) → Runs w val before ops after → AreCarried ops (on val before) (on val after)
runs-carry w val before [] after r = λ x. ap (λ lanes. on val lanes x) r.1
runs-carry w val before (op ∷ ops) after r = (on val r.0, r.2.passes, runs-carry w val r.0 ops after r.3)

pub runs-wide : (w : ℕ) (val : ℕ → Bool) (before : List ℕ) (ops : List Operation) (after : List ℕ) → Runs w val before ops after → length after ≤ w
runs-wide w val before [] after r = subst (λ lanes. length lanes ≤ w) r.1 r.0
runs-wide w val before (op ∷ ops) after r = runs-wide w val r.0 ops after r.3

pub runs-more : (w : ℕ) (val : ℕ → Bool) (before : List ℕ) (ops : List Operation) (between after : List ℕ) (op : Operation) → Runs w val before ops between → Turns val op between after → length after ≤ w →
    Runs w val before (ops ++ op ∷ []) after
runs-more w val before [] between after op r turns h = (after, r.0, subst (λ lanes. Turns val op lanes after) (sym r.1) turns, (h, refl))
runs-more w val before (first ∷ ops) between after op r turns h = (r.0, r.1, r.2, runs-more w val r.0 ops between after op r.3 turns h)

-- ---- an exchange

pub exchange-turns : (val : ℕ → Bool) (lanes : List ℕ) (x : ℕ) → x + 1 < length lanes → Turns val (operation (length lanes) x cross) lanes (swap lanes x (x + 1))
exchange-turns val lanes x h = record {
  lanes = refl;
  step = record {
    takes_left = refl;
    gives_left = refl;
    within = omega arith;
    last = λ differ. absurd (differ refl);
    leaves = let e = length-swap lanes x (x + 1) in omega arith;
    no_input = λ e. let both : None ≡ Some Input = e in cc;
    no_output = λ e. let both : None ≡ Some Output = e in cc;
  };
  passes = record {
    left = ap val swapped.0;
    right = λ two. ap val swapped.1;
    others = λ z ne low single. ap val (swapped.2 z ne (λ e. beside z single e));
  };
}
  where
    swapped : (edge_on (swap lanes x (x + 1)) x ≡ edge_on lanes (x + 1)) × (edge_on (swap lanes x (x + 1)) (x + 1) ≡ edge_on lanes x) ×
        ((m : ℕ) → (m ≡ x → ⊥) → (m ≡ x + 1 → ⊥) → edge_on (swap lanes x (x + 1)) m ≡ edge_on lanes m)
    swapped = swapped_from_swap lanes (swap lanes x (x + 1)) x (x + 1) 0 (omega arith) h refl

    beside : (z : ℕ) → takes_as_right (operation (length lanes) x cross) z ≡ false → z ≡ x + 1 → ⊥
    beside z single e = let two = right-is (form_upper cross) x z refl refl e in cc

-- ---- moves

-- a property of lanes that an exchange keeps
abbrev pub IsKept : (List ℕ → Type 0) → Type 0
IsKept P = (lanes : List ℕ) (x : ℕ) → x + 1 < length lanes → P lanes → P (swap lanes x (x + 1))

pub record Moved (w : ℕ) (val : ℕ → Bool) (start : List ℕ) (P : List ℕ → Type 0) (before after : State) (from to : ℕ) : Type 0 where
  pub runs : Runs w val start after.operations after.lanes
  pub keeps : P after.lanes
  pub size : length after.lanes ≡ length before.lanes
  pub there : edge_on after.lanes to ≡ edge_on before.lanes from
  pub beyond : (z : ℕ) → to < z → edge_on after.lanes z ≡ edge_on before.lanes z

module _ (w : ℕ) (val : ℕ → Bool) (start : List ℕ) (P : List ℕ → Type 0) (kept : IsKept P) where
  pub moved : (n x to : ℕ) (state : State) → x + n ≡ to → to < length state.lanes → Runs w val start state.operations state.lanes → P state.lanes → Moved w val start P state (move_right state x n) x to
  moved zero x to state e h r p = record {
    runs = r;
    keeps = p;
    size = refl;
    there = ap (edge_on state.lanes) (let same : to ≡ x = omega arith in same);
    beyond = λ z far. refl;
  }
  moved (suc n) x to state e h r p =
      let low : x + 1 < length state.lanes = omega arith in
      let same = length-swap state.lanes x (x + 1) in
      let wide = runs-wide w val start state.operations state.lanes r in
      let swapped = swapped_from_swap state.lanes (swap state.lanes x (x + 1)) x (x + 1) 0 (omega arith) low refl in
      let rest = moved n (x + 1) to (exchange state x) (omega arith) (omega arith)
      (runs-more w val start state.operations state.lanes (swap state.lanes x (x + 1)) (operation (length state.lanes) x cross) r (exchange-turns val state.lanes x low) (omega arith))
      (kept state.lanes x low p) in
      record {
        runs = rest.runs;
        keeps = rest.keeps;
        size = rest.size ∙ same;
        there = rest.there ∙ swapped.1;
        beyond = λ z far. rest.beyond z far ∙ swapped.2 z (λ q. omega arith) (λ q. omega arith);
      }

  pub moved-to : (state : State) (e lane : ℕ) → lane_of state.lanes e ≤ lane → lane < length state.lanes → Runs w val start state.operations state.lanes → P state.lanes →
      Moved w val start P state (move_to state e lane) (lane_of state.lanes e) lane
  moved-to state e lane h low r p = moved (lane - lane_of state.lanes e) (lane_of state.lanes e) lane state (omega arith) low r p

-- the lane of an edge that is on its way
pub found : (lanes : List ℕ) (e i : ℕ) → i < length lanes → edge_on lanes i ≡ e → (lane_of lanes e < length lanes) × (edge_on lanes (lane_of lanes e) ≡ e)
found lanes e i h is = elim (cases_lt (lane_of lanes e) (length lanes)) [
  | inl low ↦ (low, eqb-true (edge_on lanes (lane_of lanes e)) e (passes_at_first (λ other. other == e) lanes 0 low))
  | inr past ↦ absurd (eqb-false (edge_on lanes i) e (fails_before_first (λ other. other == e) lanes i 0 (omega arith)) is)
]
