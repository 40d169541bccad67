-- Lists that pass the test are a network.
use Rattle.std.proofs.Common.{◌≡◌, ◌≢◌, ℕ, zero, suc, ◌+◌, ◌<◌, ◌≤◌, ◌==◌, ◌&&◌, ◌||◌, ◌⊎◌, nat_lt, not, Bool, true, false, List, [], ◌∷◌, length, slice_get, Option, Some, IsTrue, inl, inr, refl, sym, ap, ap₂, ◌∙◌, subst, arith, zero-add, le-ltb, ne_eqb, eq-eqb}
use Rattle.std.proofs.lemmas.Bool.{and_parts, and_right, or_cases, ltb-true, eqb-true, not-true}
use Rattle.std.specs.List.{AllByRecursion}
use Rattle.bx_forms.specs.declared.kind.Kind.{Kind}
use Rattle.bx_forms.specs.declared.kind.Kind.TheVariants.{Input, Output}
use Rattle.bx_forms.specs.Kinds.{operands, slots}
use Rattle.bx_logic.proofs.Ordered.{Ascends, AllPairs-from_ascends}
use Rattle.bx_network.specs.declared.node.Node.{Node}
use Rattle.bx_network.specs.declared.node.Edge.{Edge}
use Rattle.bx_network.specs.Networks.{Network, network_of, IsNetwork, IsBefore, HasKind, HasPort, fan_out, fan_in, leaves_by, enters_by, is_output, output_count, one_if}
use Rattle.bx_network.proofs.Networks.{operands-few, slots-few}
use Rattle.bx_network.specs.WrittenOut.{each_passes, some_passes, each_pair_passes, each_numbered_passes, edge_passes, is_before, is_input, has_ways, has_edges, has_port, are_apart, is_output_at, has_outputs, is_network}

-- ---- lists

each-got : {X : Type 0} (p : X → Bool) (xs : List X) (i : ℕ) (x : X) → each_passes p xs ≡ true → slice_get xs i ≡ Some x → p x ≡ true
each-got p [] i x e at = absurd (cc)
each-got p (y ∷ ys) zero x e at = let same : y ≡ x = cc in ap p (sym same) ∙ (and_parts (p y) (each_passes p ys) e).0
each-got p (y ∷ ys) (suc i) x e at = each-got p ys i x (and_parts (p y) (each_passes p ys) e).1 at

each-all : {X : Type 0} (p : X → Bool) (P : X → Type 0) (xs : List X) → ((x : X) → p x ≡ true → P x) → each_passes p xs ≡ true → AllByRecursion P xs
each-all p P [] says e = tt
each-all p P (x ∷ xs) says e = let parts = and_parts (p x) (each_passes p xs) e in (says x parts.0, each-all p P xs says parts.1)

some-got : {X : Type 0} (p : X → Bool) (xs : List X) → some_passes p xs ≡ true → (i : ℕ) × (x : X) × (slice_get xs i ≡ Some x) × (p x ≡ true)
some-got p [] e = absurd (cc)
some-got p (x ∷ xs) e = elim (or_cases (p x) (some_passes p xs) e) [
  | inl here ↦ (0, x, refl, here)
  | inr later ↦ (let (i, y, at, passes) = some-got p xs later in (suc i, y, at, passes))
]

pairs-ascend : {X : Type 0} (p : X → X → Bool) (R : X → X → Type 0) (xs : List X) → ((x y : X) → p x y ≡ true → R x y) → each_pair_passes p xs ≡ true → Ascends R xs
pairs-ascend p R [] says e = tt
pairs-ascend p R (x ∷ xs) says e = let parts = and_parts (each_passes (p x) xs) (each_pair_passes p xs) e in (each-all (p x) (R x) xs (says x) parts.0, pairs-ascend p R xs says parts.1)

-- an item that doesn't pass with itself stands at one place
stands-once : {X : Type 0} (p : X → X → Bool) (xs : List X) (x : X) → p x x ≡ false → each_pair_passes p xs ≡ true → (i j : ℕ) → slice_get xs i ≡ Some x → slice_get xs j ≡ Some x → i ≡ j
stands-once p [] x none e i j at_i at_j = absurd (cc)
stands-once p (y ∷ ys) x none e zero zero at_i at_j = refl
stands-once p (y ∷ ys) x none e zero (suc j) at_i at_j =
    let same : y ≡ x = cc in
    let passes = each-got (p y) ys j x (and_parts (each_passes (p y) ys) (each_pair_passes p ys) e).0 at_j in
    let own : p y x ≡ p x x = ap (λ z. p z x) same in
    absurd (cc)
stands-once p (y ∷ ys) x none e (suc i) zero at_i at_j =
    let same : y ≡ x = cc in
    let passes = each-got (p y) ys i x (and_parts (each_passes (p y) ys) (each_pair_passes p ys) e).0 at_i in
    let own : p y x ≡ p x x = ap (λ z. p z x) same in
    absurd (cc)
stands-once p (y ∷ ys) x none e (suc i) (suc j) at_i at_j = ap suc (stands-once p ys x none (and_parts (each_passes (p y) ys) (each_pair_passes p ys) e).1 i j at_i at_j)

numbered-got : {X : Type 0} (p : ℕ → X → Bool) (v : ℕ) (xs : List X) (i : ℕ) (x : X) → each_numbered_passes p v xs ≡ true → slice_get xs i ≡ Some x → p (v + i) x ≡ true
numbered-got p v [] i x e at = absurd (cc)
numbered-got p v (y ∷ ys) zero x e at =
    let same : y ≡ x = cc in
    let here : v + 0 ≡ v = omega arith in
    ap (λ w. p w x) here ∙ ap (p v) (sym same) ∙ (and_parts (p v y) (each_numbered_passes p (suc v) ys) e).0
numbered-got p v (y ∷ ys) (suc i) x e at =
    let here : v + suc i ≡ suc v + i = omega arith in
    ap (λ w. p w x) here ∙ numbered-got p (suc v) ys i x (and_parts (p v y) (each_numbered_passes p (suc v) ys) e).1 at

-- ---- edges

-- no edge leaves by a slot, or enters by an operand, from 2 on
fan_out_past : (edges : List Edge) (v slot : ℕ) → AllByRecursion (λ e. e.slot < 2) edges → 2 ≤ slot → fan_out edges v slot ≡ []
fan_out_past [] v slot few h = refl
fan_out_past (e ∷ es) v slot few h =
    let low = few.0 in
    let other = ne_eqb e.slot slot (omega arith) in
    let no : leaves_by v slot e ≡ false = and_right _ _ other in
    rw no (fan_out_past es v slot few.1 h)

fan_in_past : (edges : List Edge) (v operand : ℕ) → AllByRecursion (λ e. e.operand < 2) edges → 2 ≤ operand → fan_in edges v operand ≡ []
fan_in_past [] v operand few h = refl
fan_in_past (e ∷ es) v operand few h =
    let low = few.0 in
    let other = ne_eqb e.operand operand (omega arith) in
    let no : enters_by v operand e ≡ false = and_right _ _ other in
    rw no (fan_in_past es v operand few.1 h)

-- a count that is as wanted at 0 and 1, and 0 from 2 on
ways-say : (count : ℕ → ℕ) (most : ℕ) → most ≤ 2 → has_ways count most ≡ true → ((k : ℕ) → 2 ≤ k → count k ≡ 0) → (k : ℕ) → count k ≡ one_if (nat_lt k most)
ways-say count most few e past zero = eqb-true (count 0) (one_if (nat_lt 0 most)) (and_parts _ _ e).0
ways-say count most few e past (suc zero) = eqb-true (count 1) (one_if (nat_lt 1 most)) (and_parts _ _ e).1
ways-say count most few e past (suc (suc k)) = past (suc (suc k)) (omega arith) ∙ ap one_if (sym (le-ltb (suc (suc k)) most (omega arith)))

before-says : (e f : Edge) → is_before e f ≡ true → IsBefore e f
before-says e f h = elim (or_cases _ _ h) [
  | inl less ↦ inl (ltb-true e.source f.source less)
  | inr both ↦ (let parts = and_parts _ _ both in inr (eqb-true e.source f.source parts.0, ltb-true e.slot f.slot parts.1))
]

record Ends (nodes : ℕ) (e : Edge) : Type 0 where
  forward : e.source < e.target
  within : e.target < nodes
  slot : e.slot < 2
  operand : e.operand < 2

edge-says : (nodes : ℕ) (e : Edge) → edge_passes nodes e ≡ true → Ends nodes e
edge-says nodes e h =
    let (forward, rest) = and_parts _ _ h in
    let (within, last) = and_parts _ _ rest in
    let (slot, operand) = and_parts _ _ last in
    record { forward = ltb-true e.source e.target forward; within = ltb-true e.target nodes within; slot = ltb-true e.slot 2 slot; operand = ltb-true e.operand 2 operand }

-- ---- nodes

output-says : (kind : Kind) → is_output kind ≡ true → kind ≡ Output
output-says Output e = refl
output-says _ e = absurd (cc)

-- a node that is neither an input nor an output has port 0
gate-port : (outputs : ℕ) (kind : Kind) (port : ℕ) → kind ≢ Input → kind ≢ Output → has_port outputs (record { kind = kind; port = port }) ≡ true → port ≡ 0
gate-port outputs Input port one other e = absurd (one refl)
gate-port outputs Output port one other e = absurd (other refl)
gate-port outputs _ port one other e = eqb-true port 0 e

input-itself : (port : ℕ) → are_apart (record { kind = Input; port = port }) (record { kind = Input; port = port }) ≡ false
input-itself port = ap not (eq-eqb port port refl)

output-itself : (port : ℕ) → are_apart (record { kind = Output; port = port }) (record { kind = Output; port = port }) ≡ false
output-itself port = ap not (eq-eqb port port refl)

outputs-got : (nodes : List Node) (outputs port : ℕ) → port < outputs → has_outputs nodes outputs ≡ true → some_passes (is_output_at port) nodes ≡ true
outputs-got nodes zero port low e = absurd (omega arith)
outputs-got nodes (suc outputs) port low e = elim (last (omega arith)) [
  | inl same ↦ ap (λ p. some_passes (is_output_at p) nodes) same ∙ (and_parts _ _ e).0
  | inr less ↦ outputs-got nodes outputs port less (and_parts _ _ e).1
]
  where
    last : port ≤ outputs → (port ≡ outputs) ⊎ (port < outputs)
    last h = grind arith

-- a node of this kind with this port
abbrev some_node : Kind → ℕ → Option Node
some_node kind port = Some (record { kind = kind; port = port })

output-found : (nodes : List Node) (port : ℕ) → (i : ℕ) × (node : Node) × (slice_get nodes i ≡ Some node) × (is_output_at port node ≡ true) → (v : ℕ) × (slice_get nodes v ≡ Some (record { kind = Output; port = port }))
output-found nodes port (i, node, at, passes) =
    let parts = and_parts (is_output node.kind) (node.port == port) passes in
    let kind = output-says node.kind parts.0 in
    let own = eqb-true node.port port parts.1 in
    (i, at ∙ ap₂ (λ k p. some_node k p) kind own)

pub network-passes : (nodes : List Node) (edges : List Edge) → IsTrue (is_network nodes edges) → IsNetwork (network_of nodes edges)
network-passes nodes edges e =
    let N : Network = network_of nodes edges in
    let (few, rest) = and_parts _ _ e in
    let (edges_pass, more) = and_parts _ _ rest in
    let (ways_pass, others) = and_parts _ _ more in
    let (apart, ports) = and_parts _ _ others in
    let (ports_pass, outputs) = and_parts _ _ ports in
    let (each_edge, ordered) = and_parts _ _ edges_pass in
    record {
      few_nodes = ltb-true (length nodes) 4294967296 (and_parts _ _ few).0;
      few_edges = ltb-true (length edges) 4294967296 (and_parts _ _ few).1;
      within = each-all (edge_passes (length nodes)) (λ (d : Edge). d.target < length nodes) edges (λ d h. (edge-says (length nodes) d h).within) each_edge;
      forward = each-all (edge_passes (length nodes)) (λ (d : Edge). d.source < d.target) edges (λ d h. (edge-says (length nodes) d h).forward) each_edge;
      leaves = λ v kind (node, is, same) slot.
          let slots_few = each-all (edge_passes (length nodes)) (λ (d : Edge). d.slot < 2) edges (λ d h. (edge-says (length nodes) d h).slot) each_edge in
          let both = numbered-got (has_edges edges) 0 nodes v node ways_pass is in
          let here : 0 + v ≡ v = zero-add v in
          let own : has_edges edges v node ≡ true = subst (λ (w : ℕ). has_edges edges w node ≡ true) here both in
          subst (λ (k : Kind). length (fan_out edges v slot) ≡ one_if (nat_lt slot (slots k))) same
          (ways-say (λ slot. length (fan_out edges v slot)) (slots node.kind) (slots-few node.kind) (and_parts _ _ own).0 (λ k past. ap length (fan_out_past edges v k slots_few past)) slot);
      enters = λ v kind (node, is, same) operand.
          let operands_few = each-all (edge_passes (length nodes)) (λ (d : Edge). d.operand < 2) edges (λ d h. (edge-says (length nodes) d h).operand) each_edge in
          let both = numbered-got (has_edges edges) 0 nodes v node ways_pass is in
          let here : 0 + v ≡ v = zero-add v in
          let own : has_edges edges v node ≡ true = subst (λ (w : ℕ). has_edges edges w node ≡ true) here both in
          subst (λ (k : Kind). length (fan_in edges v operand) ≡ one_if (nat_lt operand (operands k))) same
          (ways-say (λ operand. length (fan_in edges v operand)) (operands node.kind) (operands-few node.kind) (and_parts _ _ own).1 (λ k past. ap length (fan_in_past edges v k operands_few past)) operand);
      ascending = AllPairs-from_ascends IsBefore edges (pairs-ascend is_before IsBefore edges before-says ordered);
      inputs_apart = λ u v port at_u at_v. stands-once are_apart nodes (record { kind = Input; port = port }) (input-itself port) apart u v at_u at_v;
      outputs_apart = λ u v port at_u at_v. stands-once are_apart nodes (record { kind = Output; port = port }) (output-itself port) apart u v at_u at_v;
      outputs_within = λ v port at. ltb-true port (output_count N) (and_parts _ _ (each-got (has_port (output_count N)) nodes v (record { kind = Output; port = port }) ports_pass at)).0;
      outputs_all = λ port low. output-found nodes port (some-got (is_output_at port) nodes (outputs-got nodes (output_count N) port low outputs));
      portless = λ v kind port at one other. gate-port (output_count N) kind port one other (each-got (has_port (output_count N)) nodes v (record { kind = kind; port = port }) ports_pass at);
    }
