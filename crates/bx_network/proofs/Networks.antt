-- What holds of a network: the edge by each slot and operand, and the order of its edges.
use Rattle.std.proofs.Common.{◌≡◌, ℕ, ◌<◌, ◌≤◌, ◌==◌, true, length, get_or, Some, inl, inr, refl, sym, ap, ◌∙◌, subst, arith, eqb-true, eq-eqb, le-ltb, lt-ltb}
use Rattle.std.specs.List.{slice_get}
use Rattle.std.proofs.lemmas.Bool.{cases_lt, cases_eq, and_parts}
use Rattle.bx_forms.specs.declared.kind.Kind.{Kind}
use Rattle.bx_forms.specs.declared.kind.Kind.TheVariants.{Input, Output}
use Rattle.bx_forms.specs.Kinds.{operands, slots}
use Rattle.bx_network.specs.declared.node.Node.{Node}
use Rattle.bx_network.specs.declared.node.Edge.{Edge}
use Rattle.bx_network.specs.Networks.{HasSlot, HasOperand, Network, IsNetwork, IsBefore, HasKind, leaves_by, enters_by, fan_out, fan_in, one_if}
use Rattle.bx_logic.proofs.Lists.{get-once}
use Rattle.bx_network.proofs.Lists.{IsOnly, got-within, got-get_or, got-at, got-all, one-passes, none-passes}

pub operands-few : (kind : Kind) → operands kind ≤ 2
operands-few Input = omega arith
operands-few _ = omega arith

pub slots-few : (kind : Kind) → slots kind ≤ 2
slots-few Input = omega arith
slots-few _ = omega arith

-- a node without operands is an input, and one without slots an output
pub operands-none : (kind : Kind) → operands kind ≡ 0 → kind ≡ Input
operands-none Input e = refl
operands-none _ e = absurd (omega arith)

pub slots-none : (kind : Kind) → slots kind ≡ 0 → kind ≡ Output
slots-none Output e = refl
slots-none _ e = absurd (omega arith)

-- what a node's kind is, where it stands in the list
pub kind-at : (N : Network) (v : ℕ) → v < length N.nodes → (kind : Kind) × HasKind N v kind
kind-at N v h = let here = got-at N.nodes v h in (here.item.kind, (here.item, here.at, refl))

pub kind-within : (N : Network) (v : ℕ) (kind : Kind) → HasKind N v kind → v < length N.nodes
kind-within N v kind (node, at, same) = got-within N.nodes v node at

pub kind-once : (N : Network) (v : ℕ) (one other : Kind) → HasKind N v one → HasKind N v other → one ≡ other
kind-once N v one other (a, at_a, is_a) (b, at_b, is_b) =
    sym is_a ∙ ap (λ (n : Node). n.kind) (get-once N.nodes v a b at_a at_b) ∙ is_b

-- the one edge by a slot, and by an operand
pub edge-leaves : (N : Network) → IsNetwork N → (v : ℕ) (kind : Kind) → HasKind N v kind → (slot : ℕ) → slot < slots kind → IsOnly (leaves_by v slot) N.edges
edge-leaves N net v kind has slot h =
    one-passes (leaves_by v slot) N.edges (net.leaves v kind has slot ∙ ap one_if (lt-ltb slot (slots kind) h))

pub edge-enters : (N : Network) → IsNetwork N → (v : ℕ) (kind : Kind) → HasKind N v kind → (operand : ℕ) → operand < operands kind → IsOnly (enters_by v operand) N.edges
edge-enters N net v kind has operand h =
    one-passes (enters_by v operand) N.edges (net.enters v kind has operand ∙ ap one_if (lt-ltb operand (operands kind) h))

pub leaves-itself : (e : Edge) → leaves_by e.source e.slot e ≡ true
leaves-itself e = rw (eq-eqb e.source e.source refl, eq-eqb e.slot e.slot refl) refl

pub enters-itself : (e : Edge) → enters_by e.target e.operand e ≡ true
enters-itself e = rw (eq-eqb e.target e.target refl, eq-eqb e.operand e.operand refl) refl

pub leaves-says : (v slot : ℕ) (e : Edge) → leaves_by v slot e ≡ true → (e.source ≡ v) × (e.slot ≡ slot)
leaves-says v slot e h = let both = and_parts (e.source == v) (e.slot == slot) h in (eqb-true e.source v both.0, eqb-true e.slot slot both.1)

pub enters-says : (v operand : ℕ) (e : Edge) → enters_by v operand e ≡ true → (e.target ≡ v) × (e.operand ≡ operand)
enters-says v operand e h = let both = and_parts (e.target == v) (e.operand == operand) h in (eqb-true e.target v both.0, eqb-true e.operand operand both.1)

-- an edge has a slot of its source's kind, and an operand of its target's kind
pub slot-within : (N : Network) → IsNetwork N → (i : ℕ) (e : Edge) → slice_get N.edges i ≡ Some e → (kind : Kind) → HasKind N e.source kind → e.slot < slots kind
slot-within N net i e at kind has =
    elim (cases_lt e.slot (slots kind)) [
      | inl low ↦ low
      | inr past ↦
          let none : length (fan_out N.edges e.source e.slot) ≡ 0 = net.leaves e.source kind has e.slot ∙ ap one_if (le-ltb e.slot (slots kind) past) in
          let out = none-passes (leaves_by e.source e.slot) N.edges none i e at in
          absurd (cc (leaves-itself e, out))
    ]

pub operand-within : (N : Network) → IsNetwork N → (i : ℕ) (e : Edge) → slice_get N.edges i ≡ Some e → (kind : Kind) → HasKind N e.target kind → e.operand < operands kind
operand-within N net i e at kind has =
    elim (cases_lt e.operand (operands kind)) [
      | inl low ↦ low
      | inr past ↦
          let none : length (fan_in N.edges e.target e.operand) ≡ 0 = net.enters e.target kind has e.operand ∙ ap one_if (le-ltb e.operand (operands kind) past) in
          let out = none-passes (enters_by e.target e.operand) N.edges none i e at in
          absurd (cc (enters-itself e, out))
    ]

-- each edge leads to a node further on
pub record IsForward (N : Network) (e : Edge) : Type 0 where
  pub forward : e.source < e.target
  pub within : e.target < length N.nodes

pub goes-forward : (N : Network) → IsNetwork N → (i : ℕ) (e : Edge) → slice_get N.edges i ≡ Some e → IsForward N e
goes-forward N net i e at = record {
  forward = got-all (λ (e : Edge). e.source < e.target) N.edges i e net.forward at;
  within = got-all (λ (e : Edge). e.target < length N.nodes) N.edges i e net.within at;
}

-- a later edge leaves no earlier node
pub sources-rise : (N : Network) → IsNetwork N → (i j : ℕ) (e f : Edge) → slice_get N.edges i ≡ Some e → slice_get N.edges j ≡ Some f → i ≤ j → e.source ≤ f.source
sources-rise N net i j e f at_i at_j h =
    elim (cases_eq i j) [
      | inl same ↦ let one = get-once N.edges j e f (sym (ap (slice_get N.edges) same) ∙ at_i) at_j in let a = ap (λ (e : Edge). e.source) one in omega arith
      | inr other ↦
          let before = net.ascending i j e (omega arith) (got-within N.edges j f at_j) in
          let first = got-get_or N.edges i e e at_i in
          let second = got-get_or N.edges j f e at_j in
          before-says e f (subst (λ (x : Edge). IsBefore x f) first (subst (λ (x : Edge). IsBefore (get_or N.edges i e) x) second before))
    ]
  where
    before-says : (e f : Edge) → IsBefore e f → e.source ≤ f.source
    before-says e f (inl low) = omega arith
    before-says e f (inr both) = let a = both.0 in omega arith

pub has-slot : (N : Network) → IsNetwork N → (i : ℕ) (e : Edge) → slice_get N.edges i ≡ Some e → HasSlot N e.source e.slot
has-slot N net i e is_at =
    let forward = goes-forward N net i e is_at in
    let inside : e.source < length N.nodes = let a = forward.forward in let b = forward.within in omega arith in
    let (kind, has) = kind-at N e.source inside in
    (kind, has, slot-within N net i e is_at kind has)

pub has-operand : (N : Network) → IsNetwork N → (i : ℕ) (e : Edge) → slice_get N.edges i ≡ Some e → HasOperand N e.target e.operand
has-operand N net i e is_at =
    let (kind, has) = kind-at N e.target (goes-forward N net i e is_at).within in
    (kind, has, operand-within N net i e is_at kind has)
