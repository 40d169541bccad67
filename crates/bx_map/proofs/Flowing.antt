-- The values of the edges of a numbered net in cells: each edge has the value of its cell.
use Rattle.std.proofs.Common.{◌≡◌, ℕ, zero, suc, ◌+◌, ◌-◌, ◌<◌, ◌≤◌, Bool, false, List, [], ◌∷◌, ◌++◌, length, get_or, replicate, refl, sym, ◌∙◌, ap, subst, arith, inl, inr, ◌⊎◌}
use Rattle.std.specs.List.{AllByRecursion}
use Rattle.std.proofs.lemmas.Bool.{cases_lt}
use Rattle.std.proofs.lemmas.List.{length-append, length-replicate, get_or_append_left, get_or-append_right, get_or-replicate}
use Rattle.bx_logic.specs.Values.{value_of}
use Rattle.bx_network.specs.declared.node.Edge.{Edge}
use Rattle.bx_logic.proofs.Lists.{all-append, all-first, all-second}
use Rattle.bx_map.specs.declared.cell.Target.{Target}
use Rattle.bx_map.specs.declared.cell.Cell.{Cell}
use Rattle.bx_map.specs.declared.cell.Cell.TheVariants.{Input, Not, Gate}
use Rattle.bx_map.specs.FanOuts.{IsCellNet, operand_uses, output_uses, uses, consumers, FanOut, direct, fan, tree_at}
use Rattle.bx_map.specs.Cells.{CellNet, cell_at, operands_of}
use Rattle.bx_map.specs.declared.consumer.Consumer.{Consumer}
use Rattle.bx_map.specs.declared.consumer.Consumer.TheVariants.{Operand, Output}
use Rattle.bx_map.specs.declared.consumer.Use.{Use}
use Rattle.bx_map.specs.Numbers.{edge_to, fans, nodes_before, number, place, entry, fan_edges, edges_before, numbering_of}
use Rattle.bx_map.proofs.Numbering.{leaves, leaves-tree_at, number-next, number-rises, all-uses, target_of}
use Rattle.bx_map.proofs.Networked.{all-consumers}

-- what a consumer reads: this is the operand of the cell, or the cell of the output
abbrev pub IsRead : CellNet → ℕ → Consumer → Type 0
IsRead net i (Operand j k) = (j < length net.cells) × (get_or (operands_of (cell_at net.cells j)) k 0 ≡ i)
IsRead net i (Output p) = (p < length net.outputs) × (get_or net.outputs p 0 ≡ i)

abbrev IsUseRead : CellNet → Use → Type 0
IsUseRead net u = IsRead net u.cell u.consumer

operands-read : (net : CellNet) (j : ℕ) → j < length net.cells → (c : Cell) → cell_at net.cells j ≡ c → AllByRecursion (IsUseRead net) (operand_uses j 0 (operands_of c))
operands-read net j l (Input p) e = tt
operands-read net j l (Not a) e = ((l, ap (λ (d : Cell). get_or (operands_of d) 0 0) e), tt)
operands-read net j l (Gate k a b) e = ((l, ap (λ (d : Cell). get_or (operands_of d) 0 0) e), ((l, ap (λ (d : Cell). get_or (operands_of d) 1 0) e), tt))

outputs-read : (net : CellNet) (j : ℕ) (is : List ℕ) → j + length is ≡ length net.outputs → ((m : ℕ) → m < length is → get_or net.outputs (j + m) 0 ≡ get_or is m 0) →
    AllByRecursion (IsUseRead net) (output_uses j is)
outputs-read net j [] e h = tt
outputs-read net j (i ∷ is) e h =
    let here : j + 0 ≡ j = omega arith in (
      (omega (arith, e), ap (λ (m : ℕ). get_or net.outputs m 0) (sym here) ∙ h 0 (omega arith)),
      outputs-read net (suc j) is (omega (arith, e))
          (λ m l. let next : suc j + m ≡ j + suc m = omega arith in ap (λ (q : ℕ). get_or net.outputs q 0) next ∙ h (suc m) (omega arith)),
    )

uses-read : (net : CellNet) → AllByRecursion (IsUseRead net) (uses net)
uses-read net =
    all-uses (IsUseRead net) net (λ j l. operands-read net j l (cell_at net.cells j) refl)
    (outputs-read net 0 net.outputs (omega arith) (λ m l. let e : 0 + m ≡ m = omega arith in ap (λ (q : ℕ). get_or net.outputs q 0) e))

consumers-read : (net : CellNet) (i : ℕ) → AllByRecursion (IsRead net i) (consumers net i)
unfolding consumers
consumers-read net i = all-consumers (IsUseRead net) (IsRead net i) i (λ u e a. subst (λ (c : ℕ). IsRead net c u.consumer) e a) (uses net) (uses-read net)

-- where an edge of a cell may end
abbrev pub EndsAt : CellNet → ℕ → Target → Type 0
EndsAt net i t = ((number net i < t.node) × (t.node < number net (suc i))) ⊎ ((c : Consumer) × IsRead net i c × (t ≡ place net c))

-- an edge that leaves a cell or one of its fans
pub record IsEdgeOf (net : CellNet) (e : Edge) : Type 0 where
  pub cell : ℕ
  pub among : cell < length net.cells
  pub from : number net cell ≤ e.source
  pub until : e.source < number net (suc cell)
  pub ends : EndsAt net cell (target_of e)

entry-ends : (net : CellNet) (i v : ℕ) (t : FanOut) → number net i < v → v + length (fans t) ≤ number net (suc i) → AllByRecursion (IsRead net i) (leaves t) → EndsAt net i (entry net v t)
unfolding fans
entry-ends net i v (direct c) l m a = inr (c, a.0, refl)
entry-ends net i v (fan first second) l m a = inl (l, omega arith)

fan-edges_of : (net : CellNet) (i : ℕ) → i < length net.cells → (v : ℕ) (t : FanOut) → number net i < v → v + length (fans t) ≤ number net (suc i) → AllByRecursion (IsRead net i) (leaves t) →
    AllByRecursion (IsEdgeOf net) (fan_edges net v t)
unfolding fans fan_edges
fan-edges_of net i within v (direct c) l m a = tt
fan-edges_of net i within v (fan first second) l m a =
    let w : ℕ = suc v + length (fans first) in
    let n = length-append (fans first) (fans second) in
    let x = all-first (IsRead net i) (leaves first) (leaves second) a in
    let y = all-second (IsRead net i) (leaves first) (leaves second) a in
    let at_first : suc v + length (fans first) ≤ number net (suc i) = omega (arith, n) in
    let at_second : w + length (fans second) ≤ number net (suc i) = omega (arith, n) in (
      record { cell = i; among = within; from = omega arith; until = omega arith; ends = entry-ends net i (suc v) first (omega arith) at_first x },
      (
        record { cell = i; among = within; from = omega arith; until = omega arith; ends = entry-ends net i w second (omega arith) at_second y },
        all-append (IsEdgeOf net) (fan_edges net (suc v) first) (fan_edges net w second)
            (fan-edges_of net i within (suc v) first (omega arith) at_first x) (fan-edges_of net i within w second (omega arith) at_second y),
      ),
    )

cells-edges : (net : CellNet) → IsCellNet net → (i : ℕ) → i ≤ length net.cells → AllByRecursion (IsEdgeOf net) (edges_before net i)
unfolding edges_before
cells-edges net h zero l = tt
cells-edges net h (suc i) l =
    let v : ℕ = number net i in
    let a = number-next net i in
    let fits : suc v + length (fans (tree_at net i)) ≤ number net (suc i) = omega (arith, a) in
    let d = subst (AllByRecursion (IsRead net i)) (sym (leaves-tree_at net i (h.consumed i (omega arith)))) (consumers-read net i) in
    all-append (IsEdgeOf net) (edges_before net i) (edge_to v 0 (entry net (suc v) (tree_at net i)) ∷ fan_edges net (suc v) (tree_at net i))
    (cells-edges net h i (omega arith)) (
      record { cell = i; among = omega arith; from = omega arith; until = omega (arith, a); ends = entry-ends net i (suc v) (tree_at net i) (omega arith) fits d },
      fan-edges_of net i (omega arith) (suc v) (tree_at net i) (omega arith) fits d,
    )

pub all-edges_of : (net : CellNet) → IsCellNet net → AllByRecursion (IsEdgeOf net) (numbering_of net).edges
unfolding numbering_of
all-edges_of net h = cells-edges net h (length net.cells) (omega arith)

-- the value of each node, for values of the cells

abbrev block : CellNet → List Bool → ℕ → List Bool
block net known i = replicate (suc (length (fans (tree_at net i)))) (value_of known i)

pub node_values : CellNet → List Bool → ℕ → List Bool
node_values net known zero = []
node_values net known (suc i) = node_values net known i ++ block net known i

length-node_values : (net : CellNet) (known : List Bool) (i : ℕ) → length (node_values net known i) ≡ number net i
unfolding node_values nodes_before
length-node_values net known zero = refl
length-node_values net known (suc i) =
    let a = length-append (node_values net known i) (block net known i) in
    let b = length-node_values net known i in
    let c = length-replicate (suc (length (fans (tree_at net i)))) (value_of known i) in
    let d = number-next net i in
    omega (arith, a, b, c, d)

-- the nodes of a cell and its fans have the cell's value
pub node-value : (net : CellNet) (known : List Bool) (n i w : ℕ) → i < n → number net i ≤ w → w < number net (suc i) → value_of (node_values net known n) w ≡ value_of known i
unfolding node_values
node-value net known zero i w l low high = absurd (omega arith)
node-value net known (suc n) i w l low high =
    let many = length-node_values net known n in
    elim (cases_lt i n) [
      | inl m ↦
          let b = number-rises net (suc i) n (omega arith) in
          get_or_append_left (node_values net known n) (block net known n) false w (omega (arith, b, many)) ∙ node-value net known n i w m low high
      | inr m ↦
          let same : i ≡ n = omega arith in
          let low_n : number net n ≤ w = subst (λ (j : ℕ). number net j ≤ w) same low in
          let high_n : w < number net (suc n) = subst (λ (j : ℕ). w < number net (suc j)) same high in
          let size = number-next net n in
          get_or-append_right (node_values net known n) (block net known n) (number net n) w false many low_n
          ∙ (get_or-replicate (suc (length (fans (tree_at net n)))) (w - number net n) (value_of known n) false (omega (arith, size, low_n, high_n))
          ∙ ap (value_of known) (sym same))
    ]

-- blocks don't overlap
pub same-block : (net : CellNet) (i j w : ℕ) → number net i ≤ w → w < number net (suc i) → number net j ≤ w → w < number net (suc j) → i ≡ j
same-block net i j w a b c d =
    elim (cases_lt i j) [
      | inl l ↦ let m = number-rises net (suc i) j (omega arith) in absurd (omega arith)
      | inr l ↦ elim (cases_lt j i) [
        | inl k ↦ let m = number-rises net (suc j) i (omega arith) in absurd (omega arith)
        | inr k ↦ omega arith
      ]
    ]
