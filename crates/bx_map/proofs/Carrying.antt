-- A numbered net in cells computes what its cells do.
use Rattle.std.proofs.Common.{◌≡◌, ℕ, zero, suc, ◌+◌, ◌<◌, ◌≤◌, Bool, false, not, List, [], ◌∷◌, ◌++◌, length, map, get_or, Some, refl, sym, ◌∙◌, ap, ap₂, subst, arith, inl, inr}
use Rattle.std.specs.List.{slice_get, range_with_len}
use Rattle.std.proofs.lemmas.Bool.{cases_lt}
use Rattle.std.proofs.lemmas.List.{length-map, get_or-map}
use Rattle.std.proofs.lemmas.Option.{slice_get_within, get_or_from_slice_get}
use Rattle.bx_logic.specs.Values.{value_of}
use Rattle.bx_forms.specs.Kinds.{slots, operands, gives}
use Rattle.bx_forms.specs.declared.kind.Kind.{Kind}
use Rattle.bx_forms.specs.declared.kind.Kind.TheVariants as kind
use Rattle.bx_network.specs.declared.node.Node.{Node}
use Rattle.bx_network.specs.declared.node.Edge.{Edge}
use Rattle.bx_network.specs.Networks.{IsNetwork, HasKind, HasPort}
use Rattle.bx_network.specs.Values.{edge_into, node_reads, operand_values, IsValuation}
use Rattle.bx_logic.proofs.Lists.{Some-same, get-left, get-right, all-get}
use Rattle.bx_network.proofs.Networks.{edge-enters, enters-says}
use Rattle.bx_map.specs.declared.cell.Target.{Target}
use Rattle.bx_map.specs.declared.cell.Cell.{Cell}
use Rattle.bx_map.specs.declared.cell.Cell.TheVariants.{Input, Not, Gate}
use Rattle.bx_map.specs.FanOuts.{IsCellNet, tree_at}
use Rattle.bx_map.specs.Cells.{CellNet, cell_at, kind_of, port_of, operands_of}
use Rattle.bx_map.specs.declared.consumer.Consumer.TheVariants.{Operand, Output}
use Rattle.bx_map.specs.Numbers.{cell_node, fan_node, fans, nodes_before, output_nodes, number, numbering_of}
use Rattle.bx_map.proofs.Numbering.{number-next, number-rises}
use Rattle.bx_map.proofs.Networked.{node-at, output-at}
use Rattle.bx_map.proofs.Truths.{cell_truth}
use Rattle.bx_map.proofs.Flowing.{EndsAt, IsEdgeOf, all-edges_of, node_values, node-value, same-block}

-- the value of each cell is what it gives of the values that it reads
pub record AreCellValues (net : CellNet) (bits known : List Bool) : Type 0 where
  pub whole : length known ≡ length net.cells
  pub each : (j : ℕ) → j < length net.cells → value_of known j ≡ cell_truth bits known (cell_at net.cells j)

pub map-at : {X : Type 0} (f : X → Bool) (xs : List X) (i : ℕ) (x : X) → slice_get xs i ≡ Some x → value_of (map f xs) i ≡ f x
map-at f xs i x e = get_or-map f xs i x false (slice_get_within xs i x e) ∙ ap f (get_or_from_slice_get xs i x x e)

get-cell : (net : CellNet) (n j : ℕ) → j < n → slice_get (nodes_before net n) (number net j) ≡ Some (cell_node (cell_at net.cells j))
unfolding nodes_before
get-cell net zero j l = absurd (omega arith)
get-cell net (suc n) j l =
    let rest : List Node = cell_node (cell_at net.cells n) ∷ fans (tree_at net n) in
    elim (cases_lt j n) [
      | inl m ↦
          let a = number-next net j in
          let b = number-rises net (suc j) n (omega arith) in
          get-left (nodes_before net n) rest (number net j) (omega (arith, a, b)) ∙ get-cell net n j m
      | inr m ↦
          let same : j ≡ n = omega arith in
          let zero_on : number net j ≡ number net n + 0 = ap (number net) same ∙ omega arith in
          ap (slice_get (nodes_before net n ++ rest)) zero_on ∙ (get-right (nodes_before net n) rest (number net n + 0) 0 refl ∙ ap (λ (k : ℕ). Some (cell_node (cell_at net.cells k))) (sym same))
    ]

pub cell-found : (net : CellNet) (j : ℕ) → j < length net.cells → slice_get (numbering_of net).nodes (number net j) ≡ Some (cell_node (cell_at net.cells j))
unfolding numbering_of
cell-found net j l =
    let a = number-next net j in
    let b = number-rises net (suc j) (length net.cells) (omega arith) in
    get-left (nodes_before net (length net.cells)) (output_nodes 0 net.outputs) (number net j) (omega (arith, a, b)) ∙ get-cell net (length net.cells) j l

two_read : (k : Kind) (given x y : Bool) (slot : ℕ) → 2 ≡ operands k → gives k (x ∷ y ∷ []) 0 ≡ gives k (node_reads k given (x ∷ y ∷ [])) slot
two_read kind.Input given x y slot e = absurd (omega (arith, e))
two_read kind.Output given x y slot e = absurd (omega (arith, e))
two_read kind.Not given x y slot e = absurd (omega (arith, e))
two_read kind.Fan given x y slot e = absurd (omega (arith, e))
two_read k given x y slot e = refl

-- a cell's value is what its node gives, where what enters the node has the values of what the cell reads
gives-cell : (bits known : List Bool) (c : Cell) (enters : ℕ → Bool) (slot : ℕ) → length (operands_of c) ≡ operands (kind_of c) →
    ((o : ℕ) → o < operands (kind_of c) → enters o ≡ value_of known (get_or (operands_of c) o 0)) →
    cell_truth bits known c ≡ gives (kind_of c) (node_reads (kind_of c) (value_of bits (port_of c)) (map enters (range_with_len 0 (operands (kind_of c))))) slot
gives-cell bits known (Input port) enters slot arity h = refl
gives-cell bits known (Not a) enters slot arity h = ap not (sym (h 0 (omega arith)))
gives-cell bits known (Gate k a b) enters slot arity h =
    ap₂ (λ (x y : Bool). gives k (x ∷ y ∷ []) 0) (sym (h 0 (omega (arith, arity)))) (sym (h 1 (omega (arith, arity))))
    ∙ (two_read k (value_of bits 0) (enters 0) (enters 1) slot arity
    ∙ ap (λ (n : ℕ). gives k (node_reads k (value_of bits 0) (map enters (range_with_len 0 n))) slot) arity)

module _ (net : CellNet) (h : IsCellNet net) (is : IsNetwork (numbering_of net)) (bits known : List Bool) (values : AreCellValues net bits known) where
  pub edge_values : List Bool
  edge_values = map (λ (e : Edge). value_of (node_values net known (length net.cells)) e.source) (numbering_of net).edges

  edge-of : (i : ℕ) (e : Edge) → slice_get (numbering_of net).edges i ≡ Some e → IsEdgeOf net e
  edge-of i e at = all-get (IsEdgeOf net) (numbering_of net).edges i e (all-edges_of net h) at

  -- an edge has the value of its cell
  edge-value : (i : ℕ) (e : Edge) → slice_get (numbering_of net).edges i ≡ Some e → (of : IsEdgeOf net e) → value_of edge_values i ≡ value_of known of.cell
  unfolding edge_values
  edge-value i e at of =
      map-at (λ (f : Edge). value_of (node_values net known (length net.cells)) f.source) (numbering_of net).edges i e at
      ∙ node-value net known (length net.cells) of.cell e.source of.among of.from of.until

  -- what enters a node by an operand
  entering : (w : ℕ) (k : Kind) → HasKind (numbering_of net) w k → (o : ℕ) → o < operands k →
      (i : ℕ) × (i < length net.cells) × (value_of edge_values (edge_into (numbering_of net).edges w o) ≡ value_of known i) × EndsAt net i (record { node = w; operand = o })
  entering w k at o l =
      let only = edge-enters (numbering_of net) is w k at o l in
      let of = edge-of (edge_into (numbering_of net).edges w o) only.item only.at in
      let says = enters-says w o only.item only.passes in (
        of.cell,
        of.among,
        edge-value (edge_into (numbering_of net).edges w o) only.item only.at of,
        subst (EndsAt net of.cell) (ap₂ (λ (v p : ℕ). record { node = v; operand = p }) says.0 says.1) of.ends,
      )

  below-outputs : (i w : ℕ) → i < length net.cells → w < number net (suc i) → w < number net (length net.cells)
  below-outputs i w l m = let a = number-rises net (suc i) (length net.cells) (omega arith) in omega (arith, a)

  node_of : {s t : Target} → s ≡ t → s.node ≡ t.node
  node_of e = ap (λ (x : Target). x.node) e

  operand_of : {s t : Target} → s ≡ t → s.operand ≡ t.operand
  operand_of e = ap (λ (x : Target). x.operand) e

  cell-reads-by : (j o i : ℕ) → j < length net.cells → EndsAt net i (record { node = number net j; operand = o }) → i < length net.cells → get_or (operands_of (cell_at net.cells j)) o 0 ≡ i
  cell-reads-by j o i l (inl (low, high)) m =
      let n = number-next net j in
      let same = same-block net i j (number net j) (omega arith) high (omega arith) (omega (arith, n)) in
      absurd (let e = ap (number net) same in omega (arith, e, low))
  cell-reads-by j o i l (inr (Operand c k, r, t)) m =
      let at : number net j ≡ number net c = node_of t in
      let by : o ≡ k = operand_of t in
      let n = number-next net j in
      let p = number-next net c in
      let same = same-block net c j (number net j) (omega (arith, at)) (omega (arith, at, p)) (omega arith) (omega (arith, n)) in
      ap₂ (λ (a b : ℕ). get_or (operands_of (cell_at net.cells a)) b 0) (sym same) by ∙ r.1
  cell-reads-by j o i l (inr (Output p, r, t)) m =
      let at : number net j ≡ number net (length net.cells) + p = node_of t in
      let n = number-next net j in
      let b = below-outputs j (number net j) l (omega (arith, n)) in
      absurd (omega (arith, at, b))

  cell-reads : (j o : ℕ) → j < length net.cells → o < operands (kind_of (cell_at net.cells j)) →
      value_of edge_values (edge_into (numbering_of net).edges (number net j) o) ≡ value_of known (get_or (operands_of (cell_at net.cells j)) o 0)
  cell-reads j o l m =
      let (i, a, v, ends) = entering (number net j) (kind_of (cell_at net.cells j)) (cell_node (cell_at net.cells j), cell-found net j l, refl) o m in
      v ∙ ap (value_of known) (sym (cell-reads-by j o i l ends a))

  -- what enters a fan has the value of the fan's cell
  fan-reads-by : (w b i : ℕ) → b < length net.cells → number net b ≤ w → w < number net (suc b) → slice_get (numbering_of net).nodes w ≡ Some fan_node →
      EndsAt net i (record { node = w; operand = 0 }) → i < length net.cells → i ≡ b
  fan-reads-by w b i l low high at (inl (over, under)) m = same-block net i b w (omega arith) under low high
  fan-reads-by w b i l low high at (inr (Operand c k, r, t)) m =
      let here : w ≡ number net c = node_of t in
      let found = sym at ∙ (ap (slice_get (numbering_of net).nodes) here ∙ cell-found net c r.0) in
      let same = Some-same fan_node (cell_node (cell_at net.cells c)) found in
      let two : 2 ≡ slots (kind_of (cell_at net.cells c)) = ap (λ (n : Node). slots n.kind) same in
      absurd (omega (arith, two, h.cells.slot c r.0))
  fan-reads-by w b i l low high at (inr (Output p, r, t)) m =
      let here : w ≡ number net (length net.cells) + p = node_of t in
      let under = below-outputs b w l high in
      absurd (omega (arith, here, under))

  fan-reads : (w b : ℕ) → b < length net.cells → number net b ≤ w → w < number net (suc b) → slice_get (numbering_of net).nodes w ≡ Some fan_node →
      value_of edge_values (edge_into (numbering_of net).edges w 0) ≡ value_of known b
  fan-reads w b l low high at =
      let (i, a, v, ends) = entering w kind.Fan (fan_node, at, refl) 0 (omega arith) in
      v ∙ ap (value_of known) (fan-reads-by w b i l low high at ends a)

  output-reads-by : (w p i : ℕ) → w ≡ number net (length net.cells) + p → EndsAt net i (record { node = w; operand = 0 }) → i < length net.cells → get_or net.outputs p 0 ≡ i
  output-reads-by w p i at (inl (low, high)) m = let b = below-outputs i w m high in absurd (omega (arith, at, b))
  output-reads-by w p i at (inr (Operand c k, r, t)) m =
      let here : w ≡ number net c = node_of t in
      let n = number-next net c in
      let b = below-outputs c (number net c) r.0 (omega (arith, n)) in
      absurd (omega (arith, at, here, b))
  output-reads-by w p i at (inr (Output q, r, t)) m =
      let here : w ≡ number net (length net.cells) + q = node_of t in
      let same : p ≡ q = omega (arith, at, here) in
      ap (λ (k : ℕ). get_or net.outputs k 0) same ∙ r.1

  -- the edge that enters an output's node has the value of the output's cell
  pub output-reads : (w port : ℕ) → HasPort (numbering_of net) w kind.Output port →
      value_of edge_values (edge_into (numbering_of net).edges w 0) ≡ value_of known (get_or net.outputs port 0)
  output-reads w port at =
      let here = output-at net h w port (node-at net w (record { kind = kind.Output; port = port }) at) in
      let (i, a, v, ends) = entering w kind.Output (record { kind = kind.Output; port = port }, at, refl) 0 (omega arith) in
      v ∙ ap (value_of known) (sym (output-reads-by w port i here.1 ends a))

  valued : (i : ℕ) (e : Edge) (n : Node) → slice_get (numbering_of net).edges i ≡ Some e → slice_get (numbering_of net).nodes e.source ≡ Some n → IsEdgeOf net e →
      value_of edge_values i ≡ gives n.kind (operand_values (numbering_of net) bits edge_values e.source n) e.slot
  valued i e n at found of =
      elim (node-at net e.source n found) [
        | inl c ↦
            let (j, l, here, same) = c in
            let next = number-next net j in
            let block = same-block net of.cell j e.source of.from of.until (omega (arith, here)) (omega (arith, here, next)) in
            let cell : Cell = cell_at net.cells j in
            edge-value i e at of
            ∙ (ap (value_of known) block
            ∙ (values.each j l
            ∙ (gives-cell bits known cell (λ o. value_of edge_values (edge_into (numbering_of net).edges e.source o)) e.slot (h.cells.arity j l)
            (λ o m. ap (λ (w : ℕ). value_of edge_values (edge_into (numbering_of net).edges w o)) here ∙ cell-reads j o l m)
            ∙ ap (λ (m : Node). gives m.kind (operand_values (numbering_of net) bits edge_values e.source m) e.slot) (sym same))))
        | inr other ↦ elim other [
          | inl same ↦
              let fan_at : slice_get (numbering_of net).nodes e.source ≡ Some fan_node = found ∙ ap (λ (m : Node). Some m) same in
              edge-value i e at of
              ∙ (sym (fan-reads e.source of.cell of.among of.from of.until fan_at)
              ∙ ap (λ (m : Node). gives m.kind (operand_values (numbering_of net) bits edge_values e.source m) e.slot) (sym same))
          | inr out ↦
              let (p, l, here, same) = out in
              let b = below-outputs of.cell e.source of.among of.until in
              absurd (omega (arith, here, b))
        ]
      ]

  pub valuation : IsValuation (numbering_of net) bits edge_values
  unfolding edge_values
  valuation = record {
    whole = length-map (numbering_of net).edges (λ (e : Edge). value_of (node_values net known (length net.cells)) e.source);
    each = λ i e n at found. valued i e n at found (edge-of i e at);
  }
