-- The numbers of a net in cells: its edges leave each slot and enter each operand of its nodes once.
use Rattle.std.proofs.Common.{◌≡◌, ℕ, zero, suc, ◌+◌, ◌<◌, ◌≤◌, ◌==◌, nat_lt, Bool, ◌&&◌, List, [], ◌∷◌, ◌++◌, length, map, take, drop, get_or, refl, sym, ◌∙◌, ap, ap₂, subst, arith, inl, inr}
use Rattle.std.specs.List.{AllByRecursion, filter}
use Rattle.std.proofs.lemmas.Bool.{cases_lt, lt-ltb, le-ltb}
use Rattle.std.proofs.lemmas.List.{append_assoc, append-nil, length-append, map-append, take-append-drop, length-take, length-drop, take_all}
use Rattle.bx_forms.specs.Kinds.{slots, operands}
use Rattle.bx_network.specs.declared.node.Node.{Node}
use Rattle.bx_network.specs.declared.node.Edge.{Edge}
use Rattle.bx_network.specs.Networks.{one_if}
use Rattle.std.proofs.Math.Seq.{take-suc}
use Rattle.bx_logic.proofs.Lists.{all-append, all-first, all-second, all-weaker}
use Rattle.bx_map.specs.declared.cell.Target.{Target}
use Rattle.bx_map.specs.declared.cell.Cell.{Cell}
use Rattle.bx_map.specs.declared.cell.Cell.TheVariants.{Input}
use Rattle.bx_map.specs.Cells.{CellNet, cell_at, kind_of, operands_of}
use Rattle.bx_map.specs.declared.consumer.Consumer.{Consumer}
use Rattle.bx_map.specs.declared.consumer.Consumer.TheVariants.{Operand, Output}
use Rattle.bx_map.specs.declared.consumer.Use.{Use}
use Rattle.bx_map.specs.FanOuts.{use_of, operand_uses, cell_uses, output_uses, uses, consumers, FanOut, direct, fan, half, tree_within, tree_at, IsCellNet}
use Rattle.bx_map.specs.Numbers.{edge_to, cell_node, fans, nodes_before, output_nodes, number, place, entry, fan_edges, edges_before, numbering_of}
use Rattle.bx_map.proofs.Tallies.{tally, tally-append, tally-map, tally-filter, tally-same, sum_below, sum_below-same, tally-below}
use Rattle.bx_map.proofs.Spots.{spot, row, spots, spots-append}

abbrev pub source_of : Edge → Target
source_of e = record { node = e.source; operand = e.slot }

abbrev pub target_of : Edge → Target
target_of e = record { node = e.target; operand = e.operand }

abbrev pub slots_at : Node → ℕ
slots_at n = slots n.kind

abbrev pub operands_at : Node → ℕ
operands_at n = operands n.kind

-- the consumers that a tree serves, from left to right
abbrev pub leaves : FanOut → List Consumer
leaves (direct consumer) = consumer ∷ []
leaves (fan first second) = leaves first ++ leaves second

pub fans-leaves : (t : FanOut) → length (fans t) + 1 ≡ length (leaves t)
unfolding fans
fans-leaves (direct consumer) = refl
fans-leaves (fan first second) =
    let a = fans-leaves first in
    let b = fans-leaves second in
    let c = length-append (fans first) (fans second) in
    let d = length-append (leaves first) (leaves second) in
    omega (arith, a, b, c, d)

one_leaf : (cs : List Consumer) → 0 < length cs → length cs ≤ 1 → get_or cs 0 (Output 0) ∷ [] ≡ cs
one_leaf [] l m = absurd (omega arith)
one_leaf (c ∷ []) l m = refl
one_leaf (c ∷ d ∷ cs) l m = absurd (omega arith)

pub leaves-tree_within : (k : ℕ) (cs : List Consumer) → 0 < length cs → length cs ≤ suc k → leaves (tree_within k cs) ≡ cs
unfolding tree_within
leaves-tree_within zero cs l m = one_leaf cs l m
leaves-tree_within (suc k) cs l m =
    elim (cases_lt 1 (length cs)) [
      | inr few ↦ rw (le-ltb 1 (length cs) few) (one_leaf cs l few)
      | inl more ↦
          let a : length (take (half (length cs)) cs) ≡ half (length cs) = length-take (half (length cs)) cs ∙ omega arith in
          let b = length-drop (half (length cs)) cs in
          rw (lt-ltb 1 (length cs) more)
          (ap₂ (λ (xs ys : List Consumer). xs ++ ys)
          (leaves-tree_within k (take (half (length cs)) cs) (omega (arith, a)) (omega (arith, a)))
          (leaves-tree_within k (drop (half (length cs)) cs) (omega (arith, b)) (omega (arith, b)))
          ∙ take-append-drop (half (length cs)) cs)
    ]

pub leaves-tree_at : (net : CellNet) (i : ℕ) → 0 < length (consumers net i) → leaves (tree_at net i) ≡ consumers net i
unfolding tree_at
leaves-tree_at net i l = leaves-tree_within (length (consumers net i)) (consumers net i) l (omega arith)

spots-behind : (f : Node → ℕ) (xs ys : List Node) → spots f 0 (xs ++ ys) ≡ spots f 0 xs ++ spots f (length xs) ys
spots-behind f xs ys = spots-append f 0 xs ys ∙ ap (λ (v : ℕ). spots f 0 xs ++ spots f v ys) (omega arith)

-- the edges leave each slot of each node, in order

pub fan-sources : (net : CellNet) (v : ℕ) (t : FanOut) → map source_of (fan_edges net v t) ≡ spots slots_at v (fans t)
unfolding fan_edges fans
fan-sources net v (direct consumer) = refl
fan-sources net v (fan first second) =
    ap (λ (ts : List Target). spot v 0 ∷ spot v 1 ∷ ts)
    (map-append source_of (fan_edges net (suc v) first) (fan_edges net (suc v + length (fans first)) second)
    ∙ (ap₂ (λ (xs ys : List Target). xs ++ ys) (fan-sources net (suc v) first) (fan-sources net (suc v + length (fans first)) second)
    ∙ sym (spots-append slots_at (suc v) (fans first) (fans second))))

pub cell-sources : (net : CellNet) (i : ℕ) → ((j : ℕ) → j < i → slots (kind_of (cell_at net.cells j)) ≡ 1) →
    map source_of (edges_before net i) ≡ spots slots_at 0 (nodes_before net i)
unfolding edges_before nodes_before
cell-sources net zero one = refl
cell-sources net (suc i) one =
    map-append source_of (edges_before net i) (edge_to (number net i) 0 (entry net (suc (number net i)) (tree_at net i)) ∷ fan_edges net (suc (number net i)) (tree_at net i))
    ∙ (ap₂ (λ (xs ys : List Target). xs ++ ys) (cell-sources net i (λ j l. one j (omega arith)))
    (ap (λ (ts : List Target). spot (number net i) 0 ∷ ts) (fan-sources net (suc (number net i)) (tree_at net i))
    ∙ ap (λ (k : ℕ). row (number net i) 0 k ++ spots slots_at (suc (number net i)) (fans (tree_at net i))) (sym (one i (omega arith))))
    ∙ sym (spots-behind slots_at (nodes_before net i) (cell_node (cell_at net.cells i) ∷ fans (tree_at net i))))

output-spots_none : (v j : ℕ) (is : List ℕ) → spots slots_at v (output_nodes j is) ≡ []
output-spots_none v j [] = refl
output-spots_none v j (i ∷ is) = output-spots_none (suc v) (suc j) is

pub sources : (net : CellNet) → ((j : ℕ) → j < length net.cells → slots (kind_of (cell_at net.cells j)) ≡ 1) →
    map source_of (numbering_of net).edges ≡ spots slots_at 0 (numbering_of net).nodes
unfolding numbering_of
sources net one =
    cell-sources net (length net.cells) one
    ∙ (sym (append-nil (spots slots_at 0 (nodes_before net (length net.cells))))
    ∙ (ap (λ (ts : List Target). spots slots_at 0 (nodes_before net (length net.cells)) ++ ts) (sym (output-spots_none (number net (length net.cells)) 0 net.outputs))
    ∙ sym (spots-behind slots_at (nodes_before net (length net.cells)) (output_nodes 0 net.outputs))))

-- the edges enter each operand of each node once

tally-parts : {X : Type 0} (p : Target → Bool) (f : X → Target) (xs ys : List X) → tally p (map f (xs ++ ys)) ≡ tally p (map f xs) + tally p (map f ys)
tally-parts p f xs ys = ap (tally p) (map-append f xs ys) ∙ tally-append p (map f xs) (map f ys)

pub fan-targets : (p : Target → Bool) (net : CellNet) (v : ℕ) (t : FanOut) →
    one_if (p (entry net v t)) + tally p (map target_of (fan_edges net v t)) ≡ tally p (map (place net) (leaves t)) + tally p (spots operands_at v (fans t))
unfolding fan_edges fans
fan-targets p net v (direct consumer) = omega arith
fan-targets p net v (fan first second) =
    let w : ℕ = suc v + length (fans first) in
    let a = fan-targets p net (suc v) first in
    let b = fan-targets p net w second in
    let c = tally-parts p target_of (fan_edges net (suc v) first) (fan_edges net w second) in
    let d = tally-parts p (place net) (leaves first) (leaves second) in
    let e : tally p (spots operands_at (suc v) (fans first ++ fans second)) ≡ tally p (spots operands_at (suc v) (fans first)) + tally p (spots operands_at w (fans second)) =
    ap (tally p) (spots-append operands_at (suc v) (fans first) (fans second)) ∙ tally-append p (spots operands_at (suc v) (fans first)) (spots operands_at w (fans second)) in
    omega (arith, a, b, c, d, e)

abbrev pub use_place : CellNet → Use → Target
use_place net u = place net u.consumer

operand-places : (net : CellNet) (j k : ℕ) (is : List ℕ) → map (use_place net) (operand_uses j k is) ≡ row (number net j) k (length is)
operand-places net j k [] = refl
operand-places net j k (i ∷ is) = ap (λ (ts : List Target). spot (number net j) k ∷ ts) (operand-places net j (suc k) is)

output-places : (net : CellNet) (j : ℕ) (is : List ℕ) → map (use_place net) (output_uses j is) ≡ spots operands_at (number net (length net.cells) + j) (output_nodes j is)
output-places net j [] = refl
output-places net j (i ∷ is) =
    ap (λ (ts : List Target). spot (number net (length net.cells) + j) 0 ∷ ts)
    (output-places net (suc j) is ∙ ap (λ (v : ℕ). spots operands_at v (output_nodes (suc j) is)) (omega arith))

pub cell_uses-append : (j : ℕ) (cs : List Cell) (c : Cell) → cell_uses j (cs ++ c ∷ []) ≡ cell_uses j cs ++ operand_uses (j + length cs) 0 (operands_of c)
cell_uses-append j [] c = append-nil (operand_uses j 0 (operands_of c)) ∙ ap (λ (v : ℕ). operand_uses v 0 (operands_of c)) (omega arith)
cell_uses-append j (d ∷ cs) c =
    ap (λ (us : List Use). operand_uses j 0 (operands_of d) ++ us) (cell_uses-append (suc j) cs c ∙ ap (λ (v : ℕ). cell_uses (suc j) cs ++ operand_uses v 0 (operands_of c)) (omega arith))
    ∙ sym (append_assoc (operand_uses j 0 (operands_of d)) (cell_uses (suc j) cs) (operand_uses (j + length (d ∷ cs)) 0 (operands_of c)))

-- the uses by one cell more
pub cell_uses-next : (cells : List Cell) (i : ℕ) → i < length cells →
    cell_uses 0 (take (suc i) cells) ≡ cell_uses 0 (take i cells) ++ operand_uses i 0 (operands_of (cell_at cells i))
cell_uses-next cells i l =
    let many : length (take i cells) ≡ i = length-take i cells ∙ omega arith in
    ap (cell_uses 0) (take-suc cells i (Input 0) l)
    ∙ (cell_uses-append 0 (take i cells) (cell_at cells i)
    ∙ ap (λ (v : ℕ). cell_uses 0 (take i cells) ++ operand_uses v 0 (operands_of (cell_at cells i))) (omega (arith, many)))

cell-targets : (p : Target → Bool) (net : CellNet) → IsCellNet net → (i : ℕ) → i ≤ length net.cells →
    tally p (map target_of (edges_before net i)) + tally p (map (use_place net) (cell_uses 0 (take i net.cells)))
    ≡ tally p (spots operands_at 0 (nodes_before net i)) + sum_below (λ j. tally p (map (place net) (leaves (tree_at net j)))) i
unfolding edges_before nodes_before
cell-targets p net h zero l = refl
cell-targets p net h (suc i) l =
    let v : ℕ = number net i in
    let t : FanOut = tree_at net i in
    let c : Cell = cell_at net.cells i in
    let first : Edge = edge_to v 0 (entry net (suc v) t) in
    let a = cell-targets p net h i (omega arith) in
    let b = tally-parts p target_of (edges_before net i) (first ∷ fan_edges net (suc v) t) in
    let d = fan-targets p net (suc v) t in
    let e = ap (tally p) (ap (map (use_place net)) (cell_uses-next net.cells i (omega arith))) ∙ tally-parts p (use_place net) (cell_uses 0 (take i net.cells)) (operand_uses i 0 (operands_of c)) in
    let f = ap (tally p) (operand-places net i 0 (operands_of c) ∙ ap (row v 0) (h.cells.arity i (omega arith))) in
    let g = ap (tally p) (spots-behind operands_at (nodes_before net i) (cell_node c ∷ fans t))
    ∙ (tally-append p (spots operands_at 0 (nodes_before net i)) (row v 0 (operands (kind_of c)) ++ spots operands_at (suc v) (fans t))
    ∙ ap (λ (n : ℕ). tally p (spots operands_at 0 (nodes_before net i)) + n) (tally-append p (row v 0 (operands (kind_of c))) (spots operands_at (suc v) (fans t)))) in
    omega (arith, a, b, d, e, f, g)

-- what holds of the uses by each cell holds of those by all
pub all-cell_uses : (P : Use → Type 0) (cells : List Cell) → ((j : ℕ) → j < length cells → AllByRecursion P (operand_uses j 0 (operands_of (cell_at cells j)))) →
    (i : ℕ) → i ≤ length cells → AllByRecursion P (cell_uses 0 (take i cells))
all-cell_uses P cells h zero l = tt
all-cell_uses P cells h (suc i) l =
    subst (AllByRecursion P) (sym (cell_uses-next cells i (omega arith)))
    (all-append P (cell_uses 0 (take i cells)) (operand_uses i 0 (operands_of (cell_at cells i))) (all-cell_uses P cells h i (omega arith)) (h i (omega arith)))

pub all-uses : (P : Use → Type 0) (net : CellNet) → ((j : ℕ) → j < length net.cells → AllByRecursion P (operand_uses j 0 (operands_of (cell_at net.cells j)))) →
    AllByRecursion P (output_uses 0 net.outputs) → AllByRecursion P (uses net)
unfolding uses
all-uses P net cells outs =
    all-append P (cell_uses 0 net.cells) (output_uses 0 net.outputs)
    (subst (λ (cs : List Cell). AllByRecursion P (cell_uses 0 cs)) (take_all (length net.cells) net.cells (omega arith))
    (all-cell_uses P net.cells cells (length net.cells) (omega arith))) outs

pub all-operand_uses : (P : Use → Type 0) (Q : ℕ → Type 0) (j : ℕ) → ((k i : ℕ) → Q i → P (use_of i (Operand j k))) → (k : ℕ) (is : List ℕ) → AllByRecursion Q is → AllByRecursion P (operand_uses j k is)
all-operand_uses P Q j h k [] a = tt
all-operand_uses P Q j h k (i ∷ is) a = (h k i a.0, all-operand_uses P Q j h (suc k) is a.1)

pub all-output_uses : (P : Use → Type 0) (Q : ℕ → Type 0) → ((j i : ℕ) → Q i → P (use_of i (Output j))) → (j : ℕ) (is : List ℕ) → AllByRecursion Q is → AllByRecursion P (output_uses j is)
all-output_uses P Q h j [] a = tt
all-output_uses P Q h j (i ∷ is) a = (h j i a.0, all-output_uses P Q h (suc j) is a.1)

pub uses-within : (net : CellNet) → IsCellNet net → AllByRecursion (λ (u : Use). u.cell < length net.cells) (uses net)
uses-within net h =
    all-uses (λ (u : Use). u.cell < length net.cells) net
    (λ j l. all-operand_uses (λ (u : Use). u.cell < length net.cells) (λ a. a < j) j (λ k i m. omega arith) 0 (operands_of (cell_at net.cells j)) (h.cells.reads j))
    (all-output_uses (λ (u : Use). u.cell < length net.cells) (λ a. a < length net.cells) (λ j i m. m) 0 net.outputs h.cells.outputs)

-- the targets of all cells together are the places of all uses
tree_at-places : (p : Target → Bool) (net : CellNet) (i : ℕ) → 0 < length (consumers net i) →
    tally p (map (place net) (leaves (tree_at net i))) ≡ tally (λ u. (u.cell == i) && p (use_place net u)) (uses net)
unfolding consumers
tree_at-places p net i l =
    ap (λ (cs : List Consumer). tally p (map (place net) cs)) (leaves-tree_at net i l)
    ∙ (tally-map p (place net) (map (λ u. u.consumer) (filter (λ u. u.cell == i) (uses net)))
    ∙ (tally-map (λ c. p (place net c)) (λ u. u.consumer) (filter (λ u. u.cell == i) (uses net))
    ∙ tally-filter (λ u. p (use_place net u)) (λ u. u.cell == i) (uses net)))

all-used : (p : Target → Bool) (net : CellNet) → IsCellNet net →
    sum_below (λ i. tally p (map (place net) (leaves (tree_at net i)))) (length net.cells) ≡ tally p (map (use_place net) (uses net))
all-used p net h =
    sum_below-same (λ i. tally p (map (place net) (leaves (tree_at net i)))) (λ i. tally (λ u. (u.cell == i) && p (use_place net u)) (uses net)) (length net.cells)
    (λ i l. tree_at-places p net i (h.consumed i l))
    ∙ (tally-below (λ (u : Use). u.cell) (λ u. p (use_place net u)) (uses net) (length net.cells)
    ∙ (tally-same (λ u. nat_lt u.cell (length net.cells) && p (use_place net u)) (λ u. p (use_place net u)) (uses net)
    (all-weaker (λ (u : Use). u.cell < length net.cells) (λ u. (nat_lt u.cell (length net.cells) && p (use_place net u)) ≡ p (use_place net u))
    (λ u l. rw (lt-ltb u.cell (length net.cells) l) refl) (uses net) (uses-within net h))
    ∙ sym (tally-map p (use_place net) (uses net))))

pub targets : (p : Target → Bool) (net : CellNet) → IsCellNet net →
    tally p (map target_of (numbering_of net).edges) ≡ tally p (spots operands_at 0 (numbering_of net).nodes)
unfolding numbering_of uses
targets p net h =
    let n : ℕ = length net.cells in
    let a = cell-targets p net h n (omega arith) in
    let b = ap (λ (cs : List Cell). tally p (map (use_place net) (cell_uses 0 cs))) (take_all n net.cells (omega arith)) in
    let c = all-used p net h in
    let d = tally-parts p (use_place net) (cell_uses 0 net.cells) (output_uses 0 net.outputs) in
    let zero_on : number net n + 0 ≡ number net n = omega arith in
    let e = ap (tally p) (output-places net 0 net.outputs ∙ ap (λ (v : ℕ). spots operands_at v (output_nodes 0 net.outputs)) zero_on) in
    let f = ap (tally p) (spots-behind operands_at (nodes_before net n) (output_nodes 0 net.outputs))
    ∙ tally-append p (spots operands_at 0 (nodes_before net n)) (spots operands_at (number net n) (output_nodes 0 net.outputs)) in
    omega (arith, a, b, c, d, e, f)

-- each edge leads to a node further on

pub number-next : (net : CellNet) (i : ℕ) → number net (suc i) ≡ number net i + 1 + length (fans (tree_at net i))
unfolding nodes_before
number-next net i = length-append (nodes_before net i) (cell_node (cell_at net.cells i) ∷ fans (tree_at net i)) ∙ omega arith

pub number-rises : (net : CellNet) (i j : ℕ) → i ≤ j → number net i ≤ number net j
number-rises net i zero l = let e : i ≡ 0 = omega arith in rw e (omega arith)
number-rises net i (suc j) l =
    elim (cases_lt j i) [
      | inl past ↦ let e : i ≡ suc j = omega arith in rw e (omega arith)
      | inr low ↦ let a = number-rises net i j low in let b = number-next net j in omega (arith, a, b)
    ]

abbrev pub IsAhead : CellNet → ℕ → ℕ → Consumer → Type 0
IsAhead net low high c = (low ≤ (place net c).node) × ((place net c).node < high)

pub entry-ahead : (net : CellNet) (v low high : ℕ) (t : FanOut) → v + length (fans t) ≤ low → low ≤ high → AllByRecursion (IsAhead net low high) (leaves t) →
    (v ≤ (entry net v t).node) × ((entry net v t).node < high)
unfolding fans
entry-ahead net v low high (direct consumer) l m a = let b = a.0 in (omega (arith, b.0), b.1)
entry-ahead net v low high (fan first second) l m a = (omega arith, omega arith)

pub fan-forward : (net : CellNet) (v low high : ℕ) (t : FanOut) → v + length (fans t) ≤ low → low ≤ high → AllByRecursion (IsAhead net low high) (leaves t) →
    AllByRecursion (λ (e : Edge). (e.source < e.target) × (e.target < high)) (fan_edges net v t)
unfolding fans fan_edges
fan-forward net v low high (direct consumer) l m a = tt
fan-forward net v low high (fan first second) l m a =
    let w : ℕ = suc v + length (fans first) in
    let n = length-append (fans first) (fans second) in
    let x = all-first (IsAhead net low high) (leaves first) (leaves second) a in
    let y = all-second (IsAhead net low high) (leaves first) (leaves second) a in
    let at_first : suc v + length (fans first) ≤ low = omega (arith, n) in
    let at_second : w + length (fans second) ≤ low = omega (arith, n) in
    let b = entry-ahead net (suc v) low high first at_first m x in
    let c = entry-ahead net w low high second at_second m y in (
      (omega (arith, b.0), b.1),
      (
        (omega (arith, c.0), c.1),
        all-append (λ (e : Edge). (e.source < e.target) × (e.target < high)) (fan_edges net (suc v) first) (fan_edges net w second)
            (fan-forward net (suc v) low high first at_first m x) (fan-forward net w low high second at_second m y),
      ),
    )
