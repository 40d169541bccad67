-- The numbered nodes and edges of a net in cells are a network.
use Rattle.std.proofs.Common.{◌≡◌, ℕ, zero, suc, ◌+◌, ◌*◌, ◌<◌, ◌≤◌, ◌==◌, nat_lt, Bool, false, ◌&&◌, List, [], ◌∷◌, ◌++◌, length, map, get_or, Some, refl, sym, ◌∙◌, ap, subst, arith, inl, inr, ◌⊎◌}
use Rattle.std.specs.Prelude.{◌≢◌}
use Rattle.std.specs.List.{AllByRecursion, slice_get, filter, AllPairs}
use Rattle.std.proofs.lemmas.Bool.{cases_eq, eq-eqb, ne_eqb}
use Rattle.std.proofs.lemmas.List.{length-append, length-map}
use Rattle.bx_forms.specs.Kinds.{slots, operands}
use Rattle.bx_forms.specs.declared.kind.Kind.{Kind}
use Rattle.bx_forms.specs.declared.kind.Kind.TheVariants as kind
use Rattle.bx_network.specs.declared.node.Node.{Node}
use Rattle.bx_network.specs.declared.node.Edge.{Edge}
use Rattle.bx_network.specs.Networks.{one_if, IsNetwork, IsBefore, HasKind, HasPort, fan_out, fan_in, is_output, output_count}
use Rattle.bx_logic.proofs.Lists.{Some-same, get-right, all-append, all-weaker}
use Rattle.bx_network.proofs.Networks.{slots-few}
use Rattle.bx_map.specs.declared.cell.Target.{Target}
use Rattle.bx_map.specs.declared.cell.Cell.{Cell}
use Rattle.bx_map.specs.declared.cell.Cell.TheVariants.{Input, Not, Gate}
use Rattle.bx_map.specs.FanOuts.{IsCellNet, output_uses, uses, consumers, FanOut, direct, fan, tree_at}
use Rattle.bx_map.specs.Cells.{CellNet, cell_at, kind_of, operands_of}
use Rattle.bx_map.specs.declared.consumer.Consumer.{Consumer}
use Rattle.bx_map.specs.declared.consumer.Use.{Use}
use Rattle.bx_map.specs.Numbers.{edge_to, cell_node, fan_node, output_node, fans, nodes_before, output_nodes, number, entry, fan_edges, edges_before, numbering_of}
use Rattle.bx_map.proofs.Tallies.{tally, tally-append, tally-map, length-filter}
use Rattle.bx_map.proofs.Spots.{row, spots, is_at, spots-at, spots-ascend, IsBeforeSpot, Ascends}
use Rattle.bx_map.proofs.Numbering.{IsAhead, source_of, target_of, slots_at, operands_at, sources, targets, leaves-tree_at, fan-forward, entry-ahead, number-next, number-rises, all-uses, all-operand_uses}

pub outputs-count : (j : ℕ) (is : List ℕ) → length (output_nodes j is) ≡ length is
outputs-count j [] = refl
outputs-count j (i ∷ is) = ap suc (outputs-count (suc j) is)

pub nodes-count : (net : CellNet) → length (numbering_of net).nodes ≡ number net (length net.cells) + length net.outputs
unfolding numbering_of
nodes-count net =
    length-append (nodes_before net (length net.cells)) (output_nodes 0 net.outputs)
    ∙ ap (λ (n : ℕ). number net (length net.cells) + n) (outputs-count 0 net.outputs)

-- each edge leads to a node further on

abbrev IsUseAhead : CellNet → ℕ → Use → Type 0
IsUseAhead net high u = IsAhead net (number net (suc u.cell)) high u.consumer

number-less : (net : CellNet) (i j : ℕ) → i < j → number net i < number net j
number-less net i j l = let a = number-next net i in let b = number-rises net (suc i) j (omega arith) in omega (arith, a, b)

outputs-ahead : (net : CellNet) (high j : ℕ) (is : List ℕ) → AllByRecursion (λ a. a < length net.cells) is → number net (length net.cells) + (j + length is) ≤ high →
    AllByRecursion (IsUseAhead net high) (output_uses j is)
outputs-ahead net high j [] a l = tt
outputs-ahead net high j (i ∷ is) a l =
    let r = number-rises net (suc i) (length net.cells) (omega (arith, a.0)) in
    ((omega (arith, r), omega arith), outputs-ahead net high (suc j) is a.1 (omega arith))

uses-ahead : (net : CellNet) → IsCellNet net → AllByRecursion (IsUseAhead net (length (numbering_of net).nodes)) (uses net)
uses-ahead net h =
    let high : ℕ = length (numbering_of net).nodes in
    let n = nodes-count net in
    all-uses (IsUseAhead net high) net
    (λ j l. all-operand_uses (IsUseAhead net high) (λ a. a < j) j
    (λ k i m.
    let r = number-rises net (suc i) j (omega arith) in
    let s = number-less net j (length net.cells) l in
    (r, omega (arith, s, n)))
    0 (operands_of (cell_at net.cells j)) (h.cells.reads j))
    (outputs-ahead net high 0 net.outputs h.cells.outputs (omega (arith, n)))

pub all-consumers : (P : Use → Type 0) (Q : Consumer → Type 0) (i : ℕ) → ((u : Use) → u.cell ≡ i → P u → Q u.consumer) → (us : List Use) → AllByRecursion P us →
    AllByRecursion Q (map (λ (u : Use). u.consumer) (filter (λ u. u.cell == i) us))
all-consumers P Q i h [] a = tt
all-consumers P Q i h (u ∷ us) a =
    elim (cases_eq u.cell i) [
      | inl e ↦ rw (eq-eqb u.cell i e) (h u e a.0, all-consumers P Q i h us a.1)
      | inr ne ↦ rw (ne_eqb u.cell i ne) (all-consumers P Q i h us a.1)
    ]

consumers-ahead : (net : CellNet) → IsCellNet net → (i : ℕ) → AllByRecursion (IsAhead net (number net (suc i)) (length (numbering_of net).nodes)) (consumers net i)
unfolding consumers
consumers-ahead net h i =
    all-consumers (IsUseAhead net (length (numbering_of net).nodes)) (IsAhead net (number net (suc i)) (length (numbering_of net).nodes)) i
    (λ u e a. subst (λ (c : ℕ). IsAhead net (number net (suc c)) (length (numbering_of net).nodes) u.consumer) e a) (uses net) (uses-ahead net h)

abbrev IsForward : ℕ → Edge → Type 0
IsForward high e = (e.source < e.target) × (e.target < high)

cells-forward : (net : CellNet) → IsCellNet net → (i : ℕ) → i ≤ length net.cells → AllByRecursion (IsForward (length (numbering_of net).nodes)) (edges_before net i)
unfolding edges_before
cells-forward net h zero l = tt
cells-forward net h (suc i) l =
    let high : ℕ = length (numbering_of net).nodes in
    let v : ℕ = number net i in
    let a = number-next net i in
    let b = number-rises net (suc i) (length net.cells) l in
    let c = nodes-count net in
    let low : suc v + length (fans (tree_at net i)) ≤ number net (suc i) = omega (arith, a) in
    let within : number net (suc i) ≤ high = omega (arith, b, c) in
    let d = subst (AllByRecursion (IsAhead net (number net (suc i)) high)) (sym (leaves-tree_at net i (h.consumed i (omega arith)))) (consumers-ahead net h i) in
    let e = entry-ahead net (suc v) (number net (suc i)) high (tree_at net i) low within d in
    all-append (IsForward high) (edges_before net i) (edge_to v 0 (entry net (suc v) (tree_at net i)) ∷ fan_edges net (suc v) (tree_at net i))
    (cells-forward net h i (omega arith))
    ((omega (arith, e.0), e.1), fan-forward net (suc v) (number net (suc i)) high (tree_at net i) low within d)

edges-forward : (net : CellNet) → IsCellNet net → AllByRecursion (IsForward (length (numbering_of net).nodes)) (numbering_of net).edges
unfolding numbering_of
edges-forward net h = cells-forward net h (length net.cells) (omega arith)

-- edges ascend

all-sources : (t : Target) (es : List Edge) → AllByRecursion (IsBeforeSpot t) (map source_of es) → (j : ℕ) (d : Edge) → j < length es → IsBeforeSpot t (source_of (get_or es j d))
all-sources t [] a j d l = absurd (omega arith)
all-sources t (e ∷ es) a zero d l = a.0
all-sources t (e ∷ es) a (suc j) d l = all-sources t es a.1 j d (omega arith)

edges-ascend : (es : List Edge) → Ascends (map source_of es) → AllPairs IsBefore es
edges-ascend [] a i j d l m = absurd (omega arith)
edges-ascend (e ∷ es) a i zero d l m = absurd (omega arith)
edges-ascend (e ∷ es) a zero (suc j) d l m = all-sources (source_of e) es a.0 j d (omega arith)
edges-ascend (e ∷ es) a (suc i) (suc j) d l m = edges-ascend es a.1 i j d (omega arith) (omega arith)

-- how many there are

length-row : (v k n : ℕ) → length (row v k n) ≡ n
length-row v k zero = refl
length-row v k (suc n) = ap suc (length-row v (suc k) n)

length-spots : (v : ℕ) (nodes : List Node) → length (spots slots_at v nodes) ≤ 2 * length nodes
length-spots v [] = omega arith
length-spots v (n ∷ ns) =
    let a = length-append (row v 0 (slots n.kind)) (spots slots_at (suc v) ns) in
    let b = length-row v 0 (slots n.kind) in
    let c = slots-few n.kind in
    let d = length-spots (suc v) ns in
    omega (arith, a, b, c, d)

-- what stands at each number

abbrev AllAt : (ℕ → Node → Type 0) → ℕ → List Node → Type 0
AllAt P v [] = Unit {0}
AllAt P v (n ∷ ns) = P v n × AllAt P (suc v) ns

at-append : (P : ℕ → Node → Type 0) (v : ℕ) (xs ys : List Node) → AllAt P v xs → AllAt P (v + length xs) ys → AllAt P v (xs ++ ys)
at-append P v [] ys a b = let e : v + 0 ≡ v = omega arith in subst (λ (w : ℕ). AllAt P w ys) e b
at-append P v (x ∷ xs) ys a b =
    let e : v + suc (length xs) ≡ suc v + length xs = omega arith in
    (a.0, at-append P (suc v) xs ys a.1 (subst (λ (w : ℕ). AllAt P w ys) e b))

at-found : (P : ℕ → Node → Type 0) (v : ℕ) (nodes : List Node) → AllAt P v nodes → (i : ℕ) (n : Node) → slice_get nodes i ≡ Some n → P (v + i) n
at-found P v [] a i n e = absurd (cc)
at-found P v (x ∷ xs) a zero n e =
    let here : v ≡ v + 0 = omega arith in
    subst (λ (w : ℕ). P w n) here (subst (λ (y : Node). P v y) (Some-same x n e) a.0)
at-found P v (x ∷ xs) a (suc i) n e =
    let here : suc v + i ≡ v + suc i = omega arith in
    subst (λ (w : ℕ). P w n) here (at-found P (suc v) xs a.1 i n e)

abbrev IsCellAt : CellNet → ℕ → Node → Type 0
IsCellAt net v n = (i : ℕ) × (i < length net.cells) × (v ≡ number net i) × (n ≡ cell_node (cell_at net.cells i))

abbrev IsOutputAt : CellNet → ℕ → Node → Type 0
IsOutputAt net v n = (j : ℕ) × (j < length net.outputs) × (v ≡ number net (length net.cells) + j) × (n ≡ output_node j)

abbrev IsNodeAt : CellNet → ℕ → Node → Type 0
IsNodeAt net v n = IsCellAt net v n ⊎ ((n ≡ fan_node) ⊎ IsOutputAt net v n)

at-fans : (net : CellNet) (v : ℕ) (t : FanOut) → AllAt (IsNodeAt net) v (fans t)
unfolding fans
at-fans net v (direct c) = tt
at-fans net v (fan first second) =
    (inr (inl refl), at-append (IsNodeAt net) (suc v) (fans first) (fans second) (at-fans net (suc v) first) (at-fans net (suc v + length (fans first)) second))

at-cells : (net : CellNet) (i : ℕ) → i ≤ length net.cells → AllAt (IsNodeAt net) 0 (nodes_before net i)
unfolding nodes_before
at-cells net zero l = tt
at-cells net (suc i) l =
    let e : number net i ≡ 0 + number net i = omega arith in
    at-append (IsNodeAt net) 0 (nodes_before net i) (cell_node (cell_at net.cells i) ∷ fans (tree_at net i)) (at-cells net i (omega arith))
    (subst (λ (w : ℕ). AllAt (IsNodeAt net) w (cell_node (cell_at net.cells i) ∷ fans (tree_at net i))) e
    (inl (i, (omega arith), refl, refl), at-fans net (suc (number net i)) (tree_at net i)))

at-outputs : (net : CellNet) (j : ℕ) (is : List ℕ) → j + length is ≡ length net.outputs → AllAt (IsNodeAt net) (number net (length net.cells) + j) (output_nodes j is)
at-outputs net j [] e = tt
at-outputs net j (i ∷ is) e =
    let next : number net (length net.cells) + suc j ≡ suc (number net (length net.cells) + j) = omega arith in (
      inr (inr (j, (omega (arith, e)), refl, refl)),
      subst (λ (w : ℕ). AllAt (IsNodeAt net) w (output_nodes (suc j) is)) next (at-outputs net (suc j) is (omega (arith, e))),
    )

pub node-at : (net : CellNet) (v : ℕ) (n : Node) → slice_get (numbering_of net).nodes v ≡ Some n → IsNodeAt net v n
unfolding numbering_of
node-at net v n e =
    let cells : ℕ = length net.cells in
    let zero_on : number net cells + 0 ≡ 0 + number net cells = omega arith in
    let none : 0 + length net.outputs ≡ length net.outputs = omega arith in
    let here : 0 + v ≡ v = omega arith in
    subst (λ (w : ℕ). IsNodeAt net w n) here
    (at-found (IsNodeAt net) 0 (nodes_before net cells ++ output_nodes 0 net.outputs)
    (at-append (IsNodeAt net) 0 (nodes_before net cells) (output_nodes 0 net.outputs) (at-cells net cells (omega arith))
    (subst (λ (w : ℕ). AllAt (IsNodeAt net) w (output_nodes 0 net.outputs)) zero_on (at-outputs net 0 net.outputs none))) v n e)

-- ports

abbrev port_node : Kind → ℕ → Node
port_node k port = record { kind = k; port = port }

input-of : (c : Cell) (port : ℕ) → length (operands_of c) ≡ operands (kind_of c) → port_node kind.Input port ≡ cell_node c → c ≡ Input port
input-of (Input p) port h e = ap Input (sym (ap (λ (n : Node). n.port) e))
input-of (Not a) port h e = let k : kind.Input ≡ kind.Not = ap (λ (n : Node). n.kind) e in absurd (cc)
input-of (Gate k a b) port h e =
    let m : 0 ≡ operands k = ap (λ (n : Node). operands n.kind) e in
    absurd (omega (arith, m, h))

pub input-at : (net : CellNet) → IsCellNet net → (v port : ℕ) → IsNodeAt net v (port_node kind.Input port) →
    (i : ℕ) × (i < length net.cells) × (v ≡ number net i) × (cell_at net.cells i ≡ Input port)
input-at net h v port (inl (i, l, at, is)) = (i, l, at, input-of (cell_at net.cells i) port (h.cells.arity i l) is)
input-at net h v port (inr (inl is)) = let k : kind.Input ≡ kind.Fan = ap (λ (n : Node). n.kind) is in absurd (cc)
input-at net h v port (inr (inr (j, l, at, is))) = let k : kind.Input ≡ kind.Output = ap (λ (n : Node). n.kind) is in absurd (cc)

pub output-at : (net : CellNet) → IsCellNet net → (v port : ℕ) → IsNodeAt net v (port_node kind.Output port) →
    (port < length net.outputs) × (v ≡ number net (length net.cells) + port)
output-at net h v port (inl (i, l, at, is)) =
    let m : 0 ≡ slots (kind_of (cell_at net.cells i)) = ap (λ (n : Node). slots n.kind) is in
    let one = h.cells.slot i l in
    absurd (omega (arith, m, one))
output-at net h v port (inr (inl is)) = let k : kind.Output ≡ kind.Fan = ap (λ (n : Node). n.kind) is in absurd (cc)
output-at net h v port (inr (inr (j, l, at, is))) = let p : port ≡ j = ap (λ (n : Node). n.port) is in (omega (arith, p), omega (arith, p, at))

portless-cell : (c : Cell) (k : Kind) (port : ℕ) → port_node k port ≡ cell_node c → k ≢ kind.Input → port ≡ 0
portless-cell (Input p) k port e ne = absurd (ne (ap (λ (n : Node). n.kind) e))
portless-cell (Not a) k port e ne = ap (λ (n : Node). n.port) e
portless-cell (Gate g a b) k port e ne = ap (λ (n : Node). n.port) e

portless-at : (net : CellNet) (v : ℕ) (k : Kind) (port : ℕ) → IsNodeAt net v (port_node k port) → k ≢ kind.Input → k ≢ kind.Output → port ≡ 0
portless-at net v k port (inl (i, l, at, is)) ne mo = portless-cell (cell_at net.cells i) k port is ne
portless-at net v k port (inr (inl is)) ne mo = ap (λ (n : Node). n.port) is
portless-at net v k port (inr (inr (j, l, at, is))) ne mo = absurd (mo (ap (λ (n : Node). n.kind) is))

not_output : (k : Kind) → slots k ≡ 1 → is_output k ≡ false
not_output kind.Output e = absurd (omega (arith, e))
not_output k e = refl

is_output_node : Node → Bool
is_output_node n = is_output n.kind

fans-no_output : (t : FanOut) → tally is_output_node (fans t) ≡ 0
unfolding fans is_output_node
fans-no_output (direct c) = refl
fans-no_output (fan first second) =
    let a = tally-append is_output_node (fans first) (fans second) in
    let b = fans-no_output first in
    let c = fans-no_output second in
    omega (arith, a, b, c)

cells-no_output : (net : CellNet) → IsCellNet net → (i : ℕ) → i ≤ length net.cells → tally is_output_node (nodes_before net i) ≡ 0
unfolding nodes_before is_output_node
cells-no_output net h zero l = refl
cells-no_output net h (suc i) l =
    let a = tally-append is_output_node (nodes_before net i) (cell_node (cell_at net.cells i) ∷ fans (tree_at net i)) in
    let b = cells-no_output net h i (omega arith) in
    let c = ap one_if (not_output (kind_of (cell_at net.cells i)) (h.cells.slot i (omega arith))) in
    let d = fans-no_output (tree_at net i) in
    omega (arith, a, b, c, d)

outputs-all_output : (j : ℕ) (is : List ℕ) → tally is_output_node (output_nodes j is) ≡ length is
unfolding is_output_node
outputs-all_output j [] = refl
outputs-all_output j (i ∷ is) = let rest = outputs-all_output (suc j) is in omega (arith, rest)

pub output_count-is : (net : CellNet) → IsCellNet net → output_count (numbering_of net) ≡ length net.outputs
unfolding numbering_of is_output_node
output_count-is net h =
    let n : ℕ = length net.cells in
    let a = length-filter is_output_node (nodes_before net n ++ output_nodes 0 net.outputs) in
    let b = tally-append is_output_node (nodes_before net n) (output_nodes 0 net.outputs) in
    let c = cells-no_output net h n (omega arith) in
    let d = outputs-all_output 0 net.outputs in
    omega (arith, a, b, c, d)

get-output : (j : ℕ) (is : List ℕ) (i : ℕ) → i < length is → slice_get (output_nodes j is) i ≡ Some (output_node (j + i))
get-output j [] i l = absurd (omega arith)
get-output j (k ∷ is) zero l = let e : j ≡ j + 0 = omega arith in ap (λ (p : ℕ). Some (output_node p)) e
get-output j (k ∷ is) (suc i) l = let e : suc j + i ≡ j + suc i = omega arith in get-output (suc j) is i (omega arith) ∙ ap (λ (p : ℕ). Some (output_node p)) e

pub output-found : (net : CellNet) (port : ℕ) → port < length net.outputs → HasPort (numbering_of net) (number net (length net.cells) + port) kind.Output port
unfolding numbering_of
output-found net port l =
    let e : 0 + port ≡ port = omega arith in
    get-right (nodes_before net (length net.cells)) (output_nodes 0 net.outputs) (number net (length net.cells) + port) port refl ∙ (get-output 0 net.outputs port l ∙ ap (λ (p : ℕ). Some (output_node p)) e)

leaves-once : (net : CellNet) → IsCellNet net → (v : ℕ) (k : Kind) → HasKind (numbering_of net) v k → (slot : ℕ) →
    length (fan_out (numbering_of net).edges v slot) ≡ one_if (nat_lt slot (slots k))
leaves-once net h v k (n, found, same) slot =
    let e : v ≡ 0 + v = omega arith in
    length-filter (λ (e : Edge). (e.source == v) && (e.slot == slot)) (numbering_of net).edges
    ∙ (sym (tally-map (is_at v slot) source_of (numbering_of net).edges)
    ∙ (ap (tally (is_at v slot)) (sources net h.cells.slot)
    ∙ (spots-at slots_at v slot 0 v (numbering_of net).nodes n found e
    ∙ ap (λ (j : Kind). one_if (nat_lt slot (slots j))) same)))

enters-once : (net : CellNet) → IsCellNet net → (v : ℕ) (k : Kind) → HasKind (numbering_of net) v k → (operand : ℕ) →
    length (fan_in (numbering_of net).edges v operand) ≡ one_if (nat_lt operand (operands k))
enters-once net h v k (n, found, same) o =
    let e : v ≡ 0 + v = omega arith in
    length-filter (λ (e : Edge). (e.target == v) && (e.operand == o)) (numbering_of net).edges
    ∙ (sym (tally-map (is_at v o) target_of (numbering_of net).edges)
    ∙ (targets (is_at v o) net h
    ∙ (spots-at operands_at v o 0 v (numbering_of net).nodes n found e
    ∙ ap (λ (j : Kind). one_if (nat_lt o (operands j))) same)))

pub numbering_of-is_network : (net : CellNet) → IsCellNet net → length (numbering_of net).nodes < 2147483648 → IsNetwork (numbering_of net)
numbering_of-is_network net h few =
    let forward = edges-forward net h in
    let count = output_count-is net h in
    let longer = length-spots 0 (numbering_of net).nodes in
    let long = sym (length-map (numbering_of net).edges source_of) ∙ ap length (sources net h.cells.slot) in
    record {
      few_nodes = omega arith;
      few_edges = omega (arith, long, longer);
      within = all-weaker (IsForward (length (numbering_of net).nodes)) (λ (e : Edge). e.target < length (numbering_of net).nodes) (λ e f. f.1) (numbering_of net).edges forward;
      forward = all-weaker (IsForward (length (numbering_of net).nodes)) (λ (e : Edge). e.source < e.target) (λ e f. f.0) (numbering_of net).edges forward;
      leaves = leaves-once net h;
      enters = enters-once net h;
      ascending = edges-ascend (numbering_of net).edges (subst Ascends (sym (sources net h.cells.slot)) (spots-ascend slots_at 0 (numbering_of net).nodes));
      inputs_apart = λ u v port at_u at_v.
          let a = input-at net h u port (node-at net u (port_node kind.Input port) at_u) in
          let b = input-at net h v port (node-at net v (port_node kind.Input port) at_v) in
          a.2 ∙ (ap (number net) (h.cells.apart a.0 b.0 port a.1 b.1 a.3 b.3) ∙ sym b.2);
      outputs_apart = λ u v port at_u at_v.
          let a = output-at net h u port (node-at net u (port_node kind.Output port) at_u) in
          let b = output-at net h v port (node-at net v (port_node kind.Output port) at_v) in
          a.1 ∙ sym b.1;
      outputs_within = λ v port at.
          let a = output-at net h v port (node-at net v (port_node kind.Output port) at) in
          omega (arith, a.0, count);
      outputs_all = λ port l. (number net (length net.cells) + port, output-found net port (omega (arith, l, count)));
      portless = λ v k port at ne mo. portless-at net v k port (node-at net v (port_node k port) at) ne mo;
    }
