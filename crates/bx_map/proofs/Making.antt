-- The nodes and the edges of a net in cells, one cell after the other.
use Rattle.std.proofs.Common.{◌≡◌, ℕ, suc, ◌+◌, ◌-◌, ◌<◌, List, [], ◌∷◌, ◌++◌, length, take, get_or, replicate, refl, sym, ◌∙◌, ap, ap₂, arith, length-append}
use Rattle.std.proofs.lemmas.List.{append_assoc, length-take, replicate-append-replicate}
use Rattle.bx_network.specs.declared.node.Node.{Node}
use Rattle.bx_network.specs.declared.node.Edge.{Edge}
use Rattle.std.proofs.Math.Seq.{take-suc}
use Rattle.bx_map.specs.declared.cell.Cell.{Cell}
use Rattle.bx_map.specs.declared.cell.Target.{Target}
use Rattle.bx_map.specs.declared.consumer.Consumer.{Consumer}
use Rattle.bx_map.specs.Cells.{CellNet, cell_at}
use Rattle.bx_map.specs.FanOuts.{consumers, FanOut, direct, fan, tree_of, tree_at, IsCellNet}
use Rattle.bx_map.specs.Numbers.{edge_to, fan_node, output_node, fans, nodes_before, output_nodes, number, entry, fan_edges, cell_node, cell_nodes, cell_edges, edges_before, numbering_of}
use Rattle.bx_map.proofs.Starts.{fans-many}

-- nodes

fans-same : (t : FanOut) → fans t ≡ replicate (length (fans t)) fan_node
unfolding fans
fans-same (direct c) = refl
fans-same (fan first second) =
    ap (λ (ns : List Node). fan_node ∷ ns)
    (ap₂ (λ (xs ys : List Node). xs ++ ys) (fans-same first) (fans-same second)
    ∙ (replicate-append-replicate (length (fans first)) (length (fans second)) fan_node
    ∙ ap (λ (n : ℕ). replicate n fan_node) (sym (length-append (fans first) (fans second)))))

pub fans-are : (net : CellNet) → IsCellNet net → (i : ℕ) (cs : List Consumer) → i < length net.cells → cs ≡ consumers net i → replicate (length cs - 1) fan_node ≡ fans (tree_at net i)
fans-are net h i cs l e =
    let a = fans-many net h i l in
    let b = ap length e in
    let n : length cs - 1 ≡ length (fans (tree_at net i)) = omega (arith, a, b) in
    ap (λ (k : ℕ). replicate k fan_node) n ∙ sym (fans-same (tree_at net i))

output_nodes-append : (j : ℕ) (is : List ℕ) (i : ℕ) → output_nodes j (is ++ i ∷ []) ≡ output_nodes j is ++ output_node (j + length is) ∷ []
output_nodes-append j [] i = ap (λ (p : ℕ). output_node p ∷ []) (omega arith)
output_nodes-append j (k ∷ is) i =
    ap (λ (ns : List Node). output_node j ∷ ns) (output_nodes-append (suc j) is i ∙ ap (λ (p : ℕ). output_nodes (suc j) is ++ output_node p ∷ []) (omega arith))

pub output_nodes-more : (all now after : List Node) (outputs : List ℕ) (m : ℕ) → m < length outputs → now ≡ all ++ output_nodes 0 (take m outputs) → after ≡ now ++ output_node m ∷ [] →
    after ≡ all ++ output_nodes 0 (take (m + 1) outputs)
output_nodes-more all now after outputs m l h f =
    let more : m + 1 ≡ suc m = omega arith in
    let many : 0 + length (take m outputs) ≡ m = let a = length-take m outputs in omega (arith, a) in
    f ∙ (ap (λ (ns : List Node). ns ++ output_node m ∷ []) h
    ∙ (append_assoc all (output_nodes 0 (take m outputs)) (output_node m ∷ [])
    ∙ sym (ap (λ (ns : List Node). all ++ ns)
    (ap (λ (q : ℕ). output_nodes 0 (take q outputs)) more
    ∙ (ap (output_nodes 0) (take-suc outputs m 0 l)
    ∙ (output_nodes-append 0 (take m outputs) (get_or outputs m 0)
    ∙ ap (λ (q : ℕ). output_nodes 0 (take m outputs) ++ output_node q ∷ []) many))))))

pub cell_nodes-put : (net : CellNet) → IsCellNet net → (i : ℕ) (cells : List Cell) (cs : List Consumer) (own : Node) (old one new : List Node) → i < length net.cells → cells ≡ net.cells → cs ≡ consumers net i →
    own ≡ cell_node (cell_at cells i) → one ≡ old ++ own ∷ [] → new ≡ one ++ replicate (length cs - 1) fan_node → new ≡ old ++ cell_nodes net i
cell_nodes-put net h i cells cs own old one new l e f g p q =
    q ∙ (ap₂ (λ (ms ns : List Node). ms ++ ns) p (fans-are net h i cs l f)
    ∙ (append_assoc old (own ∷ []) (fans (tree_at net i))
    ∙ ap (λ (n : Node). old ++ (n ∷ fans (tree_at net i))) (g ∙ ap (λ (xs : List Cell). cell_node (cell_at xs i)) e)))

pub nodes_before-none : (net : CellNet) → [] ≡ nodes_before net 0
unfolding nodes_before
nodes_before-none net = refl

pub nodes_before-more : (net : CellNet) (i : ℕ) (now after : List Node) → now ≡ nodes_before net i → after ≡ now ++ cell_nodes net i → after ≡ nodes_before net (i + 1)
unfolding nodes_before
nodes_before-more net i now after e f =
    let next : suc i ≡ i + 1 = omega arith in
    f ∙ (ap (λ (ns : List Node). ns ++ cell_nodes net i) e ∙ ap (nodes_before net) next)

pub nodes-are : (net : CellNet) (i : ℕ) (cells : List Cell) (outputs : List ℕ) (now after : List Node) → cells ≡ net.cells → outputs ≡ net.outputs → i ≡ length cells → now ≡ nodes_before net i → after ≡ now ++ output_nodes 0 outputs →
    after ≡ (numbering_of net).nodes
unfolding numbering_of
nodes-are net i cells outputs now after e f l p q = q ∙ ap₂ (λ (ms ns : List Node). ms ++ ns) (p ∙ ap (nodes_before net) (l ∙ ap length e)) (ap (output_nodes 0) f)

-- edges

pub cell_edges-put : (net : CellNet) (i v : ℕ) (cs : List Consumer) (target : Target) (old one new : List Edge) → v ≡ number net i → cs ≡ consumers net i → target ≡ entry net (v + 1) (tree_of cs) →
    one ≡ old ++ edge_to v 0 target ∷ [] → new ≡ one ++ fan_edges net (v + 1) (tree_of cs) → new ≡ old ++ cell_edges net i
unfolding tree_at
cell_edges-put net i v cs target old one new e f g p q =
    let next : v + 1 ≡ suc (number net i) = omega (arith, e) in
    q ∙ (ap₂ (λ (es fs : List Edge). es ++ fs) p (ap₂ (λ (w : ℕ) (ds : List Consumer). fan_edges net w (tree_of ds)) next f)
    ∙ (append_assoc old (edge_to v 0 target ∷ []) (fan_edges net (suc (number net i)) (tree_of (consumers net i)))
    ∙ ap₂ (λ (w : ℕ) (t : Target). old ++ (edge_to w 0 t ∷ fan_edges net (suc (number net i)) (tree_of (consumers net i)))) e (g ∙ ap₂ (λ (w : ℕ) (ds : List Consumer). entry net w (tree_of ds)) next f)))

pub edges_before-none : (net : CellNet) → [] ≡ edges_before net 0
unfolding edges_before
edges_before-none net = refl

pub edges_before-more : (net : CellNet) (i : ℕ) (now after : List Edge) → now ≡ edges_before net i → after ≡ now ++ cell_edges net i → after ≡ edges_before net (i + 1)
unfolding edges_before
edges_before-more net i now after e f =
    let next : suc i ≡ i + 1 = omega arith in
    f ∙ (ap (λ (es : List Edge). es ++ cell_edges net i) e ∙ ap (edges_before net) next)

pub edges-are : (net : CellNet) (i : ℕ) (cells : List Cell) (now : List Edge) → cells ≡ net.cells → i ≡ length cells → now ≡ edges_before net i → now ≡ (numbering_of net).edges
unfolding numbering_of
edges-are net i cells now e l p = p ∙ ap (edges_before net) (l ∙ ap length e)
