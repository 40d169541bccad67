-- A network has two edges for each node at most, and a formula is what is added to none.
use Rattle.std.proofs.Common.{◌≡◌, ℕ, zero, suc, ◌+◌, ◌*◌, ◌<◌, ◌≤◌, List, [], ◌++◌, length, inl, inr, refl, ap, ◌∙◌, arith}
use Rattle.bx_cnf.specs.Formulas.{Formula}
use Rattle.bx_grid.specs.declared.ratio.Ratio.{Ratio}
use Rattle.bx_grid.specs.Tiles.{tile_count, IsGrid}
use Rattle.bx_network.specs.declared.node.Edge.{Edge}
use Rattle.bx_network.specs.Networks.{Network, IsNetwork, IsBefore}
use Rattle.bx_network.proofs.Lists.{got-slice_get}
use Rattle.bx_network.proofs.Networks.{slots-few, kind-at, slot-within, goes-forward}
use Rattle.bx_network.proofs.Downs.{edge_at, no_edge}
use Rattle.bx_encode.specs.declared.numbers.TheConstants.{MOST_NODES, MOST_AREA}
use Rattle.bx_encode.specs.Sizes.{IsFrame, Adds}
use Rattle.bx_encode.specs.Families.{Clause}

-- an edge's place among the slots of all nodes
record IsLow (N : Network) (e : Edge) : Type 0 where
  source : e.source < length N.nodes
  slot : e.slot < 2

low : (N : Network) → IsNetwork N → (i : ℕ) → i < length N.edges → IsLow N (edge_at N.edges i)
low N net i inside =
    let e = edge_at N.edges i in
    let is = got-slice_get N.edges i no_edge inside in
    let forward = goes-forward N net i e is in
    let source : e.source < length N.nodes = omega (arith, forward.forward, forward.within) in
    let (kind, has) = kind-at N e.source source in
    record { source = source; slot = omega (arith, slot-within N net i e is kind has, slots-few kind) }

rises : (e f : Edge) → e.slot < 2 → IsBefore e f → 2 * e.source + e.slot < 2 * f.source + f.slot
rises e f few (inl less) = omega arith
rises e f few (inr (same, less)) = omega arith

least : (N : Network) → IsNetwork N → (i : ℕ) → i < length N.edges → i ≤ 2 * (edge_at N.edges i).source + (edge_at N.edges i).slot
least N net zero inside = omega arith
least N net (suc i) inside =
    let before = least N net i (omega arith) in
    let few = (low N net i (omega arith)).slot in
    let up = rises (edge_at N.edges i) (edge_at N.edges (suc i)) few (net.ascending i (suc i) no_edge (omega arith) inside) in
    omega arith

few-edges : (N : Network) → IsNetwork N → (m : ℕ) → m ≡ length N.edges → m ≤ 2 * length N.nodes
few-edges N net zero is = omega arith
few-edges N net (suc m) is =
    let inside : m < length N.edges = omega arith in
    let at = least N net m inside in
    let own = low N net m inside in
    let source = own.source in
    let slot = own.slot in
    omega arith

pub frame-is : (N : Network) (r : Ratio) → IsNetwork N → IsGrid r → length N.nodes ≤ MOST_NODES → tile_count r ≤ MOST_AREA → IsFrame N r
frame-is N r net grid nodes area = record { network = net; grid = grid; few_nodes = nodes; few_tiles = area; few_edges = omega (arith, few-edges N net (length N.edges) refl) }

pub formula-is : (f g : Formula) (n vars : ℕ) (clauses : List Clause) → f ≡ record { vars = n; clauses = [] } → n ≡ vars → Adds f g clauses → g ≡ record { vars = vars; clauses = clauses }
formula-is f g n vars clauses empty same adds =
    ap (λ m. record { vars = m; clauses = g.clauses }) (adds.vars ∙ ap (λ (h : Formula). h.vars) empty ∙ same)
    ∙ ap (λ cs. record { vars = vars; clauses = cs }) (adds.behind ∙ ap (λ (h : Formula). h.clauses ++ clauses) empty)
