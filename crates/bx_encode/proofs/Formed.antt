-- The clauses of a ratio are a formula: each strictly ascending over the ratio's variables, and few enough.
use Rattle.std.proofs.Common.{◌≡◌, ℕ, suc, ◌+◌, ◌*◌, ◌<◌, ◌≤◌, ◌^◌, Bool, true, false, cond, not, List, [], ◌∷◌, ◌++◌, length, map, filter, Option, Some, None, inl, inr, refl, sym, ap, ◌∙◌, subst, arith, length-append}
use Rattle.std.proofs.Math.Nat.{suc-mul}
use Rattle.std.proofs.lemmas.List.{length-map}
use Rattle.std.proofs.lemmas.List.Elements.{All-from_recursion}
use Rattle.std.proofs.lemmas.List.FromFn.{length-range_with_len}
use Rattle.std.proofs.lemmas.Nat.{mul-le}
use Rattle.std.proofs.lemmas.Option.{slice_get-map, get_or_from_slice_get}
use Rattle.std.specs.List.{range_with_len}
use Rattle.std.specs.Prelude.{flat_map, option_map}
use Rattle.bx_logic.proofs.Members.{Member, Contains-from_member, Member-append_cases, Member-filter_cases, Member-flat_map_cases, Member-map_cases, AllByRecursion-from_member}
use Rattle.bx_cnf.specs.Formulas.{IsClause, IsFormula}
use Rattle.bx_cnf.specs.Literals.{Literal}
use Rattle.bx_forms.specs.declared.kind.Kind.{Kind}
use Rattle.bx_forms.specs.declared.kind.Kind.TheVariants.{Output, Not, Fan}
use Rattle.bx_forms.specs.declared.side.Side.{Side}
use Rattle.bx_forms.specs.declared.side.Side.TheVariants.{Left, Right}
use Rattle.bx_forms.specs.declared.table.Function.{Function}
use Rattle.bx_forms.specs.declared.table.Function.TheVariants.{Double, Cross}
use Rattle.bx_forms.specs.declared.table.Shape.{Shape}
use Rattle.bx_forms.specs.declared.table.TheConstants.{FORMS}
use Rattle.bx_forms.specs.Forms.{shape_of}
use Rattle.bx_grid.specs.declared.ratio.Ratio.{Ratio}
use Rattle.bx_grid.specs.Tiles.{tile_count, IsTile, border, entering}
use Rattle.bx_layout.specs.Permits.{PermitTest}
use Rattle.bx_network.specs.declared.node.Edge.{Edge}
use Rattle.bx_network.specs.Networks.{Network}
use Rattle.bx_network.proofs.Downs.{edge_at, no_edge}
use Rattle.bx_network.proofs.Lists.{got-slice_get}
use Rattle.bx_network.proofs.Networks.{goes-forward}
use Rattle.bx_encode.specs.declared.rule.Rule.{Rule}
use Rattle.bx_encode.specs.declared.rule.Rule.TheVariants.{ComesFromAbove, GoesOnBelow, JoinsItsEnds, GoesOneWay, KeepsOffNodes}
use Rattle.bx_encode.specs.declared.variable.Variable.TheVariants.{NodeOn, Taken, Used, EdgeOn}
use Rattle.bx_encode.specs.Families.{Clause, pairs, list_of, used_side, nodes, edges, tiles, borders, source, target, entries, exits, on_tiles, nodes_on, edges_on, on_borders, on_some, stands_somewhere, stands_once, stands_apart, takes, takes_its_tile, is_outside, stays_inside, keeps_its_window, leads_off, carries_nothing, stays_at, stays_on_grid, carries_once, uses, carries_some, is_used, rule_clauses, keeps_rule_on, keeps_rule, bars_above, bars_both, bars_node, bars_wire, bars_way, bars_two, bars_free, is_of_kind, bars_holding, bars_shape, bars, bars_all, is_permitted}
use Rattle.bx_encode.specs.Formula.{formula, place_clauses, border_clauses, way_clauses}
use Rattle.bx_encode.specs.Sizes.{IsFrame, most_clauses}
use Rattle.bx_encode.specs.Variables.{border_count, variable_count, is, isnt}
use Rattle.bx_encode.proofs.Barring.{entering-in, border-from, wire-is, wire_list, wire-clause}
use Rattle.bx_encode.proofs.Entering.{entries-climb, exits-climb, entry-in, exit-in}
use Rattle.bx_encode.proofs.Passing.{on-clause, placed-on-clause, comes-clause, goes-clause, off-clause, only-clause}
use Rattle.bx_encode.proofs.Rising.{clause-rises, rises-clause, rises-from, first-and}
use Rattle.bx_encode.proofs.Shapes.{node_on-taken, node_on-used, used-edge, used-used, edge-edge, one-clause, two-clause, three-clause, tiles-clause, nodes-clause, edges-clause, used-clause}
use Rattle.bx_encode.proofs.Truths.{range-within}

-- ---- lists

map-le : {X Y : Type 0} (f : X → Y) (m : ℕ) (xs : List X) → length xs ≤ m → length (map f xs) ≤ m
map-le f m xs few = omega (arith, few, length-map xs f)

append-le : {X : Type 0} (m n : ℕ) (xs ys : List X) → length xs ≤ m → length ys ≤ n → length (xs ++ ys) ≤ m + n
append-le m n xs ys few short = omega (arith, few, short, length-append xs ys)

filter-le : {X : Type 0} (p : X → Bool) (xs : List X) → length (filter p xs) ≤ length xs
filter-le p [] = omega arith
filter-le p (x ∷ xs) = let rest = filter-le p xs in
    elim (p x) as (λ b. length (cond b (x ∷ filter p xs) (filter p xs)) ≤ suc (length xs)) [ true ↦ omega (arith, rest) | false ↦ omega (arith, rest) ]

filter-few : {X : Type 0} (p : X → Bool) (m : ℕ) (xs : List X) → length xs ≤ m → length (filter p xs) ≤ m
filter-few p m xs few = omega (arith, few, filter-le p xs)

flat-each : {X A : Type 0} (f : X → List A) (n : ℕ) (xs : List X) → ((x : X) → Member x xs → length (f x) ≤ n) → length (flat_map f xs) ≤ length xs * n
flat-each f n [] each = omega arith
flat-each f n (x ∷ xs) each = omega (arith, each x (inl refl), flat-each f n xs (λ y on. each y (inr on)), length-append (f x) (flat_map f xs), suc-mul (length xs) n)

pairs-each : {X : Type 0} (m : ℕ) (xs : List X) → length xs ≤ m → length (pairs xs) ≤ length xs * m
pairs-each m [] few = omega arith
pairs-each m (x ∷ xs) few =
    let ahead = map-le (λ y. x ∷ y ∷ []) m xs (omega (arith, few)) in
    omega (arith, pairs-each m xs (omega (arith, few)), ahead, length-append (map (λ y. x ∷ y ∷ []) xs) (pairs xs), suc-mul (length xs) m)

in-range : (n k : ℕ) → Member k (range_with_len 0 n) → k < n
in-range n k on = range-within n k (Contains-from_member k (range_with_len 0 n) on)

-- what is there is what stands in its list
in-list : (o : Option ℕ) (b : ℕ) → Member b (list_of o) → o ≡ Some b
in-list None b on = absurd on
in-list (Some a) b (inl same) = ap (λ (n : ℕ). Some n) same
in-list (Some a) b (inr none) = absurd none

list-le : {X : Type 0} (o : Option X) → length (list_of o) ≤ 1
list-le None = omega arith
list-le (Some x) = omega arith

-- ---- lists of clauses

-- each of these is a clause over so many variables, and there are at most so many of them
record Are (vars most : ℕ) (cs : List Clause) : Type 0 where
  each : (c : Clause) → Member c cs → IsClause vars c
  few : length cs ≤ most

module _ (vars : ℕ) where
  are-up : (m n : ℕ) (cs : List Clause) → m ≤ n → Are vars m cs → Are vars n cs
  are-up m n cs up are = record { each = are.each; few = omega (arith, up, are.few) }

  are-none : Are vars 0 []
  are-none = record { each = λ c on. absurd on; few = omega arith }

  are-append : (m n : ℕ) (xs ys : List Clause) → Are vars m xs → Are vars n ys → Are vars (m + n) (xs ++ ys)
  are-append m n xs ys one other = record {
    each = λ c on. elim (Member-append_cases c xs ys on) [ inl a ↦ one.each c a | inr b ↦ other.each c b ];
    few = append-le m n xs ys one.few other.few;
  }

  are-flat : {X : Type 0} (f : X → List Clause) (m n : ℕ) (xs : List X) → length xs ≤ m → ((x : X) → Member x xs → Are vars n (f x)) → Are vars (m * n) (flat_map f xs)
  are-flat f m n xs few all = record {
    each = λ c on. let (x, own, at) = Member-flat_map_cases f c xs on in (all x own).each c at;
    few = omega (arith, flat-each f n xs (λ x on. (all x on).few), mul-le (length xs) n m n few (omega arith));
  }

  are-map : {X : Type 0} (f : X → Clause) (m : ℕ) (xs : List X) → length xs ≤ m → ((x : X) → Member x xs → IsClause vars (f x)) → Are vars m (map f xs)
  are-map f m xs few all = record {
    each = λ c on. let (x, own, same) = Member-map_cases f c xs on in subst (IsClause vars) same (all x own);
    few = map-le f m xs few;
  }

  are-one : (c : Clause) → IsClause vars c → Are vars 1 (c ∷ [])
  are-one c is = are-map (λ (d : Clause). d) 1 (c ∷ []) (omega arith) one
    where
      one : (d : Clause) → Member d (c ∷ []) → IsClause vars d
      one d (inl same) = subst (IsClause vars) same is
      one d (inr on) = absurd on

  rest-clause : (x : Literal) (ls : List Literal) → IsClause vars (x ∷ ls) → IsClause vars ls
  rest-clause x ls is = let (above, rises) = clause-rises vars (x ∷ ls) is in rises-clause vars ls (rises-from x.var 0 vars ls (omega arith) rises)

  each-pair : (ls : List Literal) → IsClause vars ls → (c : Clause) → Member c (pairs ls) → IsClause vars c
  each-pair [] is c on = absurd on
  each-pair (x ∷ ls) is c on = elim (Member-append_cases c (map (λ (y : Literal). x ∷ y ∷ []) ls) (pairs ls) on) [
    | inl first ↦
        let (y, own, same) = Member-map_cases (λ (y : Literal). x ∷ y ∷ []) c ls first in
        let (k, inside, at) = Contains-from_member y ls own in
        subst (IsClause vars) same (first-and vars x ls k y is inside (sym at))
    | inr later ↦ each-pair ls (rest-clause x ls is) c later
  ]

  are-pairs : (m : ℕ) (ls : List Literal) → length ls ≤ m → IsClause vars ls → Are vars (m * m) (pairs ls)
  are-pairs m ls few is = record { each = each-pair ls is; few = omega (arith, pairs-each m ls few, mul-le (length ls) m m m few (omega arith)) }

module _ (N : Network) (r : Ratio) (frame : IsFrame N r) where
  abbrev vars-of : ℕ
  vars-of = variable_count N r

  nodes-le : length (nodes N r) ≤ 96
  nodes-le = omega (arith, length-range_with_len 0 (length N.nodes), frame.few_nodes)

  edges-le : length (edges N r) ≤ 192
  edges-le = omega (arith, length-range_with_len 0 (length N.edges), frame.few_edges)

  tiles-le : length (tiles N r) ≤ 144
  tiles-le = omega (arith, length-range_with_len 0 (r.w * r.h), frame.few_tiles)

  borders-le : length (borders N r) ≤ 288
  borders-le = omega (arith, length-range_with_len 0 (2 * (r.w * r.h)), frame.few_tiles)

  entries-le : (t : ℕ) → length (entries N r t) ≤ 2
  entries-le t = append-le 1 1 (list_of (entering r t Left)) (list_of (entering r t Right)) (list-le (entering r t Left)) (list-le (entering r t Right))

  exits-le : (t : ℕ) → length (exits N r t) ≤ 2
  exits-le t = omega arith

  source-in : (e : ℕ) → e < length N.edges → source N r e < length N.nodes
  source-in e inside =
      let at = got-slice_get N.edges e no_edge inside in
      let forward = goes-forward N frame.network e (edge_at N.edges e) at in
      let same : source N r e ≡ (edge_at N.edges e).source = get_or_from_slice_get (map (λ (x : Edge). x.source) N.edges) e (edge_at N.edges e).source 0 (slice_get-map (λ (x : Edge). x.source) N.edges e ∙ ap (option_map (λ (x : Edge). x.source)) at) in
      omega (arith, same, forward.forward, forward.within)

  target-in : (e : ℕ) → e < length N.edges → target N r e < length N.nodes
  target-in e inside =
      let at = got-slice_get N.edges e no_edge inside in
      let forward = goes-forward N frame.network e (edge_at N.edges e) at in
      let same : target N r e ≡ (edge_at N.edges e).target = get_or_from_slice_get (map (λ (x : Edge). x.target) N.edges) e (edge_at N.edges e).target 0 (slice_get-map (λ (x : Edge). x.target) N.edges e ∙ ap (option_map (λ (x : Edge). x.target)) at) in
      omega (arith, same, forward.within)

  border-in : (t : ℕ) (side : Side) → IsTile r t → border t side < border_count r
  border-in t Left tile = omega arith
  border-in t Right tile = omega arith

  entered-in : (t b : ℕ) (side : Side) → IsTile r t → entering r t side ≡ Some b → b < border_count r
  entered-in t b side tile at = let low = entering-in r t b side at in omega arith

  -- ---- where nodes stand

  are-somewhere : Are vars-of 96 (stands_somewhere N r)
  unfolding stands_somewhere
  are-somewhere = are-map vars-of (on_tiles N r true) 96 (nodes N r) nodes-le (λ v on. tiles-clause N r v true (in-range (length N.nodes) v on))

  are-once : Are vars-of 1990656 (stands_once N r)
  unfolding stands_once
  are-once = are-flat vars-of (λ (v : ℕ). pairs (on_tiles N r false v)) 96 20736 (nodes N r) nodes-le
      (λ v on. are-pairs vars-of 144 (on_tiles N r false v) (map-le _ 144 (tiles N r) tiles-le) (tiles-clause N r v false (in-range (length N.nodes) v on)))

  are-apart : Are vars-of 1327104 (stands_apart N r)
  unfolding stands_apart
  are-apart = are-flat vars-of (λ (t : ℕ). pairs (nodes_on N r false t)) 144 9216 (tiles N r) tiles-le
      (λ t on. are-pairs vars-of 96 (nodes_on N r false t) (map-le _ 96 (nodes N r) nodes-le) (nodes-clause N r t false (in-range (tile_count r) t on)))

  are-taken : Are vars-of 13824 (takes_its_tile N r)
  unfolding takes_its_tile
  are-taken = are-flat vars-of (takes N r) 144 96 (tiles N r) tiles-le
      (λ t on. are-map vars-of (λ (v : ℕ). isnt N r (NodeOn v t) ∷ is N r (Taken t) ∷ []) 96 (nodes N r) nodes-le
      (λ v own. two-clause N r (NodeOn v t) (Taken t) false true (in-range (tile_count r) t on) (node_on-taken N r v t t (in-range (length N.nodes) v own) (in-range (tile_count r) t on))))

  are-inside : Are vars-of 13824 (keeps_its_window N r)
  unfolding keeps_its_window
  are-inside = are-flat vars-of (stays_inside N r) 96 144 (nodes N r) nodes-le
      (λ v on. are-map vars-of (λ (t : ℕ). isnt N r (NodeOn v t) ∷ []) 144 (filter (is_outside N r v) (tiles N r)) (filter-few (is_outside N r v) 144 (tiles N r) tiles-le)
      (λ t own. one-clause N r (NodeOn v t) false (in-range (length N.nodes) v on, in-range (tile_count r) t (Member-filter_cases (is_outside N r v) t (tiles N r) own).0)))

  are-places : Are vars-of 3345504 (place_clauses N r)
  unfolding place_clauses
  are-places =
      are-append vars-of 3331680 13824 _ _ (are-append vars-of 3317856 13824 _ _ (are-append vars-of 1990752 1327104 _ _ (are-append vars-of 96 1990656 _ _ are-somewhere are-once) are-apart) are-taken) are-inside

  -- ---- what borders carry

  are-nothing : (b : ℕ) → b < border_count r → Are vars-of 192 (carries_nothing N r b)
  are-nothing b inside = are-map vars-of (λ (e : ℕ). isnt N r (EdgeOn e b) ∷ []) 192 (edges N r) edges-le
      (λ e on. one-clause N r (EdgeOn e b) false (in-range (length N.edges) e on, inside))

  are-stays : Are vars-of 55296 (stays_on_grid N r)
  unfolding stays_on_grid
  are-stays = are-flat vars-of (stays_at N r) 144 384 (tiles N r) tiles-le
      (λ t on. are-flat vars-of (λ (side : Side). carries_nothing N r (border t side)) 2 192 (filter (leads_off N r t) (Left ∷ Right ∷ [])) (filter-few (leads_off N r t) 2 (Left ∷ Right ∷ []) (omega arith))
      (λ side own. are-nothing (border t side) (border-in t side (in-range (tile_count r) t on))))

  are-carried : Are vars-of 10616832 (carries_once N r)
  unfolding carries_once
  are-carried = are-flat vars-of (λ (b : ℕ). pairs (edges_on N r false b)) 288 36864 (borders N r) borders-le
      (λ b on. are-pairs vars-of 192 (edges_on N r false b) (map-le _ 192 (edges N r) edges-le) (edges-clause N r b false (in-range (border_count r) b on)))

  are-used : Are vars-of 55584 (is_used N r)
  unfolding is_used
  are-used = are-flat vars-of (λ (b : ℕ). uses N r b ++ carries_some N r b ∷ []) 288 193 (borders N r) borders-le
      (λ b on. let inside = in-range (border_count r) b on in
      are-append vars-of 192 1 (uses N r b) (carries_some N r b ∷ [])
      (are-map vars-of (λ (e : ℕ). is N r (Used b) ∷ isnt N r (EdgeOn e b) ∷ []) 192 (edges N r) edges-le (λ e own. two-clause N r (Used b) (EdgeOn e b) true false (in-range (length N.edges) e own, inside) (used-edge N r b e b inside)))
      (are-one vars-of (carries_some N r b) (used-clause N r b false true inside)))

  are-borders : Are vars-of 10727712 (border_clauses N r)
  unfolding border_clauses
  are-borders = are-append vars-of 10672128 55584 _ _ (are-append vars-of 55296 10616832 _ _ are-stays are-carried) are-used

  -- ---- how edges go

  -- a place, and a border of each of these
  are-off : (v t e : ℕ) (bs : List ℕ) → v < length N.nodes → IsTile r t → e < length N.edges → length bs ≤ 2 → ((b : ℕ) → Member b bs → b < border_count r) →
      Are vars-of 2 (map (λ (x : ℕ). isnt N r (NodeOn v t) ∷ isnt N r (EdgeOn e x) ∷ []) bs)
  are-off v t e bs node tile edge few inside = are-map vars-of (λ (x : ℕ). isnt N r (NodeOn v t) ∷ isnt N r (EdgeOn e x) ∷ []) 2 bs few (λ x on. off-clause N r v t e x false node tile edge (inside x on))

  are-only : (v t e : ℕ) (bs : List ℕ) → v < length N.nodes → IsTile r t → e < length N.edges → length bs ≤ 2 → ((b : ℕ) → Member b bs → b < border_count r) →
      Are vars-of 2 (map (λ (x : ℕ). is N r (NodeOn v t) ∷ isnt N r (Taken t) ∷ isnt N r (EdgeOn e x) ∷ []) bs)
  are-only v t e bs node tile edge few inside = are-map vars-of (λ (x : ℕ). is N r (NodeOn v t) ∷ isnt N r (Taken t) ∷ isnt N r (EdgeOn e x) ∷ []) 2 bs few (λ x on. only-clause N r v t e x node tile edge (inside x on))

  entry-within : (t b : ℕ) → IsTile r t → Member b (entries N r t) → b < border_count r
  entry-within t b tile on = entry-in N r t b tile (Contains-from_member b (entries N r t) on)

  exit-within : (t b : ℕ) → IsTile r t → Member b (exits N r t) → b < border_count r
  exit-within t b tile on = exit-in N r t b tile (Contains-from_member b (exits N r t) on)

  are-rule : (rule : Rule) (t e : ℕ) → IsTile r t → e < length N.edges → Are vars-of 12 (rule_clauses N r rule t e)
  unfolding rule_clauses
  are-rule ComesFromAbove t e tile edge =
      are-up vars-of 2 12 _ (omega arith) (are-map vars-of (λ (x : ℕ). is N r (NodeOn (source N r e) t) ∷ on_some N r e (entries N r t) ++ isnt N r (EdgeOn e x) ∷ []) 2 (exits N r t) (exits-le t)
      (λ x on. comes-clause N r (source N r e) t e x (source-in e edge) tile edge (Contains-from_member x (exits N r t) on)))
  are-rule GoesOnBelow t e tile edge =
      are-up vars-of 2 12 _ (omega arith) (are-map vars-of (λ (x : ℕ). is N r (NodeOn (target N r e) t) ∷ isnt N r (EdgeOn e x) ∷ on_some N r e (exits N r t)) 2 (entries N r t) (entries-le t)
      (λ x on. goes-clause N r (target N r e) t e x (target-in e edge) tile edge (Contains-from_member x (entries N r t) on)))
  are-rule JoinsItsEnds t e tile edge =
      are-up vars-of 2 12 _ (omega arith) (are-append vars-of 1 1 ((isnt N r (NodeOn (source N r e) t) ∷ on_some N r e (exits N r t)) ∷ []) ((isnt N r (NodeOn (target N r e) t) ∷ on_some N r e (entries N r t)) ∷ [])
      (are-one vars-of (isnt N r (NodeOn (source N r e) t) ∷ on_some N r e (exits N r t))
      (placed-on-clause N r (source N r e) t e (2 * t) (2 * t + 2) false true (exits N r t) (source-in e edge) tile edge (omega arith) (exits-climb N r t)))
      (are-one vars-of (isnt N r (NodeOn (target N r e) t) ∷ on_some N r e (entries N r t))
      (placed-on-clause N r (target N r e) t e 0 (2 * t) false true (entries N r t) (target-in e edge) tile edge (omega arith) (entries-climb N r t))))
  are-rule GoesOneWay t e tile edge =
      are-append vars-of 10 2 ((pairs (on_borders N r false e (exits N r t)) ++ pairs (on_borders N r false e (entries N r t))) ++ map (λ (x : ℕ). isnt N r (NodeOn (source N r e) t) ∷ isnt N r (EdgeOn e x) ∷ []) (entries N r t))
      (map (λ (x : ℕ). isnt N r (NodeOn (target N r e) t) ∷ isnt N r (EdgeOn e x) ∷ []) (exits N r t))
      (are-append vars-of 8 2 (pairs (on_borders N r false e (exits N r t)) ++ pairs (on_borders N r false e (entries N r t))) (map (λ (x : ℕ). isnt N r (NodeOn (source N r e) t) ∷ isnt N r (EdgeOn e x) ∷ []) (entries N r t))
      (are-append vars-of 4 4 (pairs (on_borders N r false e (exits N r t))) (pairs (on_borders N r false e (entries N r t)))
      (are-pairs vars-of 2 (on_borders N r false e (exits N r t)) (map-le (λ (b : ℕ). isnt N r (EdgeOn e b)) 2 (exits N r t) (exits-le t)) (on-clause N r e (2 * t) (2 * t + 2) false (exits N r t) edge (omega arith) (exits-climb N r t)))
      (are-pairs vars-of 2 (on_borders N r false e (entries N r t)) (map-le (λ (b : ℕ). isnt N r (EdgeOn e b)) 2 (entries N r t) (entries-le t)) (on-clause N r e 0 (2 * t) false (entries N r t) edge (omega arith) (entries-climb N r t))))
      (are-off (source N r e) t e (entries N r t) (source-in e edge) tile edge (entries-le t) (λ b on. entry-within t b tile on)))
      (are-off (target N r e) t e (exits N r t) (target-in e edge) tile edge (exits-le t) (λ b on. exit-within t b tile on))
  are-rule KeepsOffNodes t e tile edge =
      are-up vars-of 4 12 _ (omega arith) (are-append vars-of 2 2
      (map (λ (x : ℕ). is N r (NodeOn (source N r e) t) ∷ isnt N r (Taken t) ∷ isnt N r (EdgeOn e x) ∷ []) (exits N r t))
      (map (λ (x : ℕ). is N r (NodeOn (target N r e) t) ∷ isnt N r (Taken t) ∷ isnt N r (EdgeOn e x) ∷ []) (entries N r t))
      (are-only (source N r e) t e (exits N r t) (source-in e edge) tile edge (exits-le t) (λ b on. exit-within t b tile on))
      (are-only (target N r e) t e (entries N r t) (target-in e edge) tile edge (entries-le t) (λ b on. entry-within t b tile on)))

  are-kept : (rule : Rule) → Are vars-of 331776 (keeps_rule N r rule)
  unfolding keeps_rule
  are-kept rule = are-flat vars-of (keeps_rule_on N r rule) 144 2304 (tiles N r) tiles-le
      (λ t on. are-flat vars-of (rule_clauses N r rule t) 192 12 (edges N r) edges-le (λ e own. are-rule rule t e (in-range (tile_count r) t on) (in-range (length N.edges) e own)))

  are-ways : Are vars-of 1658880 (way_clauses N r)
  unfolding way_clauses
  are-ways =
      are-append vars-of 1327104 331776 _ _ (are-append vars-of 995328 331776 _ _ (are-append vars-of 663552 331776 _ _ (are-append vars-of 331776 331776 _ _
      (are-kept ComesFromAbove) (are-kept GoesOnBelow)) (are-kept JoinsItsEnds)) (are-kept GoesOneWay)) (are-kept KeepsOffNodes)

  -- ---- which forms are permitted

  are-above : (t : ℕ) (upper : Side) (v : ℕ) → IsTile r t → v < length N.nodes → Are vars-of 1 (bars_above N r t upper v)
  are-above t upper v tile node = are-map vars-of (λ (a : ℕ). isnt N r (NodeOn v t) ∷ isnt N r (Used a) ∷ []) 1 (list_of (entering r t upper)) (list-le (entering r t upper))
      (λ a on. two-clause N r (NodeOn v t) (Used a) false false (entered-in t a upper tile (in-list (entering r t upper) a on)) (node_on-used N r v t a node tile))

  are-both : (t : ℕ) (upper lower : Side) (v : ℕ) → IsTile r t → v < length N.nodes → Are vars-of 1 (bars_both N r t upper lower v)
  are-both t upper lower v tile node = are-map vars-of (λ (a : ℕ). isnt N r (NodeOn v t) ∷ isnt N r (Used a) ∷ isnt N r (Used (border t lower)) ∷ []) 1 (list_of (entering r t upper)) (list-le (entering r t upper))
      (λ a on. let low = entering-in r t a upper (in-list (entering r t upper) a on) in let from = border-from t lower in
      three-clause N r (NodeOn v t) (Used a) (Used (border t lower)) false false false (border-in t lower tile) (node_on-used N r v t a node tile) (used-used N r a (border t lower) (omega (arith, low, from))))

  are-node : (t : ℕ) (upper lower : Side) (kind : Kind) (v : ℕ) → IsTile r t → v < length N.nodes → Are vars-of 1 (bars_node N r t upper lower kind v)
  are-node t upper lower Output v tile node = are-above t upper v tile node
  are-node t upper lower Fan v tile node = are-above t upper v tile node
  are-node t upper lower Not v tile node = are-both t upper lower v tile node
  are-node t upper lower _ v tile node = are-one vars-of (isnt N r (NodeOn v t) ∷ isnt N r (Used (border t lower)) ∷ [])
      (two-clause N r (NodeOn v t) (Used (border t lower)) false false (border-in t lower tile) (node_on-used N r v t (border t lower) node tile))

  are-two : (t : ℕ) (lower : Side) → IsTile r t → Are vars-of 192 (bars_two N r t lower)
  are-two t lower tile =
      are-flat vars-of (λ (a : ℕ). flat_map (λ (b : ℕ). bars_way N r a b (border t lower)) (list_of (entering r t Right))) 1 192 (list_of (entering r t Left)) (list-le (entering r t Left))
      (λ a on. are-flat vars-of (λ (b : ℕ). bars_way N r a b (border t lower)) 1 192 (list_of (entering r t Right)) (list-le (entering r t Right))
      (λ b own. are-map vars-of (λ (e : ℕ). isnt N r (Used b) ∷ isnt N r (EdgeOn e a) ∷ isnt N r (EdgeOn e (border t lower)) ∷ []) 192 (edges N r) edges-le
      (λ e has. let low = entering-in r t a Left (in-list (entering r t Left) a on) in let from = border-from t lower in
      three-clause N r (Used b) (EdgeOn e a) (EdgeOn e (border t lower)) false false false (in-range (length N.edges) e has, border-in t lower tile)
      (used-edge N r b e a (entered-in t b Right tile (in-list (entering r t Right) b own))) (edge-edge N r e a (border t lower) (omega (arith, low, from))))))

  are-wire : (t : ℕ) (upper lower : Side) → IsTile r t → Are vars-of 192 (bars_wire N r t upper lower)
  are-wire t upper lower tile = subst (Are vars-of 192) (sym (wire-is N r t upper lower (entering r t upper) refl))
      (are-up vars-of 1 192 _ (omega arith) (are-map vars-of (λ (a : ℕ). wire_list N r t upper lower) 1 (list_of (entering r t upper)) (list-le (entering r t upper)) (λ a on. wire-clause N r t upper lower tile)))

  are-free : (t : ℕ) (upper lower : Side) (function : Function) → IsTile r t → Are vars-of 192 (bars_free N r t upper lower function)
  are-free t upper lower Double tile = are-two t Left tile
  are-free t upper lower Cross tile = are-two t Right tile
  are-free t upper lower _ tile = are-wire t upper lower tile

  are-holding : (t : ℕ) (upper lower : Side) (function : Function) (kind : Option Kind) → IsTile r t → Are vars-of 192 (bars_holding N r t upper lower function kind)
  are-holding t upper lower function None tile = are-free t upper lower function tile
  are-holding t upper lower function (Some kind) tile =
      are-up vars-of 96 192 _ (omega arith) (are-flat vars-of (bars_node N r t upper lower kind) 96 1 (filter (is_of_kind N r kind) (nodes N r)) (filter-few (is_of_kind N r kind) 96 (nodes N r) nodes-le)
      (λ v on. are-node t upper lower kind v tile (in-range (length N.nodes) v (Member-filter_cases (is_of_kind N r kind) v (nodes N r) on).0)))

  are-shape : (t : ℕ) (shape : Option Shape) → IsTile r t → Are vars-of 192 (bars_shape N r t shape)
  are-shape t None tile = are-up vars-of 0 192 [] (omega arith) (are-none vars-of)
  are-shape t (Some shape) tile = are-holding t (used_side shape.upper) (used_side shape.lower) shape.function shape.node tile

  are-bars : (t form : ℕ) → IsTile r t → Are vars-of 192 (bars N r t form)
  unfolding bars
  are-bars t form tile = are-shape t (shape_of form) tile

  are-permitted : (permit : PermitTest) → Are vars-of 774144 (is_permitted N r permit)
  unfolding is_permitted
  are-permitted permit = are-flat vars-of (bars_all N r permit) 144 5376 (tiles N r) tiles-le
      (λ t on. are-flat vars-of (bars N r t) 28 192 (filter (λ (form : ℕ). not (permit r t form)) (range_with_len 0 (length FORMS)))
      (filter-few (λ (form : ℕ). not (permit r t form)) 28 (range_with_len 0 (length FORMS)) (omega (arith, length-range_with_len 0 (length FORMS)))) (λ form own. are-bars t form (in-range (tile_count r) t on)))

  -- ---- the formula

  are-all : (permit : PermitTest) → Are vars-of 16506240 (formula N permit r).clauses
  unfolding formula
  are-all permit = are-append vars-of 15732096 774144 _ _ (are-append vars-of 14073216 1658880 _ _ (are-append vars-of 3345504 10727712 _ _ are-places are-borders) are-ways) (are-permitted permit)

  pub clauses-le : (permit : PermitTest) → length (formula N permit r).clauses ≤ most_clauses
  clauses-le permit = omega (arith, (are-all permit).few)

  few-vars : variable_count N r < 2 ^ 31
  few-vars =
      let a = mul-le (length N.nodes) (tile_count r) 96 144 frame.few_nodes frame.few_tiles in
      let b = mul-le (length N.edges) (2 * tile_count r) 192 288 frame.few_edges (let t = frame.few_tiles in omega (arith, t)) in
      omega (arith, a, b, frame.few_tiles)

  pub formed : (permit : PermitTest) → IsFormula (formula N permit r)
  unfolding formula
  formed permit = record {
    vars = few-vars;
    count = let few = clauses-le permit in omega (arith, few);
    each = All-from_recursion (IsClause vars-of) (formula N permit r).clauses (AllByRecursion-from_member (IsClause vars-of) (formula N permit r).clauses (are-all permit).each);
  }
