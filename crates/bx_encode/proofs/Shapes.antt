-- The variables of a clause ascend: within a block by place, and from block to block.
use Rattle.std.proofs.Common.{ℕ, zero, suc, ◌+◌, ◌<◌, ◌≤◌, Bool, [], ◌∷◌, map, length, arith}
use Rattle.std.specs.List.{range_with_len}
use Rattle.bx_cnf.specs.Formulas.{IsClause}
use Rattle.bx_grid.specs.declared.ratio.Ratio.{Ratio}
use Rattle.bx_grid.specs.Tiles.{tile_count, IsTile}
use Rattle.bx_network.specs.Networks.{Network}
use Rattle.bx_encode.specs.declared.variable.Variable.{Variable}
use Rattle.bx_encode.specs.declared.variable.Variable.TheVariants.{NodeOn, Taken, Used, EdgeOn}
use Rattle.bx_encode.specs.Variables.{IsVariable, border_count, edge_offset, variable_count, number}
use Rattle.bx_encode.specs.Families.{nodes, edges, tiles}
use Rattle.bx_encode.proofs.Rising.{Rises, rises-from, rises-clause}
use Rattle.bx_encode.proofs.Numbering.{node_on-low, taken-is, used-is, edge_on-above, number-above, number-within}

-- literals of variables that rise from number to number
range-rises : (f : ℕ → ℕ) (p : Bool) (a n low high : ℕ) → ((k : ℕ) → f k < f (k + 1)) → ((k : ℕ) → k < a + n → f k ≤ high) → low < f a → low ≤ high → Rises low high (map (λ k. record { var = f k; positive = p }) (range_with_len a n))
range-rises f p a zero low high strict top above le = le
range-rises f p a (suc n) low high strict top above le = (above, range-rises f p (a + 1) n (f a) high strict (λ k h. top k (omega arith)) (strict a) (top a (omega arith)))

-- ---- the order of the variables

pub node_on-taken : (N : Network) (r : Ratio) (v t u : ℕ) → v < length N.nodes → IsTile r t → number N r (NodeOn v t) < number N r (Taken u)
node_on-taken N r v t u node tile = omega (arith, node_on-low N r v t node tile, taken-is N r u)

pub node_on-used : (N : Network) (r : Ratio) (v t b : ℕ) → v < length N.nodes → IsTile r t → number N r (NodeOn v t) < number N r (Used b)
node_on-used N r v t b node tile = omega (arith, node_on-low N r v t node tile, used-is N r b)

pub node_on-edge : (N : Network) (r : Ratio) (v t e b : ℕ) → v < length N.nodes → IsTile r t → number N r (NodeOn v t) < number N r (EdgeOn e b)
node_on-edge N r v t e b node tile = omega (arith, node_on-low N r v t node tile, edge_on-above N r e b)

pub taken-used : (N : Network) (r : Ratio) (t b : ℕ) → IsTile r t → number N r (Taken t) < number N r (Used b)
taken-used N r t b tile = omega (arith, taken-is N r t, used-is N r b)

pub taken-edge : (N : Network) (r : Ratio) (t e b : ℕ) → IsTile r t → number N r (Taken t) < number N r (EdgeOn e b)
taken-edge N r t e b tile = omega (arith, taken-is N r t, edge_on-above N r e b)

pub used-edge : (N : Network) (r : Ratio) (b e c : ℕ) → b < border_count r → number N r (Used b) < number N r (EdgeOn e c)
used-edge N r b e c border = omega (arith, used-is N r b, edge_on-above N r e c)

pub used-used : (N : Network) (r : Ratio) (a b : ℕ) → a < b → number N r (Used a) < number N r (Used b)
used-used N r a b lt = omega (arith, used-is N r a, used-is N r b)

pub edge-edge : (N : Network) (r : Ratio) (e a b : ℕ) → a < b → number N r (EdgeOn e a) < number N r (EdgeOn e b)
unfolding number
edge-edge N r e a b lt = omega arith

-- ---- clauses of one literal, two and three

pub one-clause : (N : Network) (r : Ratio) (x : Variable) (p : Bool) → IsVariable N r x → IsClause (variable_count N r) (record { var = number N r x; positive = p } ∷ [])
one-clause N r x p is = rises-clause _ _ (number-above N r x, number-within N r x is)

pub two-clause : (N : Network) (r : Ratio) (x y : Variable) (p q : Bool) → IsVariable N r y → number N r x < number N r y →
    IsClause (variable_count N r) (record { var = number N r x; positive = p } ∷ record { var = number N r y; positive = q } ∷ [])
two-clause N r x y p q is lt = rises-clause _ _ (number-above N r x, (lt, number-within N r y is))

pub three-clause : (N : Network) (r : Ratio) (x y z : Variable) (p q o : Bool) → IsVariable N r z → number N r x < number N r y → number N r y < number N r z →
    IsClause (variable_count N r) (record { var = number N r x; positive = p } ∷ record { var = number N r y; positive = q } ∷ record { var = number N r z; positive = o } ∷ [])
three-clause N r x y z p q o is lt less = rises-clause _ _ (number-above N r x, (lt, (less, number-within N r z is)))

-- ---- clauses of many

pub tiles-clause : (N : Network) (r : Ratio) (v : ℕ) (p : Bool) → v < length N.nodes → IsClause (variable_count N r) (map (λ t. record { var = number N r (NodeOn v t); positive = p }) (tiles N r))
unfolding number
tiles-clause N r v p node = rises-clause _ _
    (range-rises (λ t. number N r (NodeOn v t)) p 0 (tile_count r) 0 (variable_count N r) (λ k. omega arith) (λ k h. number-within N r (NodeOn v k) (node, omega arith)) (number-above N r (NodeOn v 0)) (omega arith))

pub nodes-clause : (N : Network) (r : Ratio) (t : ℕ) (p : Bool) → IsTile r t → IsClause (variable_count N r) (map (λ v. record { var = number N r (NodeOn v t); positive = p }) (nodes N r))
unfolding number
nodes-clause N r t p tile = rises-clause _ _
    (range-rises (λ v. number N r (NodeOn v t)) p 0 (length N.nodes) 0 (variable_count N r) (λ k. omega arith) (λ k h. number-within N r (NodeOn k t) (omega arith, tile)) (number-above N r (NodeOn 0 t)) (omega arith))

edges-rise : (N : Network) (r : Ratio) (b : ℕ) (p : Bool) → b < border_count r → Rises (edge_offset N r) (variable_count N r) (map (λ e. record { var = number N r (EdgeOn e b); positive = p }) (edges N r))
unfolding number
edges-rise N r b p border =
    range-rises (λ e. number N r (EdgeOn e b)) p 0 (length N.edges) (edge_offset N r) (variable_count N r) (λ k. omega arith) (λ k h. number-within N r (EdgeOn k b) (omega arith, border)) (omega (arith, edge_on-above N r 0 b)) (omega arith)

pub edges-clause : (N : Network) (r : Ratio) (b : ℕ) (p : Bool) → b < border_count r → IsClause (variable_count N r) (map (λ e. record { var = number N r (EdgeOn e b); positive = p }) (edges N r))
edges-clause N r b p border = rises-clause _ _ (rises-from (edge_offset N r) 0 _ _ (omega arith) (edges-rise N r b p border))

pub used-clause : (N : Network) (r : Ratio) (b : ℕ) (p q : Bool) → b < border_count r →
    IsClause (variable_count N r) (record { var = number N r (Used b); positive = p } ∷ map (λ e. record { var = number N r (EdgeOn e b); positive = q }) (edges N r))
used-clause N r b p q border = rises-clause _ _
    (number-above N r (Used b), rises-from (edge_offset N r) (number N r (Used b)) _ _ (omega (arith, used-is N r b)) (edges-rise N r b q border))
