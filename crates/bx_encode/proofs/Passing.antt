-- The clauses on how an edge goes through a tile are clauses: a place, and then borders that rise.
use Rattle.std.proofs.Common.{◌≡◌, ℕ, ◌+◌, ◌*◌, ◌<◌, ◌≤◌, Bool, true, false, List, [], ◌∷◌, ◌++◌, map, length, ap, ◌∙◌, arith}
use Rattle.std.specs.Prelude.{Contains}
use Rattle.std.proofs.lemmas.Nat.{row_fits}
use Rattle.bx_cnf.specs.Literals.{Literal}
use Rattle.bx_cnf.specs.Formulas.{IsClause}
use Rattle.bx_grid.specs.declared.ratio.Ratio.{Ratio}
use Rattle.bx_grid.specs.Tiles.{IsTile, border}
use Rattle.bx_network.specs.Networks.{Network}
use Rattle.bx_encode.specs.declared.variable.Variable.TheVariants.{NodeOn, Taken, EdgeOn}
use Rattle.bx_encode.specs.Variables.{border_count, edge_offset, variable_count, number, is, isnt}
use Rattle.bx_encode.specs.Families.{on_some, entries, exits}
use Rattle.bx_encode.proofs.Rising.{Rises, rises-from, rises-to, rises-append, rises-clause}
use Rattle.bx_encode.proofs.Numbering.{node_on-low, number-above, number-within}
use Rattle.bx_encode.proofs.Shapes.{node_on-taken, node_on-edge, taken-edge, edge-edge, two-clause, three-clause}
use Rattle.bx_encode.proofs.Entering.{Climbs, climbs-in, entries-climb, exits-climb}

-- the number before those of an edge's borders
base : Network → Ratio → ℕ → ℕ
base N r e = edge_offset N r + e * border_count r

edge-is : (N : Network) (r : Ratio) (e b : ℕ) → number N r (EdgeOn e b) ≡ 1 + base N r e + b
unfolding number base
edge-is N r e b = omega arith

base-high : (N : Network) (r : Ratio) (e : ℕ) → e < length N.edges → base N r e + border_count r ≤ variable_count N r
unfolding base
base-high N r e edge = omega (arith, row_fits e (border_count r) (length N.edges) (border_count r) edge (omega arith))

-- an edge on borders that climb
on-rises : (N : Network) (r : Ratio) (e low high : ℕ) (p : Bool) (bs : List ℕ) → Climbs low high bs → Rises (base N r e + low) (base N r e + high) (map (λ b. record { var = number N r (EdgeOn e b); positive = p }) bs)
on-rises N r e low high p [] le = omega arith
on-rises N r e low high p (b ∷ bs) (above, rest) =
    let own = edge-is N r e b in
    (omega arith, rises-from (base N r e + (b + 1)) (number N r (EdgeOn e b)) _ _ (omega arith) (on-rises N r e (b + 1) high p bs rest))

pub on-clause : (N : Network) (r : Ratio) (e low high : ℕ) (p : Bool) (bs : List ℕ) → e < length N.edges → high ≤ border_count r → Climbs low high bs →
    IsClause (variable_count N r) (map (λ b. record { var = number N r (EdgeOn e b); positive = p }) bs)
on-clause N r e low high p bs edge within climbs =
    rises-clause _ _ (rises-to _ (base N r e + high) (variable_count N r) _ (omega (arith, base-high N r e edge)) (rises-from (base N r e + low) 0 _ _ (omega arith) (on-rises N r e low high p bs climbs)))

-- a node's place lies before all that an edge is on
before-base : (N : Network) (r : Ratio) (v t e low : ℕ) → v < length N.nodes → IsTile r t → number N r (NodeOn v t) ≤ base N r e + low
unfolding base
before-base N r v t e low node tile = omega (arith, node_on-low N r v t node tile)

pub placed-on-clause : (N : Network) (r : Ratio) (v t e low high : ℕ) (p q : Bool) (bs : List ℕ) → v < length N.nodes → IsTile r t → e < length N.edges → high ≤ border_count r → Climbs low high bs →
    IsClause (variable_count N r) (record { var = number N r (NodeOn v t); positive = p } ∷ map (λ b. record { var = number N r (EdgeOn e b); positive = q }) bs)
placed-on-clause N r v t e low high p q bs node tile edge within climbs =
    rises-clause _ _ (number-above N r (NodeOn v t), rises-to _ (base N r e + high) (variable_count N r) _ (omega (arith, base-high N r e edge)) (rises-from (base N r e + low) (number N r (NodeOn v t)) _ _ (before-base N r v t e low node tile) (on-rises N r e low high q bs climbs)))

-- 9: a place, the borders that enter the tile, and one that leaves it
pub comes-clause : (N : Network) (r : Ratio) (v t e x : ℕ) → v < length N.nodes → IsTile r t → e < length N.edges → Contains (exits N r t) x →
    IsClause (variable_count N r) ((is N r (NodeOn v t) ∷ on_some N r e (entries N r t)) ++ isnt N r (EdgeOn e x) ∷ [])
comes-clause N r v t e x node tile edge own =
    let from = climbs-in (2 * t) (2 * t + 2) (exits N r t) x (exits-climb N r t) own in
    let high = from.above in
    let low = from.below in
    let last : base N r e + 2 * t < number N r (EdgeOn e x) = omega (arith, edge-is N r e x) in
    rises-clause _ _ (
      number-above N r (NodeOn v t),
      rises-append (number N r (NodeOn v t)) (base N r e + 2 * t) (variable_count N r) (on_some N r e (entries N r t)) (isnt N r (EdgeOn e x) ∷ [])
          (rises-from (base N r e + 0) (number N r (NodeOn v t)) _ _ (before-base N r v t e 0 node tile) (on-rises N r e 0 (2 * t) true (entries N r t) (entries-climb N r t)))
          (last, number-within N r (EdgeOn e x) (edge, omega arith)),
    )

-- 10: a place, a border that enters the tile, and those that leave it
pub goes-clause : (N : Network) (r : Ratio) (v t e x : ℕ) → v < length N.nodes → IsTile r t → e < length N.edges → Contains (entries N r t) x →
    IsClause (variable_count N r) ((is N r (NodeOn v t) ∷ []) ++ isnt N r (EdgeOn e x) ∷ on_some N r e (exits N r t))
goes-clause N r v t e x node tile edge own =
    let from = climbs-in 0 (2 * t) (entries N r t) x (entries-climb N r t) own in
    let low = from.below in
    rises-clause _ _ (
      number-above N r (NodeOn v t),
      (
        node_on-edge N r v t e x node tile,
        (edge-edge N r e x (2 * t) (omega arith), (edge-edge N r e (2 * t) (2 * t + 1) (omega arith), number-within N r (EdgeOn e (2 * t + 1)) (edge, omega arith))),
      ),
    )

-- 12 and 13: a place, and a border; between them that the tile is taken
pub off-clause : (N : Network) (r : Ratio) (v t e x : ℕ) (p : Bool) → v < length N.nodes → IsTile r t → e < length N.edges → x < border_count r →
    IsClause (variable_count N r) ((record { var = number N r (NodeOn v t); positive = p } ∷ []) ++ isnt N r (EdgeOn e x) ∷ [])
off-clause N r v t e x p node tile edge border = two-clause N r (NodeOn v t) (EdgeOn e x) p false (edge, border) (node_on-edge N r v t e x node tile)

pub only-clause : (N : Network) (r : Ratio) (v t e x : ℕ) → v < length N.nodes → IsTile r t → e < length N.edges → x < border_count r →
    IsClause (variable_count N r) ((is N r (NodeOn v t) ∷ isnt N r (Taken t) ∷ []) ++ isnt N r (EdgeOn e x) ∷ [])
only-clause N r v t e x node tile edge border =
    three-clause N r (NodeOn v t) (Taken t) (EdgeOn e x) true false false (edge, border) (node_on-taken N r v t t node tile) (taken-edge N r t e x tile)

-- the same clauses over lists that are the same
pub each-same : (f : ℕ → Literal) (one other back behind : List Literal) (xs ys : List ℕ) → one ≡ other → back ≡ behind → xs ≡ ys → map (λ b. one ++ f b ∷ back) xs ≡ map (λ b. other ++ f b ∷ behind) ys
each-same f one other back behind xs ys e g h =
    ap (λ ls. map (λ b. ls ++ f b ∷ back) xs) e ∙ ap (λ ls. map (λ b. other ++ f b ∷ ls) xs) g ∙ ap (map (λ b. other ++ f b ∷ behind)) h
