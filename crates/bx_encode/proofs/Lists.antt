-- The literals of a node, a tile and a border, whose variables rise evenly.
use Rattle.std.proofs.Common.{◌≡◌, ℕ, ◌+◌, ◌*◌, ◌<◌, ◌≤◌, Bool, List, [], ◌∷◌, ◌++◌, map, length, refl, sym, ap, ◌∙◌, arith, append_assoc}
use Rattle.std.specs.List.{range_with_len}
use Rattle.std.proofs.lemmas.List.FromFn.{map-range_with_len_more}
use Rattle.std.proofs.Math.Nat.{mul-le-mul_right}
use Rattle.bx_cnf.specs.Literals.{Literal}
use Rattle.bx_grid.specs.declared.ratio.Ratio.{Ratio}
use Rattle.bx_grid.specs.Tiles.{tile_count, IsGrid}
use Rattle.bx_network.specs.Networks.{Network}
use Rattle.bx_encode.specs.Variables.{border_count, number}
use Rattle.bx_encode.specs.declared.variable.Variable.TheVariants.{NodeOn, EdgeOn}
use Rattle.bx_encode.specs.Families.{nodes, edges, tiles}
use Rattle.bx_encode.specs.Writing.{rising}

pub map-same : {X Y : Type 0} (f g : X → Y) (xs : List X) → ((x : X) → f x ≡ g x) → map f xs ≡ map g xs
map-same f g [] same = refl
map-same f g (x ∷ xs) same = ap (λ y. y ∷ map f xs) (same x) ∙ ap (λ ys. g x ∷ ys) (map-same f g xs same)

literals-same : (f g : ℕ → ℕ) (positive : Bool) (count : ℕ) → ((k : ℕ) → f k ≡ g k) → map (λ k. record { var = f k; positive = positive }) (range_with_len 0 count) ≡ map {B = Literal} (λ k. record { var = g k; positive = positive }) (range_with_len 0 count)
literals-same f g positive count same = map-same _ _ (range_with_len 0 count) (λ k. ap (λ n. record { var = n; positive = positive }) (same k))

pub tiles-rise : (N : Network) (r : Ratio) (v first count : ℕ) (positive : Bool) → first ≡ number N r (NodeOn v 0) → count ≡ tile_count r →
    rising first 1 positive count ≡ map (λ t. record { var = number N r (NodeOn v t); positive = positive }) (tiles N r)
unfolding number
tiles-rise N r v first count positive is all =
    ap (rising first 1 positive) all ∙ literals-same (λ k. first + k * 1) (λ t. number N r (NodeOn v t)) positive (tile_count r) (λ k. omega (arith, is))

pub nodes-rise : (N : Network) (r : Ratio) (t first step count : ℕ) (positive : Bool) → first ≡ number N r (NodeOn 0 t) → step ≡ tile_count r → count ≡ length N.nodes →
    rising first step positive count ≡ map (λ v. record { var = number N r (NodeOn v t); positive = positive }) (nodes N r)
unfolding number
nodes-rise N r t first step count positive is wide all =
    ap (rising first step positive) all ∙ literals-same (λ k. first + k * step) (λ v. number N r (NodeOn v t)) positive (length N.nodes) (λ k. omega (arith, is, ap (λ n. k * n) wide))

pub edges-rise : (N : Network) (r : Ratio) (b first step count : ℕ) (positive : Bool) → first ≡ number N r (EdgeOn 0 b) → step ≡ border_count r → count ≡ length N.edges →
    rising first step positive count ≡ map (λ e. record { var = number N r (EdgeOn e b); positive = positive }) (edges N r)
unfolding number
edges-rise N r b first step count positive is wide all =
    ap (rising first step positive) all ∙ literals-same (λ k. first + k * step) (λ e. number N r (EdgeOn e b)) positive (length N.edges) (λ k. omega (arith, is, ap (λ n. k * n) wide))

-- a grid has a tile
pub tile-some : (r : Ratio) → IsGrid r → 0 < tile_count r
tile-some r grid = let low : 1 * r.h ≤ r.w * r.h = mul-le-mul_right r.h grid.wide in let high = grid.high in omega arith

-- what a step puts behind the others
pub put-rising : (old new more : List Literal) (all : List Literal) → new ≡ old ++ more → more ≡ all → new ≡ old ++ all
put-rising old new more all put same = put ∙ ap (λ ls. old ++ ls) same

-- one literal more
pub rise-more : (old before now : List Literal) (first step : ℕ) (positive : Bool) (k : ℕ) (x : Literal) → before ≡ old ++ rising first step positive k → now ≡ before ++ x ∷ [] →
    x ≡ record { var = first + k * step; positive = positive } → now ≡ old ++ rising first step positive (k + 1)
rise-more old before now first step positive k x so_far put is =
    put ∙ ap (λ ls. ls ++ x ∷ []) so_far ∙ append_assoc old (rising first step positive k) (x ∷ []) ∙ ap (λ ls. old ++ ls)
    (ap (λ l. rising first step positive k ++ l ∷ []) is ∙ sym (map-range_with_len_more (λ n. record { var = first + n * step; positive = positive }) 0 k k (omega arith)))
