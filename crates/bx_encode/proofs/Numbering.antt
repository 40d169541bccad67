-- The numbers of the variables: four blocks, in each of which a place has one row and one column.
use Rattle.std.proofs.Common.{◌≡◌, ℕ, ◌+◌, ◌-◌, ◌*◌, ◌/◌, ◌%◌, ◌<◌, ◌≤◌, length, refl, ap, ◌∙◌, subst, inl, inr, arith}
use Rattle.std.proofs.Math.Nat.{mul-le-mul_right}
use Rattle.std.proofs.lemmas.Nat.{same_from_place, div_below, mod_below, div-add-mod'}
use Rattle.std.proofs.lemmas.Bool.{cases_lt}
use Rattle.bx_grid.specs.declared.ratio.Ratio.{Ratio}
use Rattle.bx_grid.specs.Tiles.{tile_count, IsTile}
use Rattle.bx_network.specs.Networks.{Network}
use Rattle.bx_encode.specs.Variables.{border_count, IsVariable, taken_offset, used_offset, edge_offset, variable_count, number}
use Rattle.bx_encode.specs.declared.variable.Variable.{Variable}
use Rattle.bx_encode.specs.declared.variable.Variable.TheVariants.{NodeOn, Taken, Used, EdgeOn}

-- a place in n rows of a columns each
pub place-low : (a n row col : ℕ) → row < n → col < a → row * a + col + 1 ≤ n * a
place-low a n row col r c = omega (arith, mul-le-mul_right {m = row + 1} {n = n} a (omega arith))

-- the blocks lie one behind the other
pub node_on-above : (N : Network) (r : Ratio) (v t : ℕ) → 1 ≤ number N r (NodeOn v t)
unfolding number
node_on-above N r v t = omega arith

pub node_on-low : (N : Network) (r : Ratio) (v t : ℕ) → v < length N.nodes → IsTile r t → number N r (NodeOn v t) ≤ taken_offset N r
unfolding number
node_on-low N r v t node tile = omega (arith, place-low (tile_count r) (length N.nodes) v t node tile)

pub taken-is : (N : Network) (r : Ratio) (t : ℕ) → number N r (Taken t) ≡ 1 + taken_offset N r + t
unfolding number
taken-is N r t = refl

pub used-is : (N : Network) (r : Ratio) (b : ℕ) → number N r (Used b) ≡ 1 + used_offset N r + b
unfolding number
used-is N r b = refl

pub edge_on-above : (N : Network) (r : Ratio) (e b : ℕ) → edge_offset N r + 1 ≤ number N r (EdgeOn e b)
unfolding number
edge_on-above N r e b = omega arith

pub edge_on-low : (N : Network) (r : Ratio) (e b : ℕ) → e < length N.edges → b < border_count r → number N r (EdgeOn e b) ≤ variable_count N r
unfolding number
edge_on-low N r e b edge border = omega (arith, place-low (border_count r) (length N.edges) e b edge border)

pub number-above : (N : Network) (r : Ratio) (x : Variable) → 1 ≤ number N r x
unfolding number
number-above N r (NodeOn v t) = omega arith
number-above N r (Taken t) = omega arith
number-above N r (Used b) = omega arith
number-above N r (EdgeOn e b) = omega arith

pub number-within : (N : Network) (r : Ratio) (x : Variable) → IsVariable N r x → number N r x ≤ variable_count N r
number-within N r (NodeOn v t) (node, tile) = omega (arith, node_on-low N r v t node tile)
number-within N r (Taken t) tile = omega (arith, taken-is N r t)
number-within N r (Used b) border = omega (arith, used-is N r b)
number-within N r (EdgeOn e b) (edge, border) = edge_on-low N r e b edge border

pub number-once : (N : Network) (r : Ratio) (x y : Variable) → IsVariable N r x → IsVariable N r y → number N r x ≡ number N r y → x ≡ y
unfolding number
number-once N r (NodeOn v t) (NodeOn w u) (node, tile) (_, other) e =
    let (rows, cols) = same_from_place v t w u (tile_count r) tile other (omega arith) in
    ap (λ n. NodeOn n t) rows ∙ ap (NodeOn w) cols
number-once N r (NodeOn v t) (Taken u) (node, tile) other e = absurd (omega (arith, place-low (tile_count r) (length N.nodes) v t node tile))
number-once N r (NodeOn v t) (Used b) (node, tile) other e = absurd (omega (arith, place-low (tile_count r) (length N.nodes) v t node tile))
number-once N r (NodeOn v t) (EdgeOn f b) (node, tile) other e = absurd (omega (arith, place-low (tile_count r) (length N.nodes) v t node tile))
number-once N r (Taken t) (NodeOn w u) tile (node, other) e = absurd (omega (arith, place-low (tile_count r) (length N.nodes) w u node other))
number-once N r (Taken t) (Taken u) tile other e = let same : t ≡ u = omega arith in ap Taken same
number-once N r (Taken t) (Used b) tile other e = absurd (omega arith)
number-once N r (Taken t) (EdgeOn f b) tile other e = absurd (omega arith)
number-once N r (Used b) (NodeOn w u) border (node, other) e = absurd (omega (arith, place-low (tile_count r) (length N.nodes) w u node other))
number-once N r (Used b) (Taken u) border other e = absurd (omega arith)
number-once N r (Used b) (Used c) border other e = let same : b ≡ c = omega arith in ap Used same
number-once N r (Used b) (EdgeOn f c) border other e = absurd (omega arith)
number-once N r (EdgeOn f b) (NodeOn w u) border (node, other) e = absurd (omega (arith, place-low (tile_count r) (length N.nodes) w u node other))
number-once N r (EdgeOn f b) (Taken u) border other e = absurd (omega arith)
number-once N r (EdgeOn f b) (Used c) border other e = absurd (omega arith)
number-once N r (EdgeOn f b) (EdgeOn g c) (edge, border) (_, other) e =
    let (rows, cols) = same_from_place f b g c (border_count r) border other (omega arith) in
    ap (λ n. EdgeOn n b) rows ∙ ap (EdgeOn g) cols

-- each place is in some row and some column
record IsPlace (a n k : ℕ) : Type 0 where
  row : ℕ
  col : ℕ
  row_in : row < n
  col_in : col < a
  at : row * a + col ≡ k

place-at : (a n k : ℕ) → k < n * a → IsPlace a n k
place-at a n k low = elim (cases_lt 0 a) [
  | inl some ↦ record {
    row = k / a;
    col = k % a;
    row_in = div_below k a n some low;
    col_in = mod_below k a some;
    at = div-add-mod' k a;
  }
  | inr none ↦ let zero : a ≡ 0 = omega arith in absurd (omega (arith, ap (λ m. n * m) zero))
]

abbrev HasNumber : Network → Ratio → ℕ → Type 0
HasNumber N r k = (x : Variable) × IsVariable N r x × (number N r x ≡ k)

-- the k-th of the first block, of the others, and so of all
node_on-at : (N : Network) (r : Ratio) (k : ℕ) → k < taken_offset N r → HasNumber N r (1 + k)
unfolding number
node_on-at N r k low =
    let place = place-at (tile_count r) (length N.nodes) k low in
    let at : 1 + place.row * tile_count r + place.col ≡ 1 + k = omega (arith, place.at) in
    (NodeOn place.row place.col, (place.row_in, place.col_in), at)

taken-at : (N : Network) (r : Ratio) (t : ℕ) → t < tile_count r → HasNumber N r (1 + taken_offset N r + t)
unfolding number
taken-at N r t tile = (Taken t, tile, refl)

used-at : (N : Network) (r : Ratio) (b : ℕ) → b < border_count r → HasNumber N r (1 + used_offset N r + b)
unfolding number
used-at N r b border = (Used b, border, refl)

edge_on-at : (N : Network) (r : Ratio) (k : ℕ) → k < length N.edges * border_count r → HasNumber N r (1 + edge_offset N r + k)
unfolding number
edge_on-at N r k low =
    let place = place-at (border_count r) (length N.edges) k low in
    let at : 1 + edge_offset N r + place.row * border_count r + place.col ≡ 1 + edge_offset N r + k = omega (arith, place.at) in
    (EdgeOn place.row place.col, (place.row_in, place.col_in), at)

number-all : (N : Network) (r : Ratio) (k : ℕ) → k < variable_count N r → HasNumber N r (1 + k)
number-all N r k within = elim (cases_lt k (taken_offset N r)) [
  | inl low ↦ node_on-at N r k low
  | inr high ↦ elim (cases_lt k (used_offset N r)) [
    | inl low ↦ let e : 1 + taken_offset N r + (k - taken_offset N r) ≡ 1 + k = omega arith in subst (HasNumber N r) e (taken-at N r (k - taken_offset N r) (omega arith))
    | inr higher ↦ elim (cases_lt k (edge_offset N r)) [
      | inl low ↦ let e : 1 + used_offset N r + (k - used_offset N r) ≡ 1 + k = omega arith in subst (HasNumber N r) e (used-at N r (k - used_offset N r) (omega arith))
      | inr highest ↦ let e : 1 + edge_offset N r + (k - edge_offset N r) ≡ 1 + k = omega arith in subst (HasNumber N r) e (edge_on-at N r (k - edge_offset N r) (omega arith))
    ]
  ]
]

pub number-some : (N : Network) (r : Ratio) (k : ℕ) → 1 ≤ k → k ≤ variable_count N r → (x : Variable) × IsVariable N r x × (number N r x ≡ k)
number-some N r k above within = let e : 1 + (k - 1) ≡ k = omega arith in subst (HasNumber N r) e (number-all N r (k - 1) (omega arith))
