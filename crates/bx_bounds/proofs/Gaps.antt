-- Between two rows of a grid lie 2w - 1 borders: their numbers are so many that follow one another.
use Rattle.std.proofs.Common.{◌≡◌, ℕ, zero, suc, ◌+◌, ◌-◌, ◌*◌, ◌<◌, ◌≤◌, Bool, true, false, List, length, Option, Some, None, inl, inr, refl, ap, subst, arith}
use Rattle.std.proofs.lemmas.Bool.{cases_lt, cases_eq}
use Rattle.std.proofs.lemmas.List.FromFn.{length-range_with_len}
use Rattle.std.specs.List.{range_with_len}
use Rattle.bx_logic.proofs.Members.{Member}
use Rattle.bx_logic.proofs.Ordered.{Member-range}
use Rattle.bx_forms.specs.declared.side.Side.{Side}
use Rattle.bx_forms.specs.declared.side.Side.TheVariants.{Left, Right}
use Rattle.bx_grid.specs.declared.ratio.Ratio.{Ratio}
use Rattle.bx_grid.specs.Tiles.{x_of, y_of, is_odd, column_beside, tile_at, below, border, one_less}
use Rattle.bx_grid.proofs.Neighbours.{below-next_row}
use Rattle.bx_layout.specs.declared.layout.Layout.{Layout}
use Rattle.bx_layout.specs.Layouts.{edge_on}
use Rattle.bx_layout.specs.Ways.{IsWay}
use Rattle.bx_bounds.specs.Refutes.{borders_between}

-- below an even row the border on the far left leads off the grid, and below an odd row that on the far right
abbrev pub before_first : Bool → ℕ
before_first true = 0
before_first false = 1

-- the borders from this row to the next
unfoldable pub gap : Ratio → ℕ → List ℕ
gap r row = range_with_len (2 * (row * r.w) + before_first (is_odd row)) (borders_between r)

pub length-gap : (r : Ratio) (row : ℕ) → length (gap r row) ≡ borders_between r
unfolding gap
length-gap r row = length-range_with_len (2 * (row * r.w) + before_first (is_odd row)) (borders_between r)

-- where a tile is in the grid, its column is
record HasColumn (r : Ratio) (column : Option ℕ) : Type 0 where
  x : ℕ
  is : column ≡ Some x
  within : x < r.w

has-column : (r : Ratio) (column row : Option ℕ) (u : ℕ) → tile_at r column row ≡ Some u → HasColumn r column
has-column r None row u e = absurd (cc)
has-column r (Some x) None u e = absurd (cc)
has-column r (Some x) (Some y) u e = elim (cases_lt x r.w) [
  | inl within ↦ record { x = x; is = refl; within = within }
  | inr past ↦ absurd (grind arith)
]

one_less-is : (x y : ℕ) → one_less x ≡ Some y → x ≡ suc y
one_less-is zero y e = absurd (cc)
one_less-is (suc x) y e = let same : x ≡ y = cc in ap suc same

-- the border of such a side is one of them, told by the tile's column
in-range : (w base x : ℕ) (odd : Bool) (side : Side) (c : ℕ) → x < w → column_beside odd side x ≡ Some c → c < w → Member (border (base + x) side) (range_with_len (2 * base + before_first odd) (2 * w - 1))
in-range w base x false Left c low is within = let e = one_less-is x c is in Member-range (2 * base + 1) (2 * w - 1) (2 * (base + x)) (omega arith) (omega arith)
in-range w base x false Right c low is within = Member-range (2 * base + 1) (2 * w - 1) (2 * (base + x) + 1) (omega arith) (omega arith)
in-range w base x true Left c low is within = Member-range (2 * base + 0) (2 * w - 1) (2 * (base + x)) (omega arith) (omega arith)
in-range w base x true Right c low is within = let e : x + 1 ≡ c = cc in Member-range (2 * base + 0) (2 * w - 1) (2 * (base + x) + 1) (omega arith) (omega arith)

pub in-gap : (r : Ratio) (t next : ℕ) (side : Side) → 1 ≤ r.w → below r t side ≡ Some next → Member (border t side) (gap r (y_of r t))
unfolding gap
in-gap r t next side wide under =
    let column = has-column r (column_beside (is_odd (y_of r t)) side (x_of r t)) (Some (y_of r t + 1)) next under in
    let low : x_of r t < r.w = omega arith in
    let number : y_of r t * r.w + x_of r t ≡ t = omega arith in
    subst (λ (u : ℕ). Member (border u side) (range_with_len (2 * (y_of r t * r.w) + before_first (is_odd (y_of r t))) (2 * r.w - 1))) number
    (in-range r.w (y_of r t * r.w) (x_of r t) (is_odd (y_of r t)) side column.x low column.is column.within)

-- a way from a row to one below it takes a border of each gap between
pub record TakesBorder (L : Layout) (e row : ℕ) : Type 0 where
  pub border_number : ℕ
  pub carries : edge_on L border_number ≡ Some e
  pub between : Member border_number (gap L.ratio row)

pub way-crosses : (L : Layout) (e row n t u : ℕ) → 1 ≤ L.ratio.w → IsWay L e t u n → y_of L.ratio t ≤ row → row < y_of L.ratio u → TakesBorder L e row
way-crosses L e row zero t u wide way high low = absurd (let same : y_of L.ratio t ≡ y_of L.ratio u = ap (y_of L.ratio) way in omega arith)
way-crosses L e row (suc n) t u wide (side, next, out, under, rest) high low = elim (cases_eq (y_of L.ratio t) row) [
  | inl here ↦ record { border_number = border t side; carries = out; between = subst (λ (y : ℕ). Member (border t side) (gap L.ratio y)) here (in-gap L.ratio t next side wide under) }
  | inr above ↦ (let down = below-next_row L.ratio t next side under in way-crosses L e row n next u wide rest (omega arith) low)
]
