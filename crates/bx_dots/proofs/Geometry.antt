-- Which tile a dot lies in, by division: tiles don't overlap.
use Rattle.std.proofs.Common.{◌≡◌, ℕ, ◌+◌, ◌-◌, ◌*◌, ◌/◌, ◌%◌, ◌<◌, ◌≤◌, leb, leb-true, le-leb, inl, inr, sym, ap, ap₂, ◌∙◌, subst, arith}
use Rattle.std.specs.Prelude.{◌↔◌, IsTrue}
use Rattle.std.proofs.lemmas.Bool.{cases_lt}
use Rattle.std.proofs.lemmas.Nat.{div-mul-add, mod-mul-add, div-add-mod', div_below, mul-add-lt, mod_below}
use Rattle.bx_grid.specs.declared.ratio.Ratio.{Ratio}
use Rattle.bx_grid.specs.Tiles.{IsGrid, IsTile, x_of, y_of}
use Rattle.bx_library.specs.declared.dot.Dot.{Dot}
use Rattle.bx_library.specs.Tiles.{Tiles, IsLibrary}
use Rattle.bx_library.proofs.DotOrder.{same_dot}
use Rattle.bx_dots.specs.Places.{shift, left, top, moved_dot, LiesIn, IsStray}

pub record IsSized (lib : Tiles) : Type 0 where
  pub wide : 0 < lib.width
  pub high : 0 < lib.height

pub sized : (lib : Tiles) → IsLibrary lib → IsSized lib
sized lib l = record {
  wide = let h : 2 ≤ lib.width = l.width.least in omega arith;
  high = let h : 1 ≤ lib.height = l.height.least in omega arith;
}

-- a number from a multiple on, by less than one more
quotient : (a b n : ℕ) → a * b ≤ n → n < a * b + b → n / b ≡ a
quotient a b n low high =
    let rest : n ≡ a * b + (n - a * b) = omega arith in
    ap (λ m. m / b) rest ∙ div-mul-add a b (n - a * b) (omega arith)

pub row_is : (lib : Tiles) (r : Ratio) (t : ℕ) (dot : Dot) → LiesIn lib r t dot → dot.m / lib.height ≡ y_of r t
row_is lib r t dot lies = quotient (y_of r t) lib.height dot.m lies.from_top lies.to_bottom

pub shift_is : (lib : Tiles) (r : Ratio) (t : ℕ) (dot : Dot) → LiesIn lib r t dot → shift lib (dot.m / lib.height) ≡ shift lib (y_of r t)
shift_is lib r t dot lies = ap (shift lib) (row_is lib r t dot lies)

column_by : (x width s n : ℕ) → x * width + s ≤ n → n < x * width + s + width → (n - s) / width ≡ x
column_by x width s n low high = quotient x width (n - s) (omega arith) (omega arith)

pub column_is : (lib : Tiles) (r : Ratio) (t : ℕ) (dot : Dot) → LiesIn lib r t dot → (dot.n - shift lib (dot.m / lib.height)) / lib.width ≡ x_of r t
column_is lib r t dot lies =
    ap (λ s. (dot.n - s) / lib.width) (shift_is lib r t dot lies)
    ∙ column_by (x_of r t) lib.width (shift lib (y_of r t)) dot.n lies.from_left lies.to_right

by_place : (r : Ratio) (t : ℕ) → y_of r t * r.w + x_of r t ≡ t
by_place r t = div-add-mod' t r.w

pub one_tile : (lib : Tiles) (r : Ratio) (t u : ℕ) (dot : Dot) → LiesIn lib r t dot → LiesIn lib r u dot → t ≡ u
one_tile lib r t u dot a b =
    sym (by_place r t)
    ∙ ap₂ (λ y x. y * r.w + x) (sym (row_is lib r t dot a) ∙ row_is lib r u dot b) (sym (column_is lib r t dot a) ∙ column_is lib r u dot b)
    ∙ by_place r u

-- ---- dots in no tile

row_inside : (r : Ratio) (t : ℕ) → IsGrid r → IsTile r t → y_of r t < r.h
row_inside r t grid inside =
    let wide : 1 ≤ r.w = grid.wide in
    div_below t r.w r.h (omega arith) (omega arith)

pub stray_below : (lib : Tiles) (r : Ratio) (dot : Dot) → IsGrid r → r.h ≤ dot.m / lib.height → IsStray lib r dot
stray_below lib r dot grid past t inside lies =
    let row = row_is lib r t dot lies in
    let below = row_inside r t grid inside in
    omega arith

pub stray_before : (lib : Tiles) (r : Ratio) (dot : Dot) → dot.n < shift lib (dot.m / lib.height) → IsStray lib r dot
stray_before lib r dot before t inside lies =
    let same : shift lib (dot.m / lib.height) ≡ shift lib (y_of r t) = shift_is lib r t dot lies in
    let low : x_of r t * lib.width + shift lib (y_of r t) ≤ dot.n = lies.from_left in
    let high : dot.n < shift lib (y_of r t) = subst (λ s. dot.n < s) same before in
    above (x_of r t * lib.width) (shift lib (y_of r t)) dot.n low high
  where
    above : (a s n : ℕ) → a + s ≤ n → n < s → ⊥
    above a s n low high = omega arith

pub stray_behind : (lib : Tiles) (r : Ratio) (dot : Dot) → IsGrid r → r.w ≤ (dot.n - shift lib (dot.m / lib.height)) / lib.width → IsStray lib r dot
stray_behind lib r dot grid past t inside lies =
    let wide : 1 ≤ r.w = grid.wide in
    let column = column_is lib r t dot lies in
    let below : x_of r t < r.w = mod_below t r.w (omega arith) in
    let high : r.w ≤ x_of r t = subst (λ x. r.w ≤ x) column past in
    omega (arith, below, high)

-- a dot in a tile's rows and columns

rest_low : (n b : ℕ) → n / b * b ≤ n
rest_low n b = let e = div-add-mod' n b in omega arith

rest_high : (n b : ℕ) → 0 < b → n < n / b * b + b
rest_high n b some =
    let e = div-add-mod' n b in
    let rest : n % b < b = mod_below n b some in
    omega arith

pub record IsInTile (lib : Tiles) (r : Ratio) (dot : Dot) : Type 0 where
  pub tile : ℕ
  pub inside : IsTile r tile
  pub lies : LiesIn lib r tile dot

unshifted : (a b s n : ℕ) → s ≤ n → a ≤ n - s → n - s < a + b → (a + s ≤ n) × (n < a + s + b)
unshifted a b s n low from to = (omega arith, omega arith)

pub in_tile : (lib : Tiles) (r : Ratio) (dot : Dot) → IsSized lib → dot.m / lib.height < r.h → shift lib (dot.m / lib.height) ≤ dot.n
    → (dot.n - shift lib (dot.m / lib.height)) / lib.width < r.w → IsInTile lib r dot
in_tile lib r dot size row low column =
    let y = dot.m / lib.height in
    let x = (dot.n - shift lib y) / lib.width in
    let y_is : y_of r (y * r.w + x) ≡ y = div-mul-add y r.w x column in
    let x_is : x_of r (y * r.w + x) ≡ x = mod-mul-add y r.w x column in
    let columns = unshifted (x * lib.width) lib.width (shift lib y) dot.n low (rest_low (dot.n - shift lib y) lib.width) (rest_high (dot.n - shift lib y) lib.width size.wide) in
    let left_is : x * lib.width + shift lib y ≡ left lib r (y * r.w + x) = sym (ap₂ (λ u v. u * lib.width + shift lib v) x_is y_is) in
    let top_is : y * lib.height ≡ top lib r (y * r.w + x) = sym (ap (λ v. v * lib.height) y_is) in
    record {
      tile = y * r.w + x;
      inside = mul-add-lt y r.w x r.h row column;
      lies = record {
        from_left = subst (λ n. n ≤ dot.n) left_is columns.0;
        to_right = subst (λ n. dot.n < n + lib.width) left_is columns.1;
        from_top = subst (λ m. m ≤ dot.m) top_is (rest_low dot.m lib.height);
        to_bottom = subst (λ m. dot.m < m + lib.height) top_is (rest_high dot.m lib.height size.high);
      };
    }

-- ---- dots that are moved

pub moved_lies : (lib : Tiles) (r : Ratio) (t : ℕ) (own : Dot) → own.n < lib.width → own.m < lib.height → LiesIn lib r t (moved_dot lib r t own)
moved_lies lib r t own n m = record {
  from_left = low (left lib r t) own.n;
  to_right = high (left lib r t) own.n lib.width n;
  from_top = low (top lib r t) own.m;
  to_bottom = high (top lib r t) own.m lib.height m;
}
  where
    low : (a b : ℕ) → a ≤ a + b
    low a b = omega arith

    high : (a b c : ℕ) → b < c → a + b < a + c
    high a b c h = omega arith

cancel : (a b c : ℕ) → a + b ≡ a + c → b ≡ c
cancel a b c e = omega arith

pub moved_one : (lib : Tiles) (r : Ratio) (t : ℕ) (a b : Dot) → moved_dot lib r t a ≡ moved_dot lib r t b → a ≡ b
moved_one lib r t a b e =
    same_dot a b
    (cancel (top lib r t) a.m b.m (ap (λ (d : Dot). d.m) e))
    (ap (λ (d : Dot). d.l) e)
    (cancel (left lib r t) a.n b.n (ap (λ (d : Dot). d.n) e))

-- ---- what a test of a dot tells

pub told_stray : (lib : Tiles) (r : Ratio) (dot : Dot) (q s x : ℕ) → IsGrid r → IsSized lib → dot.m / lib.height ≡ q → s ≡ shift lib q → (dot.n - s) / lib.width ≡ x → q < r.h → s ≤ dot.n
    → IsTrue (leb r.w x) ↔ IsStray lib r dot
told_stray lib r dot q s x grid size row_at shift_at column_at above behind = (
  (λ h. stray_behind lib r dot grid (subst (λ z. r.w ≤ z) (sym column) (leb-true r.w x h))),
  (λ stray. elim (cases_lt x r.w) [
    | inl below ↦
        let there = in_tile lib r dot size (subst (λ z. z < r.h) (sym row_at) above) (subst (λ z. z ≤ dot.n) (sym shift_here) behind) (subst (λ z. z < r.w) (sym column) below) in
        absurd (stray there.tile there.inside there.lies)
    | inr far ↦ le-leb r.w x far
  ]),
)
  where
    shift_here : shift lib (dot.m / lib.height) ≡ s
    shift_here = ap (shift lib) row_at ∙ sym shift_at

    column : (dot.n - shift lib (dot.m / lib.height)) / lib.width ≡ x
    column = ap (λ z. (dot.n - z) / lib.width) shift_here ∙ column_at
