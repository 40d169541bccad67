-- Where the tiles above and below stand: a tile above has a lower number, and the tile below on a side
-- and the tile above on the opposite side undo each other.
use Rattle.std.proofs.Common.{◌≡◌, ℕ, zero, suc, ◌+◌, ◌*◌, ◌/◌, ◌%◌, ◌<◌, Bool, true, false, not, Some, None, refl, sym, ◌∙◌, ap, arith, inl, inr}
use Rattle.std.specs.Prelude.{Option, if◌then◌else◌, nat_lt, ◌&&◌}
use Rattle.std.proofs.lemmas.Bool.{lt-ltb, ltb-true, and_parts, cases_Bool, cases_eq, eqb-true, eqb-false, eq-eqb, ne_eqb}
use Rattle.std.proofs.lemmas.Nat.{mul-add-lt, div-mul-add, mod-mul-add, div-add-mod', rows}
use Rattle.bx_grid.specs.declared.ratio.Ratio.{Ratio}
use Rattle.bx_forms.specs.declared.side.Side.{Side}
use Rattle.bx_forms.specs.declared.side.Side.TheVariants.{Left, Right}
use Rattle.bx_forms.specs.Sides.{opposite}
use Rattle.bx_grid.specs.Tiles.{tile_count, IsTile, x_of, y_of, zone_of, is_odd, one_less, column_beside, tile_at, above, below, border}

pub is_odd-suc : (t : ℕ) → is_odd (suc t) ≡ not (is_odd t)
is_odd-suc t = elim (cases_Bool (is_odd t)) [
  | inl e ↦ let odd = eqb-true (t % 2) 1 e in ne_eqb (suc t % 2) 1 (λ q. omega arith) ∙ ap not (sym e)
  | inr e ↦ let even = eqb-false (t % 2) 1 e in eq-eqb (suc t % 2) 1 (omega arith) ∙ ap not (sym e)
]

if_some : (b : Bool) (v u : ℕ) → (if b then Some v else None) ≡ Some u → (b ≡ true) × (v ≡ u)
if_some true v u e = (refl, cc)
if_some false v u e = cc

-- where a tile of the grid stands
record Place (r : Ratio) (column row : Option ℕ) (t : ℕ) : Type 0 where
  x : ℕ
  y : ℕ
  column_is : column ≡ Some x
  row_is : row ≡ Some y
  in_row : x < r.w
  in_grid : y < r.h
  number : y * r.w + x ≡ t

place-from : (r : Ratio) (column row : Option ℕ) (t : ℕ) → tile_at r column row ≡ Some t → Place r column row t
place-from r None row t e = cc
place-from r (Some x) None t e = cc
place-from r (Some x) (Some y) t e =
    let both = if_some (nat_lt x r.w && nat_lt y r.h) (y * r.w + x) t e in
    let tests = and_parts (nat_lt x r.w) (nat_lt y r.h) both.0 in
    record { x = x; y = y; column_is = refl; row_is = refl; in_row = ltb-true x r.w tests.0; in_grid = ltb-true y r.h tests.1; number = both.1 }

tile_at-is : (r : Ratio) (x y : ℕ) → x < r.w → y < r.h → tile_at r (Some x) (Some y) ≡ Some (y * r.w + x)
tile_at-is r x y h k = rw (lt-ltb x r.w h, lt-ltb y r.h k)

beside-back : (odd : Bool) (side : Side) (x z : ℕ) → column_beside odd side x ≡ Some z → column_beside (not odd) (opposite side) z ≡ Some x
beside-back true Left x z e = sym e
beside-back true Right x z e = let n : z ≡ x + 1 = cc in let s : z ≡ suc x = omega arith in rw s
beside-back false Left zero z e = cc
beside-back false Left (suc x) z e = let s : x ≡ z = cc in ap Some (let n : z + 1 ≡ suc x = omega arith in n)
beside-back false Right x z e = sym e

one_less-some : (y z : ℕ) → one_less y ≡ Some z → y ≡ suc z
one_less-some zero z e = cc
one_less-some (suc y) z e = let s : y ≡ z = cc in ap suc s

-- a tile by its column and row

above-at : (r : Ratio) (x y : ℕ) (side : Side) → x < r.w → above r (y * r.w + x) side ≡ tile_at r (column_beside (is_odd y) side x) (one_less y)
above-at r x y side h = rw (mod-mul-add y r.w x h, div-mul-add y r.w x h)

below-at : (r : Ratio) (x y : ℕ) (side : Side) → x < r.w → below r (y * r.w + x) side ≡ tile_at r (column_beside (is_odd y) side x) (Some (y + 1))
below-at r x y side h = rw (mod-mul-add y r.w x h, div-mul-add y r.w x h)

number-of : (r : Ratio) (t y : ℕ) → y_of r t ≡ y → y * r.w + x_of r t ≡ t
number-of r t y e = ap (λ row. row * r.w + x_of r t) (sym e) ∙ div-add-mod' t r.w

pub above-less : (r : Ratio) (t u : ℕ) (side : Side) → above r t side ≡ Some u → u < t
above-less r t u side e =
    let p = place-from r (column_beside (is_odd (y_of r t)) side (x_of r t)) (one_less (y_of r t)) u e in
    let n = number-of r t (suc p.y) (one_less-some (y_of r t) p.y p.row_is) in
    omega arith

pub below-above : (r : Ratio) (t u : ℕ) (side : Side) → below r t side ≡ Some u → above r u (opposite side) ≡ Some t
below-above r t u side e =
    let x = x_of r t in
    let y = y_of r t in
    let p = place-from r (column_beside (is_odd y) side x) (Some (y + 1)) u e in
    let next : y + 1 ≡ p.y = cc in
    let row : p.y ≡ suc y = omega arith in
    let number : u ≡ suc y * r.w + p.x = sym p.number ∙ ap (λ q. q * r.w + p.x) row in
    let column : column_beside (is_odd (suc y)) (opposite side) p.x ≡ Some x =
    ap (λ odd. column_beside odd (opposite side) p.x) (is_odd-suc y) ∙ beside-back (is_odd y) side x p.x p.column_is in
    ap (λ v. above r v (opposite side)) number
    ∙ above-at r p.x (suc y) (opposite side) p.in_row
    ∙ ap (λ c. tile_at r c (Some y)) column
    ∙ tile_at-is r x y (omega arith) (omega arith)
    ∙ ap Some (number-of r t y refl)

not-not : (b : Bool) → not (not b) ≡ b
not-not true = refl
not-not false = refl

pub above-below : (r : Ratio) (t u : ℕ) (side : Side) → t < tile_count r → above r t side ≡ Some u → below r u (opposite side) ≡ Some t
above-below r t u side h e =
    let x = x_of r t in
    let p = place-from r (column_beside (is_odd (y_of r t)) side x) (one_less (y_of r t)) u e in
    let row : y_of r t ≡ suc p.y = one_less-some (y_of r t) p.y p.row_is in
    let next : suc p.y ≡ p.y + 1 = omega arith in
    let number : (p.y + 1) * r.w + x ≡ t = number-of r t (p.y + 1) (row ∙ next) in
    let odd : not (is_odd (y_of r t)) ≡ is_odd p.y = ap (λ q. not (is_odd q)) row ∙ ap not (is_odd-suc p.y) ∙ not-not (is_odd p.y) in
    let column : column_beside (is_odd p.y) (opposite side) p.x ≡ Some x =
    ap (λ b. column_beside b (opposite side) p.x) (sym odd) ∙ beside-back (is_odd (y_of r t)) side x p.x p.column_is in
    let in_grid : p.y + 1 < r.h = grind (arith, rows) in
    ap (λ v. below r v (opposite side)) (sym p.number)
    ∙ below-at r p.x p.y (opposite side) p.in_row
    ∙ ap (λ c. tile_at r c (Some (p.y + 1))) column
    ∙ tile_at-is r x (p.y + 1) (omega arith) in_grid
    ∙ ap Some number

pub below-next_row : (r : Ratio) (t u : ℕ) (side : Side) → below r t side ≡ Some u → y_of r u ≡ y_of r t + 1
below-next_row r t u side e =
    let p = place-from r (column_beside (is_odd (y_of r t)) side (x_of r t)) (Some (y_of r t + 1)) u e in
    let row : y_of r t + 1 ≡ p.y = cc in
    ap (y_of r) (sym p.number) ∙ div-mul-add p.y r.w p.x p.in_row ∙ sym row

pub below-next_zone : (r : Ratio) (t u : ℕ) (side : Side) → below r t side ≡ Some u → zone_of r u ≡ (zone_of r t + 1) % 4
below-next_zone r t u side e = let row = below-next_row r t u side e in omega arith

pub below-inside : (r : Ratio) (t u : ℕ) (side : Side) → below r t side ≡ Some u → u < tile_count r
below-inside r t u side e =
    let p = place-from r (column_beside (is_odd (y_of r t)) side (x_of r t)) (Some (y_of r t + 1)) u e in
    let h : p.y * r.w + p.x < r.w * r.h = mul-add-lt p.y r.w p.x r.h p.in_grid p.in_row in
    omega (arith, p.number)

-- borders

pub border-side : (t u : ℕ) (a b : Side) → border t a ≡ border u b → (t ≡ u) × (a ≡ b)
border-side t u Left Left e = let same : t ≡ u = omega arith in (same, refl)
border-side t u Left Right e = absurd (omega arith)
border-side t u Right Left e = absurd (omega arith)
border-side t u Right Right e = let same : t ≡ u = omega arith in (same, refl)

pub border-some : (r : Ratio) (b : ℕ) → b < 2 * tile_count r → (t : ℕ) × (side : Side) × IsTile r t × (border t side ≡ b)
border-some r b h = elim (cases_eq (b % 2) 0) [
  | inl even ↦ (b / 2, Left, omega arith, omega arith)
  | inr odd ↦ (b / 2, Right, omega arith, omega arith)
]

pub border-inside : (r : Ratio) (t : ℕ) (side : Side) → IsTile r t → border t side < 2 * tile_count r
border-inside r t Left h = omega arith
border-inside r t Right h = omega arith
