-- The borders between two rows are those of the gap, and each of them leads to a tile.
use Rattle.std.proofs.Common.{◌≡◌, ℕ, zero, suc, ◌+◌, ◌-◌, ◌*◌, ◌/◌, ◌%◌, ◌<◌, ◌≤◌, ◌&&◌, nat_lt, if◌then◌else◌, Bool, true, false, Option, Some, None, Contains, inl, inr, refl, sym, ap, ◌∙◌, subst, arith}
use Rattle.std.proofs.lemmas.Bool.{cases_eq, lt-ltb}
use Rattle.std.proofs.lemmas.Nat.{div-mul-add, mod-mul-add}
use Rattle.std.specs.List.{range_with_len}
use Rattle.bx_logic.proofs.Members.{Member, Contains-from_member, Member-from_contains}
use Rattle.bx_logic.proofs.Ordered.{Ascends-range, Member-range_bounds}
use Rattle.bx_forms.specs.declared.side.Side.{Side}
use Rattle.bx_forms.specs.declared.side.Side.TheVariants.{Left, Right}
use Rattle.bx_grid.specs.declared.ratio.Ratio.{Ratio}
use Rattle.bx_grid.specs.Tiles.{x_of, y_of, is_odd, column_beside, tile_at, below, border, one_less}
use Rattle.bx_bounds.specs.Borders.{LeadsFrom}
use Rattle.bx_bounds.specs.Numbers.{IsCount}
use Rattle.bx_bounds.specs.Refutes.{borders_between}
use Rattle.bx_bounds.proofs.BitRows.{distinct-ascends}
use Rattle.bx_bounds.proofs.Gaps.{before_first, gap, length-gap, in-gap}

leads-in-gap : (r : Ratio) (row b : ℕ) → 1 ≤ r.w → LeadsFrom r row b → Member b (gap r row)
leads-in-gap r row b wide (t, side, next, y, is, under) =
    subst (λ (n : ℕ). Member n (gap r row)) is (subst (λ (n : ℕ). Member (border t side) (gap r n)) y (in-gap r t next side wide under))

-- the border of a tile of the row, where there is a tile on that side
leads-at : (r : Ratio) (row x c : ℕ) (side : Side) → row + 1 < r.h → x < r.w → column_beside (is_odd row) side x ≡ Some c → c < r.w → LeadsFrom r row (border (row * r.w + x) side)
leads-at r row x c side high low is within = (row * r.w + x, side, (row + 1) * r.w + c, div-mul-add row r.w x low, refl, under)
  where
    beside : below r (row * r.w + x) side ≡ tile_at r (column_beside (is_odd row) side x) (Some (row + 1))
    beside = rw (mod-mul-add row r.w x low, div-mul-add row r.w x low)

    tile : tile_at r (Some c) (Some (row + 1)) ≡ Some ((row + 1) * r.w + c)
    tile = rw (lt-ltb c r.w within, lt-ltb (row + 1) r.h high)

    under : below r (row * r.w + x) side ≡ Some ((row + 1) * r.w + c)
    under = beside ∙ ap (λ (o : Option ℕ). tile_at r o (Some (row + 1))) is ∙ tile

one_less-of : (x : ℕ) → 1 ≤ x → one_less x ≡ Some (x - 1)
one_less-of zero low = absurd (omega arith)
one_less-of (suc x) low = let e : x ≡ suc x - 1 = omega arith in ap Some e

at-place : (r : Ratio) (row k : ℕ) (odd : Bool) → is_odd row ≡ odd → row + 1 < r.h → before_first odd ≤ k → k < before_first odd + (2 * r.w - 1) → LeadsFrom r row (2 * (row * r.w) + k)
at-place r row k odd is high low short = elim (cases_eq (k % 2) 0) [
  | inl even ↦ (
      let number : border (row * r.w + k / 2) Left ≡ 2 * (row * r.w) + k = omega arith in
      subst (LeadsFrom r row) number (left odd is low short even))
  | inr uneven ↦ (
      let number : border (row * r.w + k / 2) Right ≡ 2 * (row * r.w) + k = omega arith in
      subst (LeadsFrom r row) number (right odd is low short (omega arith)))
]
  where
    left : (odd : Bool) → is_odd row ≡ odd → before_first odd ≤ k → k < before_first odd + (2 * r.w - 1) → k % 2 ≡ 0 → LeadsFrom r row (border (row * r.w + k / 2) Left)
    left false is low short even = leads-at r row (k / 2) (k / 2 - 1) Left high (omega arith) (ap (λ o. column_beside o Left (k / 2)) is ∙ one_less-of (k / 2) (omega arith)) (omega arith)
    left true is low short even = leads-at r row (k / 2) (k / 2) Left high (omega arith) (ap (λ o. column_beside o Left (k / 2)) is) (omega arith)

    right : (odd : Bool) → is_odd row ≡ odd → before_first odd ≤ k → k < before_first odd + (2 * r.w - 1) → k % 2 ≡ 1 → LeadsFrom r row (border (row * r.w + k / 2) Right)
    right false is low short uneven = leads-at r row (k / 2) (k / 2) Right high (omega arith) (ap (λ o. column_beside o Right (k / 2)) is) (omega arith)
    right true is low short uneven = leads-at r row (k / 2) (k / 2 + 1) Right high (omega arith) (ap (λ o. column_beside o Right (k / 2)) is) (omega arith)

gap-leads : (r : Ratio) (row b : ℕ) → row + 1 < r.h → Member b (gap r row) → LeadsFrom r row b
unfolding gap
gap-leads r row b high m =
    let bounds = Member-range_bounds (2 * (row * r.w) + before_first (is_odd row)) (2 * r.w - 1) b m in
    let number : 2 * (row * r.w) + (b - 2 * (row * r.w)) ≡ b = omega arith in
    subst (LeadsFrom r row) number (at-place r row (b - 2 * (row * r.w)) (is_odd row) refl high (omega arith) (omega arith))

pub borders-between : (r : Ratio) (row : ℕ) → 1 ≤ r.w → row + 1 < r.h → IsCount (LeadsFrom r row) (borders_between r)
unfolding gap
borders-between r row wide high = record {
  numbers = gap r row;
  distinct = distinct-ascends (gap r row) (Ascends-range (2 * (row * r.w) + before_first (is_odd row)) (2 * r.w - 1));
  are = λ b. (
    (λ leads. Contains-from_member b (gap r row) (leads-in-gap r row b wide leads)),
    (λ h. gap-leads r row b high (Member-from_contains b (gap r row) h)),
  );
  size = length-gap r row;
}
