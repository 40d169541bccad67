-- The order of ratios holds each ratio within the limits and no other, and ascends.
use Rattle.std.proofs.Common.{◌≡◌, ℕ, zero, suc, ◌+◌, ◌*◌, ◌/◌, ◌%◌, ◌<◌, ◌≤◌, ◌↔◌, ◌&&◌, nat_le, Bool, true, false, List, map, Contains, AllPairs, inl, inr, refl, sym, ap, ◌∙◌, subst, arith, eqb-true, eq-eqb, leb-true, le-leb, Some, slice_get, get_or}
use Rattle.std.specs.List.{range_with_len}
use Rattle.std.proofs.lemmas.Nat.{div-mul-add, mod-mul-add}
use Rattle.std.proofs.lemmas.Bool.{cases_lt}
use Rattle.std.proofs.lemmas.Option.{get_or_from_slice_get, slice_get-get_or, slice_get_within}
use Rattle.bx_grid.specs.declared.ratio.Ratio.{Ratio}
use Rattle.bx_grid.specs.declared.ratio.Limits.{Limits}
use Rattle.bx_grid.specs.Orders.{IsWithin, Precedes, divides, divisors, of_width, fits, of_area, order, IsEarlier}
use Rattle.bx_logic.proofs.Members.{Member, Member-filter, Member-filter_cases, Member-map, Member-map_cases, Member-flat_map, Member-flat_map_cases, Contains-from_member, Member-from_contains}
use Rattle.bx_logic.proofs.Ordered.{Member-range, Member-range_bounds, Ascends, Ascends-filter, Ascends-map, Ascends-flat_map, Ascends-range, AllPairs-from_ascends}

-- ---- numbers and tests

both : (p q : Bool) → (p && q) ≡ true → (p ≡ true) × (q ≡ true)
both true true h = (refl, refl)
both true false h = absurd (cc)
both false q h = absurd (cc)

both_back : (p q : Bool) → p ≡ true → q ≡ true → (p && q) ≡ true
both_back p q e f = rw (e, f) refl

product : (area w : ℕ) → area % w ≡ 0 → w * (area / w) ≡ area
product area w h = omega arith

quotient : (area w h : ℕ) → 1 ≤ w → w * h ≡ area → area / w ≡ h
quotient area w h low e = let f : area ≡ h * w + 0 = omega arith in rw f (div-mul-add h w 0 low)

remainder : (area w h : ℕ) → 1 ≤ w → w * h ≡ area → area % w ≡ 0
remainder area w h low e = let f : area ≡ h * w + 0 = omega arith in rw f (mod-mul-add h w 0 low)

factor_le : (area w h : ℕ) → 1 ≤ area → w * h ≡ area → w ≤ area
factor_le area w zero low e = absurd (omega arith)
factor_le area w (suc h) low e = omega arith

one_le_factor : (area w h : ℕ) → 1 ≤ area → w * h ≡ area → 1 ≤ h
one_le_factor area w zero low e = absurd (omega arith)
one_le_factor area w (suc h) low e = omega arith

one_le_product : (w h : ℕ) → 1 ≤ w → 1 ≤ h → 1 ≤ w * h
one_le_product zero h a b = absurd (omega arith)
one_le_product (suc w) h a b = omega arith

-- ---- one area

record IsDivisor (area w : ℕ) : Type 0 where
  low : 1 ≤ w
  product : w * (area / w) ≡ area

divisor_says : (area w : ℕ) → Member w (divisors area) → IsDivisor area w
divisor_says area w m =
    let kept = Member-filter_cases (divides area) w (range_with_len 1 area) m in
    record {
      low = (Member-range_bounds 1 area w kept.0).0;
      product = product area w (eqb-true (area % w) 0 kept.1);
    }

divisor_has : (area w h : ℕ) → 1 ≤ area → 1 ≤ w → w * h ≡ area → Member w (divisors area)
divisor_has area w h some low e =
    let high = factor_le area w h some e in
    let inside = Member-range 1 area w low (omega arith) in
    Member-filter (divides area) w (range_with_len 1 area) (eq-eqb (area % w) 0 (remainder area w h low e)) inside

divisors_ascend : (area : ℕ) → Ascends ◌<◌ (divisors area)
divisors_ascend area = Ascends-filter ◌<◌ (divides area) (range_with_len 1 area) (Ascends-range 1 area)

-- a ratio of this area, within the sides
record IsOfArea (limits : Limits) (size : ℕ) (r : Ratio) : Type 0 where
  wide : 1 ≤ r.w
  area : r.w * r.h ≡ size
  width : r.w ≤ limits.width
  height : r.h ≤ limits.height

of_area_says : (limits : Limits) (area : ℕ) (r : Ratio) → Member r (of_area limits area) → IsOfArea limits area r
of_area_says limits area r m =
    let kept = Member-filter_cases (fits limits) r (map (of_width area) (divisors area)) m in
    let sides = both (nat_le r.w limits.width) (nat_le r.h limits.height) kept.1 in
    let (w, divisor, same) = Member-map_cases (of_width area) r (divisors area) kept.0 in
    let d = divisor_says area w divisor in
    record {
      wide = subst (λ (r : Ratio). 1 ≤ r.w) same d.low;
      area = subst (λ (r : Ratio). r.w * r.h ≡ area) same d.product;
      width = leb-true r.w limits.width sides.0;
      height = leb-true r.h limits.height sides.1;
    }

of_area_has : (limits : Limits) (area : ℕ) (r : Ratio) → 1 ≤ area → IsOfArea limits area r → Member r (of_area limits area)
of_area_has limits area r some a =
    let same : of_width area r.w ≡ r = ap (λ (h : ℕ). record { w = r.w; h = h }) (quotient area r.w r.h a.wide a.area) in
    let divisor = divisor_has area r.w r.h some a.wide a.area in
    let made = Member-map (of_width area) r.w (divisors area) divisor in
    let sides = both_back _ _ (le-leb r.w limits.width a.width) (le-leb r.h limits.height a.height) in
    Member-filter (fits limits) r (map (of_width area) (divisors area)) sides (subst (is_made area) same made)
  where
    is_made : ℕ → Ratio → Type 0
    is_made area q = Member q (map (of_width area) (divisors area))

of_area_ascends : (limits : Limits) (area : ℕ) → Ascends Precedes (of_area limits area)
of_area_ascends limits area =
    let made = Ascends-map ◌<◌ Precedes (of_width area) (divisors area) step (divisors_ascend area) in
    Ascends-filter Precedes (fits limits) (map (of_width area) (divisors area)) made
  where
    step : (v w : ℕ) → Member v (divisors area) → Member w (divisors area) → v < w → Precedes (of_width area v) (of_width area w)
    step v w m n l = inr ((divisor_says area v m).product ∙ sym (divisor_says area w n).product, l)

-- ---- the order

pub order_says : (limits : Limits) (r : Ratio) → Member r (order limits) → IsWithin limits r
unfolding order
order_says limits r m =
    let (area, n, k) = Member-flat_map_cases (of_area limits) r (range_with_len 1 limits.area) m in
    let bounds = Member-range_bounds 1 limits.area area n in
    let a = of_area_says limits area r k in
    record {
      wide = a.wide;
      high = one_le_factor area r.w r.h bounds.0 a.area;
      area = omega arith;
      width = a.width;
      height = a.height;
    }

pub order_has : (limits : Limits) (r : Ratio) → IsWithin limits r → Member r (order limits)
unfolding order
order_has limits r i =
    let some = one_le_product r.w r.h i.wide i.high in
    let high = i.area in
    let area = Member-range 1 limits.area (r.w * r.h) some (omega arith) in
    let here = of_area_has limits (r.w * r.h) r some (record { wide = i.wide; area = refl; width = i.width; height = i.height }) in
    Member-flat_map (of_area limits) (r.w * r.h) r (range_with_len 1 limits.area) area here

pub order_ascends : (limits : Limits) → Ascends Precedes (order limits)
unfolding order
order_ascends limits =
    Ascends-flat_map ◌<◌ Precedes (of_area limits) areas (λ area m. of_area_ascends limits area) step (Ascends-range 1 limits.area)
  where
    areas : List ℕ
    areas = range_with_len 1 limits.area

    step : (a b : ℕ) → Member a areas → Member b areas → a < b → (r s : Ratio) → Member r (of_area limits a) → Member s (of_area limits b) → Precedes r s
    step a b m n l r s k j =
        let x = of_area_says limits a r k in
        let y = of_area_says limits b s j in
        inl (omega arith)

-- ---- what the laws say

pub order_is_exact : (limits : Limits) (r : Ratio) → Contains (order limits) r ↔ IsWithin limits r
order_is_exact limits r =
    ((λ c. order_says limits r (Member-from_contains r (order limits) c)), (λ i. Contains-from_member r (order limits) (order_has limits r i)))

pub order_is_ascending : (limits : Limits) → AllPairs Precedes (order limits)
order_is_ascending limits = AllPairs-from_ascends Precedes (order limits) (order_ascends limits)

-- ---- what stands before what

precedes_once : (a b : Ratio) → Precedes a b → Precedes b a → ⊥
precedes_once a b (inl l) (inl m) = omega arith
precedes_once a b (inl l) (inr m) = let e = m.0 in omega arith
precedes_once a b (inr l) (inl m) = let e = l.0 in omega arith
precedes_once a b (inr l) (inr m) = let e = l.1 in let f = m.1 in omega arith

within_at : (limits : Limits) (k : ℕ) (r : Ratio) → slice_get (order limits) k ≡ Some r → IsWithin limits r
within_at limits k r e =
    (order_is_exact limits r).0 (k, slice_get_within (order limits) k r e, get_or_from_slice_get (order limits) k r r e)

precedes_at : (limits : Limits) (i j : ℕ) (r s : Ratio) → i < j → slice_get (order limits) i ≡ Some r → slice_get (order limits) j ≡ Some s → Precedes r s
precedes_at limits i j r s less e f =
    let p = order_is_ascending limits i j r less (slice_get_within (order limits) j s f) in
    let at_i = get_or_from_slice_get (order limits) i r r e in
    let at_j = get_or_from_slice_get (order limits) j s r f in
    subst (λ (q : Ratio). Precedes r q) at_j (subst (λ (q : Ratio). Precedes q (get_or (order limits) j r)) at_i p)

-- the index of a ratio within the limits
index_of : (limits : Limits) (r : Ratio) → IsWithin limits r → (k : ℕ) × (slice_get (order limits) k ≡ Some r)
index_of limits r i =
    let (k, l, e) = (order_is_exact limits r).1 i in
    (k, slice_get-get_or (order limits) k r l ∙ ap Some e)

earlier_says : (limits : Limits) (r s : Ratio) → IsEarlier limits r s → IsWithin limits r × IsWithin limits s × Precedes r s
earlier_says limits r s e =
    (within_at limits e.index r e.is, within_at limits e.own s e.is_own, precedes_at limits e.index e.own r s e.before e.is e.is_own)

same_at : (limits : Limits) (i j : ℕ) (r s : Ratio) → i ≡ j → slice_get (order limits) i ≡ Some r → slice_get (order limits) j ≡ Some s → r ≡ s
same_at limits i j r s e f g =
    let same : Some r ≡ Some s = sym f ∙ ap (slice_get (order limits)) e ∙ g in cc

earlier_has : (limits : Limits) (r s : Ratio) → IsWithin limits r → IsWithin limits s → Precedes r s → IsEarlier limits r s
earlier_has limits r s w v p =
    let (i, e) = index_of limits r w in
    let (j, f) = index_of limits s v in
    elim (cases_lt i j) [
      | inl less ↦ record { index = i; own = j; before = less; is = e; is_own = f }
      | inr ge ↦ elim (cases_lt j i) [
        | inl more ↦ absurd (precedes_once r s p (precedes_at limits j i s r more f e))
        | inr le ↦
            let same = same_at limits i j r s (omega arith) e f in
            let itself : Precedes s s = subst (λ (q : Ratio). Precedes q s) same p in
            absurd (precedes_once s s itself itself)
      ]
    ]

pub earlier_is_before : (limits : Limits) (r s : Ratio) → IsEarlier limits r s ↔ (IsWithin limits r × IsWithin limits s × Precedes r s)
earlier_is_before limits r s = (earlier_says limits r s, (λ (w, v, p). earlier_has limits r s w v p))
