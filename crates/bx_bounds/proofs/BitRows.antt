-- Rows of bits, and how many bits a number has.
use Rattle.std.proofs.Common.{◌≡◌, ◌≢◌, ℕ, ◌*◌, ◌^◌, ◌%◌, ◌<◌, ◌⊎◌, ◌↔◌, Bool, false, cond, ◌==◌, List, [], ◌∷◌, length, map, filter, get_or, set, replicate, count_ones, bit_or, bit_and, inl, inr, sym, ap, ◌∙◌, subst, arith, get_or-set_same, get_or-set_other, length-set}
use Rattle.std.proofs.Math.Nat.{mod-eq_of_lt}
use Rattle.std.proofs.Math.Pow.{pow-lt}
use Rattle.std.proofs.lemmas.Bool.{cases_eq}
use Rattle.std.proofs.lemmas.Nat.Bits.{bit_at-zero, bit_at_or, bit_at_and, bit_at-lt, bit_at-pow_same, bit_at-pow_other, same_from_bits_below}
use Rattle.std.proofs.lemmas.Simd.{bit_mask_l, ones-mask_l, mask_l-lt}
use Rattle.std.proofs.lemmas.List.FromFn.{length-map-range_with_len, get_or-map-range_with_len}
use Rattle.std.proofs.lemmas.List.Sums.{length-filter}
use Rattle.std.specs.List.{range_with_len}
use Rattle.std.specs.Int.{bit_at}
use lib.Lanes.{mask_l}
use Rattle.bx_logic.specs.Lists.{AreDistinct}
use Rattle.bx_logic.proofs.Members.{Member, Member-filter, Member-filter_cases, AllByRecursion-from_member, member_of_AllByRecursion}
use Rattle.bx_logic.proofs.Ordered.{Ascends, Ascends-filter, Ascends-range, Member-range, Member-range_bounds}
use Rattle.bx_network.proofs.Lists.{got-replicate, length-got-replicate}
use Rattle.bx_bounds.specs.Rows.{HasBit, AreRowsOf}

-- ---- bits

pub bit-or : (a b t : ℕ) → HasBit (bit_or a b) t ↔ (HasBit a t ⊎ HasBit b t)
bit-or a b t =
    let both = bit_at_or a b t in
    let few_a = bit_at-lt a t in
    let few_b = bit_at-lt b t in (
      (λ e. elim (cases_eq (bit_at a t) 1) [ inl here ↦ inl here | inr away ↦ inr (omega arith) ]),
      (λ h. elim h [ inl here ↦ omega arith | inr here ↦ omega arith ]),
    )

pub bit-and : (a b t : ℕ) → HasBit (bit_and a b) t ↔ (HasBit a t × HasBit b t)
bit-and a b t =
    let both = bit_at_and a b t in
    let few_a = bit_at-lt a t in
    let few_b = bit_at-lt b t in
    ((λ e. (omega arith, omega arith)), (λ h. let one = h.0 in let other = h.1 in omega arith))

pub bit-none : (t : ℕ) → HasBit 0 t → ⊥
bit-none t e = let none = bit_at-zero t in omega arith

pub bit-alone : (v t : ℕ) → HasBit (2 ^ v) t ↔ (t ≡ v)
bit-alone v t = (
  (λ e. elim (cases_eq t v) [ inl same ↦ same | inr other ↦ absurd (let none = bit_at-pow_other v t other in omega arith) ]),
  (λ same. subst (λ (x : ℕ). HasBit (2 ^ v) x) (sym same) (bit_at-pow_same v)),
)

-- ---- rows

pub rows-map : (R S : ℕ → ℕ → Type 0) (rows : List ℕ) → ((u t : ℕ) → R u t ↔ S u t) → AreRowsOf R rows → AreRowsOf S rows
rows-map R S rows same are = record {
  all = are.all;
  each = λ u t low short. ((λ h. (same u t).0 ((are.each u t low short).0 h)), (λ s. (are.each u t low short).1 ((same u t).1 s)));
}

pub rows-none : (R : ℕ → ℕ → Type 0) → ((u t : ℕ) → R u t → ⊥) → AreRowsOf R (replicate 128 0)
rows-none R none = record {
  all = length-got-replicate 128;
  each = λ u t low short. ((λ h. absurd (bit-none t (subst (λ (x : ℕ). HasBit x t) (got-replicate 128 u) h))), (λ r. absurd (none u t r)));
}

-- bits that are added to a row
pub rows-more : (R S : ℕ → ℕ → Type 0) (More : ℕ → Type 0) (rows : List ℕ) (u bits : ℕ) → u < 128 → ((t : ℕ) → t < 128 → HasBit bits t ↔ More t) →
    ((v t : ℕ) → S v t ↔ (R v t ⊎ ((v ≡ u) × More t))) → AreRowsOf R rows → AreRowsOf S (set rows u (bit_or (get_or rows u 0) bits))
rows-more R S More rows u bits inside says step are = record {
  all = length-set rows u _ ∙ are.all;
  each = λ v t low short. each v t low short (cases_eq v u);
}
  where
    now : List ℕ
    now = set rows u (bit_or (get_or rows u 0) bits)

    each : (v t : ℕ) → v < 128 → t < 128 → (v ≡ u) ⊎ (v ≢ u) → HasBit (get_or (set rows u (bit_or (get_or rows u 0) bits)) v 0) t ↔ S v t
    each v t low short (inl here) =
        let size = are.all in
        let written : get_or (set rows u (bit_or (get_or rows u 0) bits)) v 0 ≡ bit_or (get_or rows u 0) bits =
        ap (λ x. get_or (set rows u (bit_or (get_or rows u 0) bits)) x 0) here ∙ get_or-set_same rows u _ 0 (omega arith) in
        let own = are.each u t inside short in
        let added = says t short in
        let both = bit-or (get_or rows u 0) bits t in (
          (λ h. elim (both.0 (subst (λ (x : ℕ). HasBit x t) written h)) [
            | inl old ↦ (step v t).1 (inl (subst (λ (x : ℕ). R x t) (sym here) (own.0 old)))
            | inr new ↦ (step v t).1 (inr (here, added.0 new))
          ]),
          (λ s. subst (λ (x : ℕ). HasBit x t) (sym written) (both.1 (elim ((step v t).0 s) [
            | inl old ↦ inl (own.1 (subst (λ (x : ℕ). R x t) here old))
            | inr new ↦ inr (added.1 new.1)
          ]))),
        )
    each v t low short (inr other) =
        let kept : get_or (set rows u (bit_or (get_or rows u 0) bits)) v 0 ≡ get_or rows v 0 = get_or-set_other rows u v _ 0 other in
        let own = are.each v t low short in (
          (λ h. (step v t).1 (inl (own.0 (subst (λ (x : ℕ). HasBit x t) kept h)))),
          (λ s. elim ((step v t).0 s) [
            | inl old ↦ subst (λ (x : ℕ). HasBit x t) (sym kept) (own.1 old)
            | inr new ↦ absurd (other new.0)
          ]),
        )

-- ---- the bits of a number as a list

has_bit : ℕ → ℕ → Bool
has_bit n t = bit_at n t == 1

-- the bits below w
pub ones_of : ℕ → ℕ → List ℕ
ones_of w n = filter (has_bit n) (range_with_len 0 w)

pub ones-member : (w n t : ℕ) → t < w → HasBit n t → Member t (ones_of w n)
unfolding ones_of has_bit
ones-member w n t low has = Member-filter (λ t. bit_at n t == 1) t (range_with_len 0 w) (grind arith) (Member-range 0 w t (omega arith) (omega arith))

pub ones-are : (w n t : ℕ) → Member t (ones_of w n) → (t < w) × HasBit n t
unfolding ones_of has_bit
ones-are w n t m =
    let (among, passes) = Member-filter_cases (λ t. bit_at n t == 1) t (range_with_len 0 w) m in
    let bounds = Member-range_bounds 0 w t among in
    (omega arith, grind arith)

pub distinct-ascends : (xs : List ℕ) → Ascends ◌<◌ xs → AreDistinct xs
distinct-ascends [] a = tt
distinct-ascends (x ∷ xs) a = (AllByRecursion-from_member (λ y. y ≢ x) xs (λ y m same. let less = member_of_AllByRecursion (λ (z : ℕ). x < z) y xs a.0 m in omega arith), distinct-ascends xs a.1)

pub ones-distinct : (w n : ℕ) → AreDistinct (ones_of w n)
unfolding ones_of
ones-distinct w n = distinct-ascends (filter (has_bit n) (range_with_len 0 w)) (Ascends-filter ◌<◌ (has_bit n) (range_with_len 0 w) (Ascends-range 0 w))

as-mask : (w n : ℕ) → n < 2 ^ w → n ≡ mask_l (map (has_bit n) (range_with_len 0 w))
unfolding has_bit
as-mask w n short =
    let bits = map (λ t. bit_at n t == 1) (range_with_len 0 w) in
    let size : length bits ≡ w = length-map-range_with_len (λ t. bit_at n t == 1) 0 w in
    same_from_bits_below w n (mask_l bits) short (subst (λ (x : ℕ). mask_l bits < 2 ^ x) size (mask_l-lt bits)) same
  where
    test : (b : ℕ) → b < 2 → b ≡ cond (b == 1) 1 0
    test b few = grind arith

    same : (i : ℕ) → i < w → bit_at n i ≡ bit_at (mask_l (map (λ t. bit_at n t == 1) (range_with_len 0 w))) i
    same i low =
        let at : get_or (map (λ t. bit_at n t == 1) (range_with_len 0 w)) i false ≡ (bit_at n i == 1) = get_or-map-range_with_len (λ t. bit_at n t == 1) 0 w i i false low (omega arith) in
        test (bit_at n i) (bit_at-lt n i) ∙ sym (bit_mask_l (map (λ t. bit_at n t == 1) (range_with_len 0 w)) i ∙ ap (λ b. cond b 1 0) at)

pub length-ones : (w n : ℕ) → n < 2 ^ w → length (ones_of w n) ≡ count_ones n
unfolding ones_of
length-ones w n short =
    length-filter (has_bit n) (range_with_len 0 w)
    ∙ sym (ones-mask_l (has_bit n) (range_with_len 0 w))
    ∙ sym (ap count_ones (as-mask w n short))

-- ---- one bit

pub shifted-one : (v : ℕ) → v < 128 → 1 * 2 ^ v % 340282366920938463463374607431768211456 ≡ 2 ^ v
shifted-one v low =
    let one : 1 * 2 ^ v ≡ 2 ^ v = omega arith in
    let less : 2 ^ v < 340282366920938463463374607431768211456 = pow-lt low in
    ap (λ x. x % 340282366920938463463374607431768211456) one ∙ mod-eq_of_lt less
