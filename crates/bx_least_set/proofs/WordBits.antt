-- Sets of numbers as bits: what a write of one word makes of the set, and the least number of a word.
use Rattle.std.proofs.Common.{◌≡◌, ◌≢◌, ℕ, ◌+◌, ◌*◌, ◌/◌, ◌%◌, ◌^◌, ◌<◌, ◌≤◌, Bool, true, false, eqb, List, bit_and, length, get_or, set, map, replicate, length-set, refl, sym, ◌∙◌, ap, inl, inr, ◌⊎◌, arith, w64, zero-add}
use Rattle.std.proofs.lemmas.Bool.{cases_eq, cases_lt, eqb-false, false_from_ne_true}
use Rattle.std.proofs.lemmas.List.{get_or-set_same, get_or-set_other, get_or_past, get_or-replicate, length-replicate}
use Rattle.std.proofs.lemmas.List.FromFn.{length-map-range_with_len, get_or-map-range_with_len}
use Rattle.std.proofs.lemmas.Nat.Bits.{bit_at-zero, bit_at-trailing_zeros}
use Rattle.std.proofs.lemmas.Nat.{and_le_l}
use Rattle.std.specs.Int.{bit_at, trailing_zeros}
use Rattle.bx_least_set.specs.Numbers.{has, IsNew, IsLeast, IsNone, Inserts, Removes, IsInBlock, IsBlockFree, IsLeastOfBlock, Grows}
use Rattle.bx_least_set.specs.Bits.{has_bit, numbers_of, AreWords}

pub length-numbers_of : (bound : ℕ) (words : List ℕ) → length (numbers_of bound words) ≡ bound
unfolding numbers_of
length-numbers_of bound words = length-map-range_with_len (has_bit words) 0 bound

pub has-numbers_of : (bound : ℕ) (words : List ℕ) (k : ℕ) → AreWords bound words → has (numbers_of bound words) k ≡ has_bit words k
unfolding numbers_of
has-numbers_of bound words k are = elim (cases_lt k bound) [
  | inl below ↦ get_or-map-range_with_len (has_bit words) 0 bound k k false below (zero-add k)
  | inr past ↦ get_or_past (map (has_bit words) _) k false (omega (arith, length-numbers_of bound words)) ∙ sym (false_from_ne_true (has_bit words k) (λ t. absurd (omega (arith, past, are.below k t))))
]

-- the bits of a word, but for one
abbrev pub HasOthers : ℕ → ℕ → ℕ → Type 0
HasOthers old new n = (i : ℕ) → i < 64 → i ≢ n % 64 → bit_at new i ≡ bit_at old i

other-bit : (words : List ℕ) (n k w : ℕ) → k ≢ n → n / 64 < length words → HasOthers (get_or words (n / 64) 0) w n → has_bit (set words (n / 64) w) k ≡ has_bit words k
other-bit words n k w differ within same = elim (cases_eq (k / 64) (n / 64)) [
  | inl e ↦
      let apart : k % 64 ≢ n % 64 = λ h. differ (omega (arith, e, h)) in
      ap (λ x. eqb (bit_at x (k % 64)) 1) (ap (λ j. get_or (set words (n / 64) w) j 0) e ∙ get_or-set_same words (n / 64) w 0 within)
      ∙ (ap (λ b. eqb b 1) (same (k % 64) (omega arith) apart) ∙ ap (λ j. eqb (bit_at (get_or words j 0) (k % 64)) 1) (sym e))
  | inr d ↦ ap (λ x. eqb (bit_at x (k % 64)) 1) (get_or-set_other words (n / 64) (k / 64) w 0 d)
]

this-bit : (words : List ℕ) (n w b : ℕ) → n / 64 < length words → bit_at w (n % 64) ≡ b → has_bit (set words (n / 64) w) n ≡ eqb b 1
this-bit words n w b within is = ap (λ x. eqb (bit_at x (n % 64)) 1) (get_or-set_same words (n / 64) w 0 within) ∙ ap (λ x. eqb x 1) is

pub within-words : (bound : ℕ) (words : List ℕ) (n : ℕ) → AreWords bound words → n < bound → n / 64 < length words
within-words bound words n are below = omega (arith, are.enough, below)

pub AreWords-set : (bound : ℕ) (words : List ℕ) (n w : ℕ) → AreWords bound words → n < bound → HasOthers (get_or words (n / 64) 0) w n → AreWords bound (set words (n / 64) w)
AreWords-set bound words n w are below same = record {
  enough = omega (arith, are.enough, length-set words (n / 64) w);
  small = are.small;
  below = λ k t. elim (cases_eq k n) [
    | inl e ↦ omega (arith, e, below)
    | inr d ↦ are.below k (sym (other-bit words n k w d (within-words bound words n are below) same) ∙ t)
  ];
}

pub Inserts-set : (bound : ℕ) (words : List ℕ) (n w : ℕ) → AreWords bound words → n < bound → HasOthers (get_or words (n / 64) 0) w n → bit_at w (n % 64) ≡ 1
    → Inserts (numbers_of bound words) (numbers_of bound (set words (n / 64) w)) n
Inserts-set bound words n w are below same is =
    let within = within-words bound words n are below in
    let after = AreWords-set bound words n w are below same in
    record {
      bound_stays = length-numbers_of bound (set words (n / 64) w) ∙ sym (length-numbers_of bound words);
      there = has-numbers_of bound (set words (n / 64) w) n after ∙ this-bit words n w 1 within is;
      others = λ k d. has-numbers_of bound (set words (n / 64) w) k after ∙ (other-bit words n k w d within same ∙ sym (has-numbers_of bound words k are));
    }

pub Removes-set : (bound : ℕ) (words : List ℕ) (n w : ℕ) → AreWords bound words → n < bound → HasOthers (get_or words (n / 64) 0) w n → bit_at w (n % 64) ≡ 0
    → Removes (numbers_of bound words) (numbers_of bound (set words (n / 64) w)) n
Removes-set bound words n w are below same is =
    let within = within-words bound words n are below in
    let after = AreWords-set bound words n w are below same in
    record {
      bound_stays = length-numbers_of bound (set words (n / 64) w) ∙ sym (length-numbers_of bound words);
      gone = has-numbers_of bound (set words (n / 64) w) n after ∙ this-bit words n w 0 within is;
      others = λ k d. has-numbers_of bound (set words (n / 64) w) k after ∙ (other-bit words n k w d within same ∙ sym (has-numbers_of bound words k are));
    }

-- a word of no bit has no number
pub IsBlockFree-zero : (bound : ℕ) (words : List ℕ) (block : ℕ) → AreWords bound words → get_or words block 0 ≡ 0 → IsBlockFree (numbers_of bound words) block
IsBlockFree-zero bound words block are free k in_block =
    has-numbers_of bound words k are
    ∙ ap (λ x. eqb (bit_at x (k % 64)) 1) (ap (λ j. get_or words j 0) in_block ∙ free)
    ∙ ap (λ b. eqb b 1) (bit_at-zero (k % 64))

place-block : (block i : ℕ) → i < 64 → (block * 64 + i) / 64 ≡ block
place-block block i small = omega (arith, small)

place-bit : (block i : ℕ) → i < 64 → (block * 64 + i) % 64 ≡ i
place-bit block i small = omega (arith, small)

has-place : (words : List ℕ) (block i : ℕ) → i < 64 → has_bit words (block * 64 + i) ≡ eqb (bit_at (get_or words block 0) i) 1
has-place words block i small =
    ap (λ j. eqb (bit_at (get_or words j 0) ((block * 64 + i) % 64)) 1) (place-block block i small)
    ∙ ap (λ b. eqb (bit_at (get_or words block 0) b) 1) (place-bit block i small)

-- the lowest bit of a word is the least number of its block
pub IsLeastOfBlock-lowest : (bound : ℕ) (words : List ℕ) (block : ℕ) → AreWords bound words → 0 < get_or words block 0 → get_or words block 0 < 2 ^ 64
    → IsLeastOfBlock (numbers_of bound words) block (block * 64 + trailing_zeros w64 (get_or words block 0))
IsLeastOfBlock-lowest bound words block are some fits =
    let w = get_or words block 0 in
    let (small, is, before) = bit_at-trailing_zeros w64 w some fits in
    let i = trailing_zeros w64 w in
    record {
      in_block = place-block block i small;
      there = has-numbers_of bound words (block * 64 + i) are ∙ (has-place words block i small ∙ ap (λ b. eqb b 1) is);
      none_before = λ k in_block below.
          let earlier : k % 64 < i = omega (arith, in_block, below) in
          has-numbers_of bound words k are
          ∙ (ap (λ j. eqb (bit_at (get_or words j 0) (k % 64)) 1) in_block ∙ ap (λ b. eqb b 1) (before (k % 64) earlier));
    }

pub IsInBlock-some : (bound : ℕ) (words : List ℕ) (block : ℕ) → AreWords bound words → 0 < get_or words block 0 → get_or words block 0 < 2 ^ 64 → IsInBlock (numbers_of bound words) block
IsInBlock-some bound words block are some fits =
    let least = IsLeastOfBlock-lowest bound words block are some fits in
    (block * 64 + trailing_zeros w64 (get_or words block 0), least.in_block, least.there)

-- a block with a number has a word, with a bit
pub some-IsInBlock : (bound : ℕ) (words : List ℕ) (block : ℕ) → AreWords bound words → IsInBlock (numbers_of bound words) block
    → (block < length words) × (0 < get_or words block 0) × (block * 64 < bound)
some-IsInBlock bound words block are (k, in_block, there) =
    let set_bit : has_bit words k ≡ true = sym (has-numbers_of bound words k are) ∙ there in
    let below : k < bound = are.below k set_bit in
    (omega (arith, in_block, below, are.enough), positive (cases_eq (get_or words block 0) 0), omega (arith, in_block, below)) where
      positive : (get_or words block 0 ≡ 0) ⊎ (get_or words block 0 ≢ 0) → 0 < get_or words block 0
      positive (inl free) = absurd (true_false (sym there ∙ IsBlockFree-zero bound words block are free k in_block)) where
        true_false : true ≡ false → ⊥
        true_false e = cc
      positive (inr some) = omega (arith, some)

pub Grows-words : (bound : ℕ) (old new : List ℕ) → AreWords bound old → AreWords (bound + 1) new → ((k : ℕ) → has_bit new k ≡ has_bit old k) → Grows (numbers_of bound old) (numbers_of (bound + 1) new)
Grows-words bound old new are after same = record {
  bound_is = length-numbers_of (bound + 1) new ∙ ap (λ n. n + 1) (sym (length-numbers_of bound old));
  same = λ k. has-numbers_of (bound + 1) new k after ∙ (same k ∙ sym (has-numbers_of bound old k are));
}

has-below : (s : List Bool) (k : ℕ) → has s k ≡ true → k < length s
has-below s k there = elim (cases_lt k (length s)) [
  | inl below ↦ below
  | inr past ↦ absurd (false_true (sym (get_or_past s k false past) ∙ there))
] where
  false_true : false ≡ true → ⊥
  false_true e = cc

-- behind words of no bit, the least number of a block is that of the set
pub IsLeast-first : (bound : ℕ) (words : List ℕ) (block n : ℕ) → AreWords bound words → ((j : ℕ) → j < block → get_or words j 0 ≡ 0)
    → IsLeastOfBlock (numbers_of bound words) block n → IsLeast (numbers_of bound words) n
IsLeast-first bound words block n are zeros least = record {
  below = has-below (numbers_of bound words) n least.there;
  there = least.there;
  none_before = λ k before. elim (cases_eq (k / 64) block) [
    | inl here ↦ least.none_before k here before
    | inr other ↦
        let earlier : k / 64 < block = omega (arith, before, least.in_block, other) in
        IsBlockFree-zero bound words (k / 64) are (zeros (k / 64) earlier) k refl
  ];
}

-- where no word has a bit there is no number
pub IsNone-zeros : (bound : ℕ) (words : List ℕ) → AreWords bound words → ((j : ℕ) → j < length words → get_or words j 0 ≡ 0) → IsNone (numbers_of bound words)
IsNone-zeros bound words are zeros k = IsBlockFree-zero bound words (k / 64) are
    (elim (cases_lt (k / 64) (length words)) [ inl within ↦ zeros (k / 64) within | inr past ↦ get_or_past words (k / 64) 0 past ]) k refl

pub IsNew-zeros : (bound n : ℕ) (words : List ℕ) → AreWords bound words → words ≡ replicate {A = ℕ} n 0 → IsNew bound (numbers_of bound words)
IsNew-zeros bound n words are zeros = record {
  bound_is = length-numbers_of bound words;
  none = IsNone-zeros bound words are (λ j within. ap (λ ws. get_or ws j 0) zeros ∙ at j (cases_lt j n));
} where
  at : (j : ℕ) → (j < n) ⊎ (n ≤ j) → get_or (replicate {A = ℕ} n 0) j 0 ≡ 0
  at j (inl within) = get_or-replicate n j 0 0 within
  at j (inr past) = get_or_past (replicate {A = ℕ} n 0) j 0 (omega (arith, length-replicate {A = ℕ} n 0, past))

pub AreWords-zeros : (bound : ℕ) (words : List ℕ) → bound < 2 ^ 32 → words ≡ replicate {A = ℕ} (bound / 64 + 1) 0 → AreWords bound words
AreWords-zeros bound words small zeros = record {
  enough = omega (arith, ap length zeros, length-replicate {A = ℕ} (bound / 64 + 1) 0);
  small = small;
  below = λ k t. absurd (false_true (sym (at k (cases_lt (k / 64) (bound / 64 + 1))) ∙ t));
} where
  false_true : false ≡ true → ⊥
  false_true e = cc

  at : (k : ℕ) → (k / 64 < bound / 64 + 1) ⊎ (bound / 64 + 1 ≤ k / 64) → has_bit words k ≡ false
  at k (inl within) = ap (λ ws. eqb (bit_at (get_or ws (k / 64) 0) (k % 64)) 1) zeros ∙ (ap (λ w. eqb (bit_at w (k % 64)) 1) (get_or-replicate (bound / 64 + 1) (k / 64) 0 0 within) ∙ ap (λ b. eqb b 1) (bit_at-zero (k % 64)))
  at k (inr past) = ap (λ w. eqb (bit_at w (k % 64)) 1) (get_or_past words (k / 64) 0 (omega (arith, ap length zeros, length-replicate {A = ℕ} (bound / 64 + 1) 0, past))) ∙ ap (λ b. eqb b 1) (bit_at-zero (k % 64))

pub positive : (x : ℕ) → eqb x 0 ≡ false → 0 < x
positive x differs = omega (arith, eqb-false x 0 differs)

pub and_small : (w m : ℕ) → w < 2 ^ 64 → bit_and w m < 2 ^ 64
and_small w m small = omega (arith, and_le_l w m, small)

pub has-fits : (bound : ℕ) (words : List ℕ) (k : ℕ) → AreWords bound words → has (numbers_of bound words) k ≡ true → k < 2 ^ 32
has-fits bound words k are there = omega (arith, are.small, are.below k (sym (has-numbers_of bound words k are) ∙ there))

pub AreWords-more : (bound : ℕ) (old new : List ℕ) → AreWords bound old → bound + 1 < 2 ^ 32 → bound < 64 * length new → ((k : ℕ) → has_bit new k ≡ has_bit old k) → AreWords (bound + 1) new
AreWords-more bound old new are small room same = record {
  enough = omega (arith, room);
  small = small;
  below = λ k t. omega (arith, are.below k (sym (same k) ∙ t));
}
