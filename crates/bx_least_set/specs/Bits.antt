-- Sets of numbers as bits, 64 to a word.
use Rattle.std.specs.Prelude.{◌≡◌, ℕ, ◌*◌, ◌/◌, ◌%◌, ◌^◌, ◌<◌, ◌≤◌, ◌==◌, Bool, true, List, length, map, slice_index}
use Rattle.std.specs.List.{range_with_len}
use Rattle.std.specs.Int.{bit_at}

-- whether the bit of a number is set
abbrev pub has_bit : List ℕ → ℕ → Bool
has_bit words k = bit_at (slice_index words (k / 64)) (k % 64) == 1

-- the set of the numbers whose bits are set
unfoldable pub numbers_of : ℕ → List ℕ → List Bool
numbers_of bound words = map (has_bit words) (range_with_len 0 bound)

-- there is a bit for each number below the bound, and no bit from there on is set
pub record AreWords (bound : ℕ) (words : List ℕ) : Type 0 where
  pub enough : bound ≤ 64 * length words
  pub small : bound < 2 ^ 32
  pub below : (k : ℕ) → has_bit words k ≡ true → k < bound
