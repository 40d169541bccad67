-- Sets of numbers below a bound, and what calls make of them.
use Rattle.std.specs.Prelude.{◌≡◌, ◌≢◌, ℕ, ◌+◌, ◌/◌, ◌<◌, Bool, true, false, List, length, slice_index_or}

-- A set is a mark for each number below its bound: whether this number is in it.
abbrev pub has : List Bool → ℕ → Bool
has s k = slice_index_or s k false

-- no number is in the set
abbrev pub IsNone : List Bool → Type 0
IsNone s = (k : ℕ) → has s k ≡ false

-- the set of no number, for numbers below a bound
pub record IsNew (bound : ℕ) (s : List Bool) : Type 0 where
  pub bound_is : length s ≡ bound
  pub none : IsNone s

-- one number was put in
pub record Inserts (old new : List Bool) (number : ℕ) : Type 0 where
  pub bound_stays : length new ≡ length old
  pub there : has new number ≡ true
  pub others : (k : ℕ) → k ≢ number → has new k ≡ has old k

-- one number was taken out
pub record Removes (old new : List Bool) (number : ℕ) : Type 0 where
  pub bound_stays : length new ≡ length old
  pub gone : has new number ≡ false
  pub others : (k : ℕ) → k ≢ number → has new k ≡ has old k

-- numbers below one more may be put in, and the set is the same
pub record Grows (old new : List Bool) : Type 0 where
  pub bound_is : length new ≡ length old + 1
  pub same : (k : ℕ) → has new k ≡ has old k

-- the least number of the set
pub record IsLeast (s : List Bool) (number : ℕ) : Type 0 where
  pub below : number < length s
  pub there : has s number ≡ true
  pub none_before : (k : ℕ) → k < number → has s k ≡ false

-- the numbers of a set fall into blocks of 64, from 0 on: some number of this block is in the set
abbrev pub IsInBlock : List Bool → ℕ → Type 0
IsInBlock s block = (k : ℕ) × (k / 64 ≡ block) × (has s k ≡ true)

-- no number of this block is in the set
abbrev pub IsBlockFree : List Bool → ℕ → Type 0
IsBlockFree s block = (k : ℕ) → k / 64 ≡ block → has s k ≡ false

-- the least number of its block that is in the set
pub record IsLeastOfBlock (s : List Bool) (block number : ℕ) : Type 0 where
  pub in_block : number / 64 ≡ block
  pub there : has s number ≡ true
  pub none_before : (k : ℕ) → k / 64 ≡ block → k < number → has s k ≡ false

-- the upper set has exactly the blocks of which the lower one has a number
pub record IsSummary (lower upper : List Bool) : Type 0 where
  pub covers : (k : ℕ) → k < length lower → k / 64 < length upper
  pub forth : (k : ℕ) → has lower k ≡ true → has upper (k / 64) ≡ true
  pub back : (block : ℕ) → has upper block ≡ true → IsInBlock lower block
