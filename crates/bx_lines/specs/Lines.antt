-- Texts that are made of lines, and the first line at which bytes stop being one of them.
use Rattle.std.specs.Prelude.{◌≡◌, ℕ, zero, suc, ◌<◌, List, [], ◌∷◌, ◌++◌, Contains, ◌==◌, if◌then◌else◌}
use Rattle.std.specs.List.{flat_map}

-- a line without its end: there is no line feed in it
abbrev pub IsLine : List ℕ → Type 0
IsLine line = Contains line 10 → ⊥

-- a line with its end, a line feed
abbrev pub ended : List ℕ → List ℕ
ended line = line ++ 10 ∷ []

-- lines, each with its end
abbrev pub text_of : List (List ℕ) → List ℕ
text_of lines = flat_map ended lines

-- the first k lines of bytes, with their ends; the last line may have none
abbrev pub first_lines : ℕ → List ℕ → List ℕ
first_lines zero bytes = []
first_lines (suc k) [] = []
first_lines (suc k) (b ∷ bs) = if b == 10 then b ∷ first_lines k bs else b ∷ first_lines (suc k) bs

-- the first k lines of the bytes are the first k lines of a text
abbrev pub BeginsText : (List ℕ → Type 0) → ℕ → List ℕ → Type 0
BeginsText IsText k bytes = (text : List ℕ) × IsText text × (first_lines k bytes ≡ first_lines k text)

-- k is the least number such that the first k lines of the bytes aren't the first k lines of any text:
-- a last line without its end is bad, a line that is missing counts as one, and so do bytes behind the last
pub record IsFirstBadLine (IsText : List ℕ → Type 0) (bytes : List ℕ) (k : ℕ) : Type 0 where
  pub bad : BeginsText IsText k bytes → ⊥
  pub before : (j : ℕ) → j < k → BeginsText IsText j bytes
