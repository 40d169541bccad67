-- Decimal numbers at the front of bytes.
use Rattle.std.specs.Prelude.{◌≡◌, ℕ, ◌<◌, List, [], ◌∷◌, ◌++◌, ◌⊎◌, decimal, ⊤}

-- what may stand behind a number: nothing, or a byte that is no digit
abbrev pub EndsNumber : List ℕ → Type 0
EndsNumber [] = ⊤
EndsNumber (b ∷ bs) = (b < 48) ⊎ (57 < b)

-- bytes begin with the decimal digits of a number, without leading zeros, and go on with the rest
pub record IsNumberAt (bytes : List ℕ) (n : ℕ) (rest : List ℕ) : Type 0 where
  pub spelled : bytes ≡ decimal n ++ rest
  pub stops : EndsNumber rest
