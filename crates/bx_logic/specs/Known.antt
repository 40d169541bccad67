-- What is known of the values of a net's nets while they are evaluated.
use Rattle.std.specs.Prelude.{◌≡◌, ℕ, Bool, false, List, [], ◌∷◌, Option, None, IsSome, is_some, unwrap_or, if◌then◌else◌, slice_index_or}
use Rattle.bx_logic.specs.declared.driver.Driver.{Driver}
use Rattle.bx_logic.specs.declared.eval.Frame.{Frame}
use Rattle.bx_logic.specs.Values.{value_of, IsNetValuation}

-- what is known of a net's value
abbrev pub known_at : List (Option Bool) → ℕ → Option Bool
known_at known n = slice_index_or known n None

abbrev pub IsKnown : List (Option Bool) → ℕ → Type 0
IsKnown known n = IsSome (known_at known n)

-- the value of a net that is known
abbrev pub known_value : List (Option Bool) → ℕ → Bool
known_value known n = unwrap_or (known_at known n) false

-- what is known is what any valuation gives
abbrev pub IsRight : List Driver → List Bool → List (Option Bool) → Type 0
IsRight drivers bits known =
    (values : List Bool) → IsNetValuation drivers bits values → (n : ℕ) → IsKnown known n → known_value known n ≡ value_of values n

-- what is known stays known
abbrev pub KeepsKnown : List (Option Bool) → List (Option Bool) → Type 0
KeepsKnown before after = (n : ℕ) → IsKnown before n → IsKnown after n

-- a frame for a net that is not known yet
abbrev pub frame_for : List (Option Bool) → ℕ → List Frame
frame_for known n = if is_some (known_at known n) then [] else record { net = n; next = 0 } ∷ []
