-- What a reader had, and what a writer holds after a failure, where they tell it.
use Rattle.std.specs.Prelude.{◌≡◌, ℕ, List, ◌++◌, Option, IfSome}
use Rattle.std.specs.Io.KnownBytes.{Appends}

-- a front of these bytes was written
abbrev pub AppendsFront : Option (List ℕ) → Option (List ℕ) → List ℕ → Type 0
AppendsFront old new bytes = (front : List ℕ) × (rest : List ℕ) × Appends old new front × (front ++ rest ≡ bytes)

-- these are the bytes that a reader had
abbrev pub IsWhole : Option (List ℕ) → List ℕ → Type 0
IsWhole told read = IfSome told (λ bytes. read ≡ bytes)

-- these are a front of them
abbrev pub IsFront : Option (List ℕ) → List ℕ → Type 0
IsFront told read = IfSome told (λ bytes. (rest : List ℕ) × (bytes ≡ read ++ rest))
