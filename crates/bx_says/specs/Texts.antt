-- Words and lines of what is said.
use Rattle.std.specs.Prelude.{ℕ, List, ◌∷◌, ◌++◌, ◌≢◌, flat_map}
use Rattle.std.specs.List.{AllByRecursion}

-- bytes; a name is its bytes
abbrev pub Text : Type 0
Text = List ℕ

-- a word, and further words, each behind a space
abbrev pub spaced : Text → List Text → Text
spaced first further = first ++ flat_map (λ word. 32 ∷ word) further

-- no byte is a space or a line feed
abbrev pub IsPlain : Text → Type 0
IsPlain text = AllByRecursion (λ byte. (byte ≢ 32) × (byte ≢ 10)) text
