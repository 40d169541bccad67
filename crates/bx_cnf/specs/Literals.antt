-- Literals, and what they are under values of the variables.
use Rattle.std.specs.Prelude.{◌≡◌, ℕ, suc, ◌-◌, ◌^◌, ◌<◌, Bool, true, false, not, List, ◌∷◌, ℤ, pos, negsuc, neg_ℤ, slice_index_or, decimal, refl, if◌then◌else◌}

-- a variable, numbered from 1, or its negation
pub record Literal : Type 0 where
  pub var : ℕ
  pub positive : Bool

-- the range of variables
pub record IsLiteral (l : Literal) : Type 0 where
  pub above : 0 < l.var
  pub below : l.var < 2 ^ 31

-- the literal of a signed number: its size is the variable, and a negation is below 0
abbrev pub literal_of : ℤ → Literal
literal_of (pos n) = record { var = n; positive = true }
literal_of (negsuc n) = record { var = suc n; positive = false }

-- the signed number of a literal
abbrev pub number_of : Literal → ℤ
number_of l = if l.positive then pos l.var else neg_ℤ (pos l.var)

-- a signed number and its literal give each other
pub number_of-literal_of : (z : ℤ) → number_of (literal_of z) ≡ z
number_of-literal_of (pos n) = refl
number_of-literal_of (negsuc n) = refl

-- the signed number as a text
abbrev pub literal_text : Literal → List ℕ
literal_text l = if l.positive then decimal l.var else 45 ∷ decimal l.var

abbrev pub negated : Literal → Literal
negated l = record { var = l.var; positive = not l.positive }

-- The value of a variable: bit 0 is that of variable 1. A variable without a bit is false.
abbrev pub value_of : List Bool → ℕ → Bool
value_of bits var = slice_index_or bits (var - 1) false

-- a literal is true under bits: its variable has the value that it asks for
abbrev pub IsLiteralTrue : List Bool → Literal → Type 0
IsLiteralTrue bits l = value_of bits l.var ≡ l.positive

-- a literal is false under bits: its variable has the other value
abbrev pub IsLiteralFalse : List Bool → Literal → Type 0
IsLiteralFalse bits l = value_of bits l.var ≡ not l.positive
