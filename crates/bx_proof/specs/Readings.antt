-- What the reader of a line finds at the front of bytes.
use Rattle.std.specs.Prelude.{◌≡◌, ℕ, ◌^◌, ◌<◌, false, List, ◌∷◌, ◌++◌}
use Rattle.bx_cnf.specs.Literals.{Literal, literal_text}
use Rattle.bx_lines.specs.Decimals.{EndsNumber}
use Rattle.bx_proof.specs.Steps.{Step, IsStep}
use Rattle.bx_proof.specs.Texts.{list_text, step_line}

-- the size of a signed number, and whether it is positive; 0 is
pub record IsSigned (l : Literal) : Type 0 where
  pub small : l.var < 2 ^ 31
  pub negative : l.positive ≡ false → 0 < l.var

-- bytes begin with a signed number
pub record IsSignedAt (bytes : List ℕ) (l : Literal) (rest : List ℕ) : Type 0 where
  pub spelled : bytes ≡ literal_text l ++ rest
  pub stops : EndsNumber rest

-- bytes begin with numbers, each behind a space, and the 0 that ends them
pub record IsClosedAt {X : Type 0} (text : X → List ℕ) (bytes : List ℕ) (xs : List X) (rest : List ℕ) : Type 0 where
  pub spelled : bytes ≡ list_text text xs ++ rest
  pub stops : EndsNumber rest

-- a hint of some step
abbrev pub IsHint : ℕ → Type 0
IsHint h = (0 < h) × (h < 2 ^ 32)

-- bytes begin with the line of a step of this id, and its end
pub record IsStepAt (bytes : List ℕ) (id : ℕ) (s : Step) (rest : List ℕ) : Type 0 where
  pub step : IsStep id s
  pub spelled : bytes ≡ step_line id s ++ 10 ∷ rest
