-- The table of forms read as a person would write it down: a line for each family, with its sides
-- as letters of the name.
use Rattle.std.specs.Prelude.{◌≡◌, ℕ, ◌+◌, ◌*◌, true, false, List, ◌++◌, codes, Option, Some, None}
use Rattle.bx_forms.specs.declared.kind.Kind.{Kind}
use Rattle.bx_forms.specs.declared.kind.Kind.TheVariants as kind
use Rattle.bx_forms.specs.declared.side.Side.{Side}
use Rattle.bx_forms.specs.declared.side.Side.TheVariants.{Left, Right}
use Rattle.bx_forms.specs.declared.side.Sides.{Sides}
use Rattle.bx_forms.specs.declared.table.Function.{Function}
use Rattle.bx_forms.specs.declared.table.Function.TheVariants.{Given, Read, Same, Negation, And, Or, Nand, Nor, Xor, Xnor, Double, Cross}
use Rattle.bx_forms.specs.declared.table.Shape.{Shape}
use Rattle.bx_forms.specs.Forms.{form_count, form_name, shape_of}

abbrev pub neither : Sides
neither = record { left = false; right = false }

abbrev pub both : Sides
both = record { left = true; right = true }

abbrev pub only : Side → Sides
only Left = record { left = true; right = false }
only Right = record { left = false; right = true }

abbrev pub letter : Side → List ℕ
letter Left = codes "l"
letter Right = codes "r"

-- left before right
abbrev pub place : Side → ℕ
place Left = 0
place Right = 1

-- with these upper and lower sides, this node and this function
abbrev pub shape : Sides → Sides → Option Kind → Function → Shape
shape upper lower node function = record { upper = upper; lower = lower; node = node; function = function }

-- the form with this number has this name, and is of this shape
abbrev pub HasLine : ℕ → List ℕ → Shape → Type 0
HasLine form name shape = (form_name form ≡ Some name) × (shape_of form ≡ Some shape)

-- a gate of two operands, which goes on to the left or to the right
abbrev pub HasGate : ℕ → List ℕ → Kind → Function → Type 0
HasGate first name node function = (b : Side) →
    HasLine (first + place b) (name ++ codes "_" ++ letter b) (shape both (only b) (Some node) function)

pub record IsFormTable : Type 0 where
  pub count : form_count ≡ 28
  pub inputs : (b : Side) →
      HasLine (0 + place b) (codes "input_" ++ letter b) (shape neither (only b) (Some kind.Input) Given)
  pub outputs : (a : Side) →
      HasLine (2 + place a) (codes "output_" ++ letter a) (shape (only a) neither (Some kind.Output) Read)
  pub wires : (a b : Side) →
      HasLine (4 + 2 * place a + place b) (codes "wire_" ++ letter a ++ letter b)
      (shape (only a) (only b) None Same)
  pub nots : (a b : Side) →
      HasLine (8 + 2 * place a + place b) (codes "not_" ++ letter a ++ letter b)
      (shape (only a) (only b) (Some kind.Not) Negation)
  pub fans : (a : Side) →
      HasLine (12 + place a) (codes "fan_" ++ letter a) (shape (only a) both (Some kind.Fan) Same)
  pub ands : HasGate 14 (codes "and") kind.And And
  pub ors : HasGate 16 (codes "or") kind.Or Or
  pub nands : HasGate 18 (codes "nand") kind.Nand Nand
  pub nors : HasGate 20 (codes "nor") kind.Nor Nor
  pub xors : HasGate 22 (codes "xor") kind.Xor Xor
  pub xnors : HasGate 24 (codes "xnor") kind.Xnor Xnor
  pub double : HasLine 26 (codes "double") (shape both both None Double)
  pub cross : HasLine 27 (codes "cross") (shape both both None Cross)
