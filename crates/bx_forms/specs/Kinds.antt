-- The kinds of nodes: how many edges enter and leave a node, and what it gives to each that leaves.
use Rattle.std.specs.Prelude.{◌≡◌, ◌≢◌, ◌↔◌, ℕ, Bool, not, ◌&&◌, ◌||◌, IsTrue, List, [], ◌∷◌}
use Rattle.bx_logic.specs.Op.{conjunction, disjunction, parity, first_value}
use Rattle.bx_forms.specs.declared.kind.Kind.{Kind}
use Rattle.bx_forms.specs.declared.kind.Kind.TheVariants.{Input, Output, Not, Fan, And, Or, Nand, Nor, Xor, Xnor}

-- how many edges enter a node of this kind
abbrev pub operands : Kind → ℕ
operands Input = 0
operands Output = 1
operands Not = 1
operands Fan = 1
operands And = 2
operands Or = 2
operands Nand = 2
operands Nor = 2
operands Xor = 2
operands Xnor = 2

-- how many edges leave a node of this kind
abbrev pub slots : Kind → ℕ
slots Input = 1
slots Output = 0
slots Not = 1
slots Fan = 2
slots And = 1
slots Or = 1
slots Nand = 1
slots Nor = 1
slots Xor = 1
slots Xnor = 1

-- the value that a node of this kind gives to the edge that leaves it by this slot, for the values
-- that it reads, operand 0 first. An input reads one value, which is given from outside; an output
-- gives the value that it reads to the outside.
abbrev pub gives : Kind → List Bool → ℕ → Bool
gives Input reads slot = first_value reads
gives Output reads slot = first_value reads
gives Not reads slot = not (first_value reads)
gives Fan reads slot = first_value reads
gives And reads slot = conjunction reads
gives Or reads slot = disjunction reads
gives Nand reads slot = not (conjunction reads)
gives Nor reads slot = not (disjunction reads)
gives Xor reads slot = parity reads
gives Xnor reads slot = not (parity reads)

-- the same, for one value and for two
abbrev pub gives_one : Kind → Bool → ℕ → Bool
gives_one kind b slot = gives kind (b ∷ []) slot

abbrev pub gives_two : ℕ → Kind → Bool → Bool → Bool
gives_two slot kind a b = gives kind (a ∷ b ∷ []) slot

-- what six gates make of two values, each as its name says
pub record AreGates {X : Type 0} (of_two : X → Bool → Bool → Bool) (and or nand nor xor xnor : X) : Type 0 where
  pub ands : (a b : Bool) → of_two and a b ≡ (a && b)
  pub ors : (a b : Bool) → of_two or a b ≡ (a || b)
  pub nands : (a b : Bool) → of_two nand a b ≡ not (a && b)
  pub nors : (a b : Bool) → of_two nor a b ≡ not (a || b)
  pub xors : (a b : Bool) → IsTrue (of_two xor a b) ↔ (a ≢ b)
  pub xnors : (a b : Bool) → IsTrue (of_two xnor a b) ↔ (a ≡ b)
