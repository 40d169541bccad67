-- What an operation gives for the values of its arguments. A net's gate has at least one.
use Rattle.std.specs.Prelude.{Bool, true, false, not, ◌&&◌, ◌||◌, if◌then◌else◌, List, [], ◌∷◌}
use Rattle.bx_logic.specs.declared.op.Op.{Op}
use Rattle.bx_logic.specs.declared.op.Op.TheVariants.{Buf, Not, And, Or, Nand, Nor, Xor, Xnor}

-- every value is 1
abbrev pub conjunction : List Bool → Bool
conjunction [] = true
conjunction (b ∷ bs) = b && conjunction bs

-- some value is 1
abbrev pub disjunction : List Bool → Bool
disjunction [] = false
disjunction (b ∷ bs) = b || disjunction bs

-- an odd number of the values are 1
abbrev pub parity : List Bool → Bool
parity [] = false
parity (b ∷ bs) = if b then not (parity bs) else parity bs

-- the only argument of `Buf` and `Not`
abbrev pub first_value : List Bool → Bool
first_value [] = false
first_value (b ∷ bs) = b

abbrev pub op_value : Op → List Bool → Bool
op_value Buf bs = first_value bs
op_value Not bs = not (first_value bs)
op_value And bs = conjunction bs
op_value Or bs = disjunction bs
op_value Nand bs = not (conjunction bs)
op_value Nor bs = not (disjunction bs)
op_value Xor bs = parity bs
op_value Xnor bs = not (parity bs)
