-- A net that the laws speak of.
use Rattle.std.specs.Prelude.{ℕ, List, [], ◌∷◌, codes}
use Rattle.bx_logic.specs.declared.op.Op.TheVariants.{Buf, Not, And}
use Rattle.bx_logic.specs.declared.driver.Driver.TheVariants.{Input, Gate}
use Rattle.bx_logic.specs.Nets.{Netlist, netlist}

-- the net of a module m(a, b, y, z, w) with inputs a and b, in which n is the conjunction of both, y and z
-- are n, and w is its inverse: net 5 is n
abbrev pub read_by_three : Netlist
read_by_three =
    netlist (codes "m") (codes "a" ∷ codes "b" ∷ []) ((codes "y", 2) ∷ (codes "z", 3) ∷ (codes "w", 4) ∷ [])
    (Input 0 ∷ Input 1 ∷ Gate Buf (5 ∷ []) ∷ Gate Buf (5 ∷ []) ∷ Gate Not (5 ∷ []) ∷ Gate And (0 ∷ 1 ∷ []) ∷ [])
