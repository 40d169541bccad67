-- A small formula that the laws count: an input that leads to an output, on one column and two rows.
use Rattle.std.specs.Prelude.{ℕ, not, ◌==◌, ◌&&◌, [], ◌∷◌, length}
use Rattle.bx_forms.specs.declared.kind.Kind.TheVariants.{Input, Output}
use Rattle.bx_grid.specs.declared.ratio.Ratio.{Ratio}
use Rattle.bx_layout.specs.Permits.{PermitTest}
use Rattle.bx_network.specs.Examples.{node, edge}
use Rattle.bx_network.specs.Networks.{Network}
use Rattle.bx_encode.specs.Formula.{formula}

abbrev pub passing : Network
passing = record { nodes = node Input ∷ node Output ∷ []; edges = edge 0 0 1 0 ∷ [] }

abbrev pub two_rows : Ratio
two_rows = record { w = 1; h = 2 }

-- the permits of all forms but one, and of all but two
abbrev pub all_but : ℕ → PermitTest
all_but one ratio t form = not (form == one)

abbrev pub all_but_two : ℕ → ℕ → PermitTest
all_but_two one other ratio t form = not (form == one) && not (form == other)

abbrev pub clause_count : PermitTest → ℕ
clause_count permit = length (formula passing permit two_rows).clauses
