-- True bits, and the layout that bits mean.
use Rattle.std.specs.Prelude.{◌≡◌, ◌↔◌, ℕ, Bool, true, List, length, Some}
use Rattle.bx_cnf.specs.Formulas.{AllTrue}
use Rattle.bx_cnf.specs.Literals.{value_of}
use Rattle.bx_encode.specs.Formula.{formula}
use Rattle.bx_encode.specs.Variables.{IsVariable, border_count, number}
use Rattle.bx_encode.specs.declared.variable.Variable.{Variable}
use Rattle.bx_encode.specs.declared.variable.Variable.TheVariants.{NodeOn, EdgeOn}
use Rattle.bx_grid.specs.declared.ratio.Ratio.{Ratio}
use Rattle.bx_layout.specs.declared.layout.Layout.{Layout}
use Rattle.bx_layout.specs.Layouts.{Stands, edge_on}
use Rattle.bx_layout.specs.Permits.{PermitTest}
use Rattle.bx_network.specs.Networks.{Network}

-- true bits of a ratio's formula: in each of its clauses some literal is true under them
abbrev pub AreTrue : Network → PermitTest → Ratio → List Bool → Type 0
AreTrue N permit r bits = AllTrue bits (formula N permit r).clauses

-- the variable is one of the formula's, and its bit is true
abbrev pub IsSet : Network → Ratio → List Bool → Variable → Type 0
IsSet N r bits x = IsVariable N r x × (value_of bits (number N r x) ≡ true)

-- Bits mean this layout of the ratio: each node has one tile and each border one edge or none; a node stands on
-- a tile exactly where the bit of that is true, and a border carries an edge exactly where the bit of that is
-- true. What the bits say of taken tiles and of used borders means nothing.
pub record Means (N : Network) (r : Ratio) (bits : List Bool) (L : Layout) : Type 0 where
  pub ratio : L.ratio ≡ r
  pub places : length L.places ≡ length N.nodes
  pub borders : length L.borders ≡ border_count r
  pub stands : (v t : ℕ) → Stands L v t ↔ IsSet N r bits (NodeOn v t)
  pub carries : (e b : ℕ) → (edge_on L b ≡ Some e) ↔ IsSet N r bits (EdgeOn e b)
