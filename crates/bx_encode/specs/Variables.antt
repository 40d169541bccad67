-- The variables of a ratio's formula, and their numbers: from 1 on, one block behind the other. For node v,
-- tile t, border b and edge e they say: v stands on t, t holds a node, b carries an edge, and b carries e.
use Rattle.std.specs.Prelude.{ℕ, ◌+◌, ◌*◌, ◌<◌, Bool, true, false, List, length, Contains}
use Rattle.bx_cnf.specs.Literals.{Literal}
use Rattle.bx_grid.specs.declared.ratio.Ratio.{Ratio}
use Rattle.bx_grid.specs.Tiles.{tile_count, IsTile}
use Rattle.bx_network.specs.Networks.{Network}
use Rattle.bx_encode.specs.declared.variable.Variable.{Variable}
use Rattle.bx_encode.specs.declared.variable.Variable.TheVariants.{NodeOn, Taken, Used, EdgeOn}

abbrev pub border_count : Ratio → ℕ
border_count r = 2 * tile_count r

-- the ratio has all these borders
abbrev pub HasBorders : Ratio → List ℕ → Type 0
HasBorders r bs = (b : ℕ) → Contains bs b → b < border_count r

-- the node, the edge, the tile and the border of which it speaks are there
abbrev pub IsVariable : Network → Ratio → Variable → Type 0
IsVariable N r (NodeOn v t) = (v < length N.nodes) × IsTile r t
IsVariable N r (Taken t) = IsTile r t
IsVariable N r (Used b) = b < border_count r
IsVariable N r (EdgeOn e b) = (e < length N.edges) × (b < border_count r)

-- how many numbers lie before each of the blocks
abbrev pub taken_offset : Network → Ratio → ℕ
taken_offset N r = length N.nodes * tile_count r

abbrev pub used_offset : Network → Ratio → ℕ
used_offset N r = taken_offset N r + tile_count r

abbrev pub edge_offset : Network → Ratio → ℕ
edge_offset N r = used_offset N r + border_count r

abbrev pub variable_count : Network → Ratio → ℕ
variable_count N r = edge_offset N r + length N.edges * border_count r

unfoldable pub number : Network → Ratio → Variable → ℕ
number N r (NodeOn v t) = 1 + v * tile_count r + t
number N r (Taken t) = 1 + taken_offset N r + t
number N r (Used b) = 1 + used_offset N r + b
number N r (EdgeOn e b) = 1 + edge_offset N r + e * border_count r + b

-- the variable or its negation, as a literal
abbrev pub literal_for : Network → Ratio → Bool → Variable → Literal
literal_for N r positive x = record { var = number N r x; positive = positive }

abbrev pub is : Network → Ratio → Variable → Literal
is N r x = literal_for N r true x

abbrev pub isnt : Network → Ratio → Variable → Literal
isnt N r x = literal_for N r false x
