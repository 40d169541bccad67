-- How large a formula may be, and what it is to add clauses to one.
use Rattle.std.specs.Prelude.{◌≡◌, ℕ, ◌≤◌, ◌*◌, List, ◌++◌, length}
use Rattle.bx_cnf.specs.Formulas.{Formula}
use Rattle.bx_grid.specs.declared.ratio.Ratio.{Ratio}
use Rattle.bx_grid.specs.Tiles.{tile_count, IsGrid, IsTile}
use Rattle.bx_network.specs.Networks.{Network, IsNetwork}
use Rattle.bx_encode.specs.declared.around.Around.{Around}
use Rattle.bx_encode.specs.declared.numbers.TheConstants.{MOST_NODES, MOST_AREA}
use Rattle.bx_encode.specs.Families.{Clause, entries}

-- a network and a ratio that aren't too large
pub record IsFrame (N : Network) (r : Ratio) : Type 0 where
  pub network : IsNetwork N
  pub grid : IsGrid r
  pub few_nodes : length N.nodes ≤ MOST_NODES
  pub few_tiles : tile_count r ≤ MOST_AREA
  pub few_edges : length N.edges ≤ 2 * MOST_NODES

-- more than the fourteen families come to at the most nodes and the most tiles
abbrev pub most_clauses : ℕ
most_clauses = 20000000

-- these clauses stand behind those that stood before
pub record Adds (before after : Formula) (clauses : List Clause) : Type 0 where
  pub vars : after.vars ≡ before.vars
  pub behind : after.clauses ≡ before.clauses ++ clauses

-- what is known of a tile: the borders by which something can enter it
pub record IsAround (N : Network) (r : Ratio) (around : Around) : Type 0 where
  pub tile : IsTile r around.tile
  pub are : around.entries.items ≡ entries N r around.tile
