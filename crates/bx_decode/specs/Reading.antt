-- What was read of bits so far: the tiles of the first nodes, and the edges of the first borders.
use Rattle.std.specs.Prelude.{◌≡◌, ℕ, ◌<◌, Bool, List, length, Option, Some, None, slice_index, slice_index_or}
use Rattle.bx_encode.specs.declared.variable.Variable.TheVariants.{NodeOn, EdgeOn}
use Rattle.bx_grid.specs.declared.ratio.Ratio.{Ratio}
use Rattle.bx_network.specs.Networks.{Network}
use Rattle.bx_decode.specs.Meaning.{IsSet}

-- each node stands on some tile by these bits
abbrev pub StandSomewhere : Network → Ratio → List Bool → Type 0
StandSomewhere N r bits = (v : ℕ) → v < length N.nodes → (t : ℕ) × IsSet N r bits (NodeOn v t)

-- a border carries this edge by these bits, or none
abbrev pub CarriesBy : Network → Ratio → List Bool → ℕ → Option ℕ → Type 0
CarriesBy N r bits b None = (e : ℕ) → ¬ IsSet N r bits (EdgeOn e b)
CarriesBy N r bits b (Some e) = IsSet N r bits (EdgeOn e b)

-- a tile for each of the first n nodes
pub record ArePlaces (N : Network) (r : Ratio) (bits : List Bool) (n : ℕ) (places : List ℕ) : Type 0 where
  pub whole : length places ≡ n
  pub each : (v : ℕ) → v < n → IsSet N r bits (NodeOn v (slice_index places v))

-- an edge or none for each of the first n borders
pub record AreBorders (N : Network) (r : Ratio) (bits : List Bool) (n : ℕ) (borders : List (Option ℕ)) : Type 0 where
  pub whole : length borders ≡ n
  pub each : (b : ℕ) → b < n → CarriesBy N r bits b (slice_index_or borders b None)
