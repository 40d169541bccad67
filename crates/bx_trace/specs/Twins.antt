-- Layouts that differ in no more than which of two edges between the same two nodes a border carries.
use Rattle.std.specs.Prelude.{◌≡◌, ℕ, ◌⊎◌, Some, slice_get}
use Rattle.bx_network.specs.declared.node.Edge.{Edge}
use Rattle.bx_network.specs.Networks.{Network}
use Rattle.bx_layout.specs.declared.layout.Layout.{Layout}
use Rattle.bx_layout.specs.Layouts.{edge_on}

-- both lead from one node to one other
pub record AreTwins (N : Network) (e f : ℕ) : Type 0 where
  pub one : Edge
  pub other : Edge
  pub is_one : slice_get N.edges e ≡ Some one
  pub is_other : slice_get N.edges f ≡ Some other
  pub source : one.source ≡ other.source
  pub target : one.target ≡ other.target

-- each border carries the same edge in both, or none, or in each one of two twins
abbrev pub DifferByTwins : Network → Layout → Layout → Type 0
DifferByTwins N L M =
    (b : ℕ) → (edge_on L b ≡ edge_on M b)
    ⊎ ((e : ℕ) × (f : ℕ) × (edge_on L b ≡ Some e) × (edge_on M b ≡ Some f) × AreTwins N e f)
