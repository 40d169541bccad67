-- Paths of a network, and how long its longest ones are.
use Rattle.std.specs.Prelude.{◌≡◌, ℕ, zero, suc, ◌≤◌, List, slice_get, Some}
use Rattle.bx_forms.specs.declared.kind.Kind.TheVariants.{Input, Output}
use Rattle.bx_network.specs.declared.node.Edge.{Edge}
use Rattle.bx_network.specs.Networks.{Network, HasKind}

-- an edge leads from u to v
abbrev pub HasEdge : List Edge → ℕ → ℕ → Type 0
HasEdge edges u v = (i : ℕ) × (e : Edge) × (slice_get edges i ≡ Some e) × (e.source ≡ u) × (e.target ≡ v)

-- a path of n edges leads from u to v
abbrev pub IsPath : List Edge → ℕ → ℕ → ℕ → Type 0
IsPath edges u v zero = u ≡ v
IsPath edges u v (suc n) = (middle : ℕ) × IsPath edges u middle n × HasEdge edges middle v

-- a longest path from an input to v has d edges
pub record IsDown (N : Network) (v d : ℕ) : Type 0 where
  pub input : ℕ
  pub starts : HasKind N input Input
  pub path : IsPath N.edges input v d
  pub longest : (u n : ℕ) → HasKind N u Input → IsPath N.edges u v n → n ≤ d

-- a longest path from v to an output has d edges
pub record IsUp (N : Network) (v d : ℕ) : Type 0 where
  pub output : ℕ
  pub ends : HasKind N output Output
  pub path : IsPath N.edges v output d
  pub longest : (u n : ℕ) → HasKind N u Output → IsPath N.edges v u n → n ≤ d
