-- Relations of nodes as rows of bits, one row for each of 128 nodes.
use Rattle.std.specs.Prelude.{◌≡◌, ◌↔◌, ℕ, ◌<◌, List, length, slice_index, slice_get, Some, bit_and, bit_or}
use Rattle.std.specs.Int.{bit_at}
use Rattle.bx_network.specs.declared.node.Edge.{Edge}
use Rattle.bx_bounds.specs.Ancestors.{IsAncestor, IsAtOrAbove}

-- the number has this bit
abbrev pub HasBit : ℕ → ℕ → Type 0
HasBit bits t = bit_at bits t ≡ 1

-- row u has the bits of those nodes to which u stands in this relation
pub record AreRowsOf (R : ℕ → ℕ → Type 0) (rows : List ℕ) : Type 0 where
  pub all : length rows ≡ 128
  pub each : (u t : ℕ) → u < 128 → t < 128 → HasBit (slice_index rows u) t ↔ R u t

-- an edge leads from u to t, and enters it by this operand
abbrev pub Enters : List Edge → ℕ → ℕ → ℕ → Type 0
Enters edges operand u t =
    (e : ℕ) × (edge : Edge) × (slice_get edges e ≡ Some edge) × (edge.source ≡ u) ×
    (edge.target ≡ t) × (edge.operand ≡ operand)

-- an edge from u, or from an ancestor of it, enters t by this operand
abbrev pub EntersFromAbove : List Edge → ℕ → ℕ → ℕ → Type 0
EntersFromAbove edges operand u t = (x : ℕ) × IsAtOrAbove edges x u × Enters edges operand x t

-- the rows by which edges are counted: the descendants, and what is entered by each operand
pub record ArePassing (edges : List Edge) (below first second : List ℕ) : Type 0 where
  pub descendants : AreRowsOf (IsAncestor edges) below
  pub by_first : AreRowsOf (EntersFromAbove edges 0) first
  pub by_second : AreRowsOf (EntersFromAbove edges 1) second

-- of the nodes that are entered from u, v or above, those that are below both
abbrev pub passing_bits : List ℕ → List ℕ → ℕ → ℕ → ℕ
passing_bits below entered u v =
    bit_and (bit_or (slice_index entered u) (slice_index entered v))
    (bit_and (slice_index below u) (slice_index below v))
