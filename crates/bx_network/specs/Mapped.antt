-- What a mapped network keeps beside its nodes and edges: the lengths of longest paths, and where edges are
-- found.
use Rattle.std.specs.Prelude.{◌≡◌, ℕ, ◌+◌, ◌*◌, ◌<◌, List, length, max, slice_index, slice_set}
use Rattle.bx_forms.specs.declared.kind.Kind.{Kind}
use Rattle.bx_forms.specs.Kinds.{operands, slots}
use Rattle.bx_network.specs.Networks.{Network, IsNetwork, HasKind}
use Rattle.bx_network.specs.Values.{edge_into, edge_out}
use Rattle.bx_network.specs.Paths.{IsDown, IsUp}

-- the lengths once an edge counts that leads from one place to another: there it is at least one more
abbrev pub with_edge : List ℕ → ℕ → ℕ → List ℕ
with_edge lengths from to = slice_set lengths to (max (slice_index lengths to) (slice_index lengths from + 1))

-- for each node the length of a longest path from an input to it
pub record AreDowns (N : Network) (lengths : List ℕ) : Type 0 where
  pub all : length lengths ≡ length N.nodes
  pub each : (v : ℕ) → v < length N.nodes → IsDown N v (slice_index lengths v)

-- for each node the length of a longest path from it to an output
pub record AreUps (N : Network) (lengths : List ℕ) : Type 0 where
  pub all : length lengths ≡ length N.nodes
  pub each : (v : ℕ) → v < length N.nodes → IsUp N v (slice_index lengths v)

-- for each slot and each operand of a node the number of the edge there
pub record AreEnds (N : Network) (outs ins : List ℕ) : Type 0 where
  pub all_outs : length outs ≡ 2 * length N.nodes
  pub all_ins : length ins ≡ 2 * length N.nodes
  pub out : (v : ℕ) (kind : Kind) → HasKind N v kind → (slot : ℕ) → slot < slots kind → slice_index outs (2 * v + slot) ≡ edge_out N.edges v slot
  pub into : (v : ℕ) (kind : Kind) → HasKind N v kind → (operand : ℕ) → operand < operands kind → slice_index ins (2 * v + operand) ≡ edge_into N.edges v operand

pub record IsMapped (N : Network) (downs ups outs ins : List ℕ) : Type 0 where
  pub network : IsNetwork N
  pub are_downs : AreDowns N downs
  pub are_ups : AreUps N ups
  pub are_ends : AreEnds N outs ins
