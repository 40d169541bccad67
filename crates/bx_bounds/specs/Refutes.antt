-- The inequality of each count proof: when it refutes a ratio. By lengths of longest paths and by
-- ancestors alone.
use Rattle.std.specs.Prelude.{◌≡◌, ℕ, ◌+◌, ◌-◌, ◌*◌, ◌<◌, ◌≤◌, ◌⊎◌, length, slice_get, Some}
use Rattle.bx_grid.specs.declared.ratio.Ratio.{Ratio}
use Rattle.bx_grid.specs.declared.count.CountProof.{CountProof}
use Rattle.bx_grid.specs.declared.count.CountProof.TheVariants.{Late, Crowd, Cut, Pair}
use Rattle.bx_network.specs.declared.node.Edge.{Edge}
use Rattle.bx_network.specs.Networks.{Network}
use Rattle.bx_network.specs.Paths.{IsDown, IsUp}
use Rattle.bx_bounds.specs.Numbers.{AreMoreThan}
use Rattle.bx_bounds.specs.Ancestors.{IsAncestor, IsAtOrAbove}
use Rattle.bx_bounds.specs.Windows.{IsEarliestFrom, IsLatestTo}

-- Late: the longest path through node v has at least as many edges as there are rows.
pub record IsLate (N : Network) (height v : ℕ) : Type 0 where
  pub within : v < length N.nodes
  pub down : ℕ
  pub is_down : IsDown N v down
  pub up : ℕ
  pub is_up : IsUp N v up
  pub long : height ≤ down + up

-- Crowd: node v has its earliest and its latest row among those from `first` to `last`.
pub record IsKeptTo (N : Network) (height first last v : ℕ) : Type 0 where
  pub earliest : IsEarliestFrom N v first height
  pub latest : IsLatestTo N v last height

-- Cut: the source of edge e has its latest row at this row or above it, and the target its earliest
-- below it.
pub record IsCutAt (N : Network) (height row e : ℕ) : Type 0 where
  pub edge : Edge
  pub is : slice_get N.edges e ≡ Some edge
  pub above : IsLatestTo N edge.source row height
  pub below : IsEarliestFrom N edge.target (row + 1) height

-- Pair: edge e begins at u, at v or at an ancestor of one of them, and ends at a descendant of
-- both.
pub record PassesBelow (N : Network) (u v e : ℕ) : Type 0 where
  pub edge : Edge
  pub is : slice_get N.edges e ≡ Some edge
  pub source : IsAtOrAbove N.edges edge.source u ⊎ IsAtOrAbove N.edges edge.source v
  pub below_one : IsAncestor N.edges u edge.target
  pub below_two : IsAncestor N.edges v edge.target

-- how many borders lead from a row to the next
abbrev pub borders_between : Ratio → ℕ
borders_between r = 2 * r.w - 1

-- a proof whose numbers are out of range refutes nothing
abbrev pub Refutes : Network → Ratio → CountProof → Type 0
Refutes N r (Late v) = IsLate N r.h v
Refutes N r (Crowd first last) =
    (first ≤ last) × (last < r.h) ×
    AreMoreThan (r.w * (last - first + 1)) (IsKeptTo N r.h first last)
Refutes N r (Cut row) = (row + 1 < r.h) × AreMoreThan (borders_between r) (IsCutAt N r.h row)
Refutes N r (Pair u v) =
    (u ≤ v) × (v < length N.nodes) × AreMoreThan (borders_between r) (PassesBelow N u v)
