-- The rows on which a node may stand, as a test that can be computed.
use Rattle.std.specs.Prelude.{ℕ, zero, suc, ◌+◌, ◌==◌, ◌&&◌, nat_le, max, Bool, false, List, [], ◌∷◌, length, map, filter, Option, Some, None, slice_get}
use Rattle.bx_forms.specs.declared.kind.Kind.{Kind}
use Rattle.bx_forms.specs.declared.kind.Kind.TheVariants.{Input, Output}
use Rattle.bx_network.specs.declared.node.Node.{Node}
use Rattle.bx_network.specs.declared.node.Edge.{Edge}
use Rattle.bx_network.specs.Networks.{Network}

-- the greatest of these numbers, and 0 where there is none
abbrev pub greatest : List ℕ → ℕ
greatest [] = 0
greatest (n ∷ ns) = max n (greatest ns)

-- how many edges a longest way of at most n has that begins at node v, where each edge leads on from its near end to
-- its far one
abbrev pub longest : (Edge → ℕ) → (Edge → ℕ) → List Edge → ℕ → ℕ → ℕ
longest near far edges zero v = 0
longest near far edges (suc n) v = greatest (map (λ e. longest near far edges n (far e) + 1) (filter (λ e. near e == v) edges))

-- Of a path to node v, and of one from it. A path has fewer edges than there are nodes.
abbrev pub down_of : Network → ℕ → ℕ
down_of N v = longest (λ e. e.target) (λ e. e.source) N.edges (length N.nodes) v

abbrev pub up_of : Network → ℕ → ℕ
up_of N v = longest (λ e. e.source) (λ e. e.target) N.edges (length N.nodes) v

-- an input stands in row 0, an output in the last row, and any other node where there is room for its
-- longest paths
abbrev pub fits_row : Kind → ℕ → ℕ → ℕ → ℕ → Bool
fits_row Input down up row height = row == 0
fits_row Output down up row height = (row + 1) == height
fits_row _ down up row height = nat_le down row && nat_le (row + up + 1) height

abbrev pub node_fits_row : Option Node → ℕ → ℕ → ℕ → ℕ → Bool
node_fits_row None down up row height = false
node_fits_row (Some node) down up row height = fits_row node.kind down up row height

-- whether the row is in the window of node v, where there are so many rows
unfoldable pub in_window : Network → ℕ → ℕ → ℕ → Bool
in_window N v row height = node_fits_row (slice_get N.nodes v) (down_of N v) (up_of N v) row height
