-- Ancestors of a node: those from which a path of at least one edge leads to it. So no node is its
-- own ancestor. A node is a descendant of its ancestors.
use Rattle.std.specs.Prelude.{◌≡◌, ℕ, suc, ◌⊎◌, List}
use Rattle.bx_network.specs.declared.node.Edge.{Edge}
use Rattle.bx_network.specs.Paths.{IsPath}

-- u is an ancestor of v, and v a descendant of u
abbrev pub IsAncestor : List Edge → ℕ → ℕ → Type 0
IsAncestor edges u v = (n : ℕ) × IsPath edges u v (suc n)

-- u is v, or an ancestor of it
abbrev pub IsAtOrAbove : List Edge → ℕ → ℕ → Type 0
IsAtOrAbove edges u v = (u ≡ v) ⊎ IsAncestor edges u v
