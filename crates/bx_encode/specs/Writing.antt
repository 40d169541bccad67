-- What is said of the literals and the clauses that are put behind others, for a network and a ratio.
use Rattle.std.specs.Prelude.{◌≡◌, ℕ, ◌+◌, ◌*◌, Bool, List, map}
use Rattle.std.specs.List.{range_with_len}
use Rattle.bx_cnf.specs.Literals.{Literal}
use Rattle.bx_grid.specs.declared.ratio.Ratio.{Ratio}
use Rattle.bx_network.specs.Networks.{Network}
use Rattle.bx_encode.specs.declared.frame.Frame.{Frame}
use Rattle.bx_encode.specs.declared.writer.Writer.{Writer}
use Rattle.bx_encode.specs.Families.{Clause}
use Rattle.bx_encode.specs.Sizes.{Adds}
use Rattle.bx_encode.specs.Variables.{variable_count}

-- literals of this many variables: the first, and each next one so much higher
abbrev pub rising : ℕ → ℕ → Bool → ℕ → List Literal
rising first step positive count = map (λ k. record { var = first + k * step; positive = positive }) (range_with_len 0 count)

-- the clauses are over the variables of the network and the ratio
abbrev pub IsFor : Frame → Writer → Type 0
IsFor frame to = to.clauses.vars ≡ variable_count frame.net.now frame.ratio

-- these clauses of the network and the ratio stand behind those that stood before
abbrev pub Writes : Frame → Writer → Writer → (Network → Ratio → List Clause) → Type 0
Writes frame before after clauses = Adds before.clauses after.clauses (clauses frame.net.now frame.ratio)
