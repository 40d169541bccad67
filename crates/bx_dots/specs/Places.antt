-- Where the tiles of a grid stand on the lattice of dots, and which dots lie in a tile. Tiles stand
-- side by side in rows, and the rows one below the other; odd rows are shifted right by half a
-- tile.
use Rattle.std.specs.Prelude.{ℕ, ◌+◌, ◌*◌, ◌/◌, ◌<◌, ◌≤◌, if◌then◌else◌}
use Rattle.bx_grid.specs.declared.ratio.Ratio.{Ratio}
use Rattle.bx_grid.specs.Tiles.{IsTile, x_of, y_of, is_odd}
use Rattle.bx_library.specs.declared.dot.Dot.{Dot}
use Rattle.bx_library.specs.Tiles.{Tiles}

-- how far a row of tiles is shifted to the right
abbrev pub shift : Tiles → ℕ → ℕ
shift lib y = if is_odd y then lib.width / 2 else 0

-- the first dimer of each row of a tile, and the first row of dimers
abbrev pub left : Tiles → Ratio → ℕ → ℕ
left lib r t = x_of r t * lib.width + shift lib (y_of r t)

abbrev pub top : Tiles → Ratio → ℕ → ℕ
top lib r t = y_of r t * lib.height

-- a dot, so many dimers further right and so many rows further down
abbrev pub moved_by : ℕ → ℕ → Dot → Dot
moved_by n m own = record { m = m + own.m; l = own.l; n = n + own.n }

-- a dot of a form, moved to where the tile stands
abbrev pub moved_dot : Tiles → Ratio → ℕ → Dot → Dot
moved_dot lib r t own = moved_by (left lib r t) (top lib r t) own

-- the dot's dimer lies in the tile
pub record LiesIn (lib : Tiles) (r : Ratio) (t : ℕ) (dot : Dot) : Type 0 where
  pub from_left : left lib r t ≤ dot.n
  pub to_right : dot.n < left lib r t + lib.width
  pub from_top : top lib r t ≤ dot.m
  pub to_bottom : dot.m < top lib r t + lib.height

-- the dot lies in no tile of the grid
abbrev pub IsStray : Tiles → Ratio → Dot → Type 0
IsStray lib r dot = (t : ℕ) → IsTile r t → LiesIn lib r t dot → ⊥
