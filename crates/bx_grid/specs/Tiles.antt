-- The tiles of a grid and the borders between them. Tile (x, y) has the number y * w + x; an odd
-- row is shifted right by half a tile, so each tile has two tiles below it and two above.
use Rattle.std.specs.Prelude.{◌≡◌, ◌==◌, ◌<◌, ◌≤◌, ℕ, zero, suc, ◌+◌, ◌*◌, ◌/◌, ◌%◌, List, take, drop, Bool, true, false, ◌&&◌, nat_lt, if◌then◌else◌, Option, Some, None, option_map}
use Rattle.bx_grid.specs.declared.ratio.Ratio.{Ratio}
use Rattle.bx_forms.specs.declared.side.Side.{Side}
use Rattle.bx_forms.specs.declared.side.Side.TheVariants.{Left, Right}
use Rattle.bx_forms.specs.Sides.{opposite}

-- how many tiles there are
abbrev pub tile_count : Ratio → ℕ
tile_count r = r.w * r.h

-- there is a tile, and there are at most 2^22
pub record IsGrid (r : Ratio) : Type 0 where
  pub wide : 1 ≤ r.w
  pub high : 1 ≤ r.h
  pub small : tile_count r ≤ 4194304

-- the column and the row of a tile
abbrev pub x_of : Ratio → ℕ → ℕ
x_of r t = t % r.w

abbrev pub y_of : Ratio → ℕ → ℕ
y_of r t = t / r.w

-- the number is that of a tile, and the tile stands in the first or the last row
abbrev pub IsTile : Ratio → ℕ → Type 0
IsTile r t = t < tile_count r

abbrev pub IsInFirstRow : Ratio → ℕ → Type 0
IsInFirstRow r t = y_of r t ≡ 0

abbrev pub IsInLastRow : Ratio → ℕ → Type 0
IsInLastRow r t = y_of r t + 1 ≡ r.h

-- the items of a row, of a list with one item for each tile, from left to right
abbrev pub row_items : {X : Type 0} → Ratio → List X → ℕ → List X
row_items r items y = take r.w (drop (y * r.w) items)

-- the clock zone of a tile: that of row y is y mod 4
abbrev pub zone_of : Ratio → ℕ → ℕ
zone_of r t = y_of r t % 4

abbrev pub is_odd : ℕ → Bool
is_odd y = y % 2 == 1

-- one less, if there is such a number
abbrev pub one_less : ℕ → Option ℕ
one_less zero = None
one_less (suc n) = Some n

-- the column of the tile that stands on this side of column x, in the rows below and above an odd
-- row or an even one
abbrev pub column_beside : Bool → Side → ℕ → Option ℕ
column_beside false Left x = one_less x
column_beside false Right x = Some x
column_beside true Left x = Some x
column_beside true Right x = Some (x + 1)

-- the tile at this column and row, unless it is off the grid
abbrev pub tile_at : Ratio → Option ℕ → Option ℕ → Option ℕ
tile_at r (Some x) (Some y) = if nat_lt x r.w && nat_lt y r.h then Some (y * r.w + x) else None
tile_at r (Some x) None = None
tile_at r None y = None

abbrev pub below : Ratio → ℕ → Side → Option ℕ
below r t side = tile_at r (column_beside (is_odd (y_of r t)) side (x_of r t)) (Some (y_of r t + 1))

abbrev pub above : Ratio → ℕ → Side → Option ℕ
above r t side = tile_at r (column_beside (is_odd (y_of r t)) side (x_of r t)) (one_less (y_of r t))

-- the lower left or lower right side of a tile, as a border
abbrev pub border : ℕ → Side → ℕ
border t Left = 2 * t
border t Right = 2 * t + 1

-- the border by which something can come in on an upper side: that on which the tile above goes out
abbrev pub entering : Ratio → ℕ → Side → Option ℕ
entering r t side = option_map (λ u. border u (opposite side)) (above r t side)
