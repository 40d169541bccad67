-- The order in which ratios are tried: by area, and ratios of one area by width.
use Rattle.std.specs.Prelude.{◌≡◌, ℕ, ◌*◌, ◌/◌, ◌%◌, ◌<◌, ◌≤◌, ◌==◌, ◌&&◌, nat_le, ◌⊎◌, Bool, List, map, filter, flat_map, slice_get, Some}
use Rattle.std.specs.List.{range_with_len}
use Rattle.bx_grid.specs.declared.ratio.Ratio.{Ratio}
use Rattle.bx_grid.specs.declared.ratio.Limits.{Limits}

-- each limit is from 1 to 144
pub record AreLimits (limits : Limits) : Type 0 where
  pub some_area : 1 ≤ limits.area
  pub some_width : 1 ≤ limits.width
  pub some_height : 1 ≤ limits.height
  pub area : limits.area ≤ 144
  pub width : limits.width ≤ 144
  pub height : limits.height ≤ 144

-- the sides of a grid that has a file: each is from 1 to 144
pub record IsRatio (ratio : Ratio) : Type 0 where
  pub some_width : 1 ≤ ratio.w
  pub some_height : 1 ≤ ratio.h
  pub width : ratio.w ≤ 144
  pub height : ratio.h ≤ 144

-- a ratio that may be tried
pub record IsWithin (limits : Limits) (ratio : Ratio) : Type 0 where
  pub wide : 1 ≤ ratio.w
  pub high : 1 ≤ ratio.h
  pub area : ratio.w * ratio.h ≤ limits.area
  pub width : ratio.w ≤ limits.width
  pub height : ratio.h ≤ limits.height

-- by area, and then by width
abbrev pub Precedes : Ratio → Ratio → Type 0
Precedes a b = (a.w * a.h < b.w * b.h) ⊎ ((a.w * a.h ≡ b.w * b.h) × (a.w < b.w))

abbrev pub divides : ℕ → ℕ → Bool
divides n d = (n % d) == 0

abbrev pub divisors : ℕ → List ℕ
divisors n = filter (divides n) (range_with_len 1 n)

-- the ratio of this area and this width, where the width divides the area
abbrev pub of_width : ℕ → ℕ → Ratio
of_width area w = record { w = w; h = area / w }

abbrev pub fits : Limits → Ratio → Bool
fits limits r = nat_le r.w limits.width && nat_le r.h limits.height

-- the ratios of one area that fit, by width
abbrev pub of_area : Limits → ℕ → List Ratio
of_area limits area = filter (fits limits) (map (of_width area) (divisors area))

-- for each area from 1 on, in order
unfoldable pub order : Limits → List Ratio
order limits = flat_map (of_area limits) (range_with_len 1 limits.area)

-- this ratio stands in the order before the other
pub record IsEarlier (limits : Limits) (earlier ratio : Ratio) : Type 0 where
  pub index : ℕ
  pub own : ℕ
  pub before : index < own
  pub is : slice_get (order limits) index ≡ Some earlier
  pub is_own : slice_get (order limits) own ≡ Some ratio
