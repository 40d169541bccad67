-- Where the dots of a grid stand, whatever the size of the tiles.
use Rattle.std.proofs.Common.{◌≡◌, ℕ, zero, suc, ◌+◌, ◌*◌, ◌/◌, ◌<◌, ◌≤◌, Bool, true, false, List, length, get_or, All, sym, subst, arith}
use Rattle.std.proofs.lemmas.List.Elements.{Contains-get_or}
use Rattle.std.proofs.lemmas.List.Sorted.{length_permutation}
use Rattle.std.proofs.lemmas.Nat.{row_fits, mod_below, div_below}
use Rattle.std.specs.List.Sorted.{IsPermutation}
use Rattle.std.specs.Prelude.{if◌then◌else◌}
use Rattle.bx_grid.specs.declared.ratio.Ratio.{Ratio}
use Rattle.bx_grid.specs.Tiles.{IsTile, x_of, y_of, is_odd}
use Rattle.bx_layout.specs.Grids.{FormGrid, form_at}
use Rattle.bx_library.specs.declared.dot.Dot.{Dot}
use Rattle.bx_library.specs.Tiles.{Tiles, IsLibrary, IsInside}
use Rattle.bx_dots.specs.Places.{shift, moved_dot}
use Rattle.bx_dots.specs.GridDots.{IsDotOf, IsNear, grid_dots}
use Rattle.bx_dots.proofs.Cutting.{inside_form}
use Rattle.bx_dots.proofs.Listing.{sorted_is}

below_sides : (a b w s n : ℕ) → a < b → w ≤ 256 → s ≤ 128 → n < w → a * w + s + n < (b + 1) * 256
below_sides a b w s n less width small inside =
    let fits : a * w + w ≤ b * 256 = row_fits a w b 256 less width in
    omega arith

below_rows : (a b h m : ℕ) → a < b → h ≤ 256 → m < h → a * h + m < b * 256
below_rows a b h m less height inside =
    let fits : a * h + h ≤ b * 256 = row_fits a h b 256 less height in
    omega arith

shift_small : (lib : Tiles) (odd : Bool) → lib.width ≤ 256 → (if odd then lib.width / 2 else 0) ≤ 128
shift_small lib true h = omega arith
shift_small lib false h = omega arith

some_column : (w h t : ℕ) → t < w * h → 0 < w
some_column zero h t inside = absurd (omega arith)
some_column (suc w) h t inside = omega arith

near_tile : (lib : Tiles) (r : Ratio) (t : ℕ) (own : Dot) → IsLibrary lib → IsTile r t → IsInside lib.width lib.height own → IsNear r (moved_dot lib r t own)
near_tile lib r t own kept inside within =
    let wide = some_column r.w r.h t inside in record {
      column = below_sides (x_of r t) r.w lib.width (shift lib (y_of r t)) own.n (mod_below t r.w wide) kept.width.most (shift_small lib (is_odd (y_of r t)) kept.width.most) within.n;
      row = below_rows (y_of r t) r.h lib.height own.m (div_below t r.w r.h wide (omega arith)) kept.height.most within.m;
      atom = within.l;
    }

pub near_of : (lib : Tiles) (g : FormGrid) (dot : Dot) → IsLibrary lib → IsDotOf lib g dot → IsNear g.ratio dot
near_of lib g dot kept of =
    subst (IsNear g.ratio) (sym of.is) (near_tile lib g.ratio of.tile of.own kept of.inside (inside_form lib (form_at g of.tile) of.own kept of.has))

pub sorted_near : (lib : Tiles) (g : FormGrid) (xs ys : List Dot) → (0 < length xs → IsLibrary lib) → xs ≡ grid_dots lib g → IsPermutation xs ys → All (IsNear g.ratio) ys
sorted_near lib g xs ys kept same moves k d below =
    let long = length_permutation xs ys moves in
    let dot = get_or ys k d in
    near_of lib g dot (kept (omega (arith, long))) ((sorted_is lib g xs ys same moves dot).0 (Contains-get_or ys k d below))
