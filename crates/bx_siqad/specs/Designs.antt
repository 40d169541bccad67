-- Designs: the dots of a grid of tiles, with the sides of the grid.
use Rattle.std.specs.Prelude.{◌≤◌, List}
use Rattle.std.specs.List.{AllByRecursion}
use Rattle.bx_grid.specs.declared.ratio.Ratio.{Ratio}
use Rattle.bx_grid.specs.Orders.{IsRatio}
use Rattle.bx_library.specs.Dots.{IsAscending}
use Rattle.bx_library.specs.declared.dot.Dot.{Dot}

-- the sides of the grid, and the dots in order
pub record Drawing : Type 0 where
  pub ratio : Ratio
  pub dots : List Dot

-- a dot that a design can have
pub record IsDot (dot : Dot) : Type 0 where
  pub n : dot.n ≤ 99999
  pub m : dot.m ≤ 99999
  pub l : dot.l ≤ 1

-- what a design keeps: the ranges of its numbers, and the order of its dots, of which none stands twice
pub record IsDrawing (drawing : Drawing) : Type 0 where
  pub ratio : IsRatio drawing.ratio
  pub dots : AllByRecursion IsDot drawing.dots
  pub ascending : IsAscending drawing.dots
