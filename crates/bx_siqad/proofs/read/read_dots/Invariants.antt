-- The lines of the dots so far stand in front of the rest.
use Rattle.std.proofs.Common.{◌≡◌, ◌++◌, length, map}
use Rattle.std.specs.List.{AllByRecursion}
use Rattle.bx_library.specs.Dots.{IsAscending}
use Rattle.bx_lines.specs.Lines.{text_of}
use Rattle.bx_siqad.specs.Designs.{IsDot}
use Rattle.bx_siqad.specs.Texts.{dot_line}
use Rattle.bx_siqad.proofs.read.read_dots.Given as goal

abbrev pub invariant-loop-dot : goal.invariant-loop-dot
invariant-loop-dot l = record {
  are : AllByRecursion IsDot l.dots.items;
  ascending : IsAscending l.dots.items;
  spelled : l.text ≡ text_of (map dot_line l.dots.items) ++ l.rest;
}

abbrev pub decreases-loop-dot : goal.decreases-loop-dot
decreases-loop-dot l = length l.rest
