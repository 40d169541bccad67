-- The lines of the places so far stand in front of the rest.
use Rattle.std.proofs.Common.{◌≡◌, ◌+◌, ◌++◌, length, map}
use Rattle.std.specs.List.{AllByRecursion}
use Rattle.bx_lines.specs.Lines.{text_of}
use Rattle.bx_cert.specs.declared.line.Line.TheVariants.{Place}
use Rattle.bx_cert.specs.Certs.{IsSpot}
use Rattle.bx_cert.specs.Texts.{line_text}
use Rattle.bx_cert.proofs.read.read_spots.Given as goal

abbrev pub invariant-loop-line : goal.invariant-loop-line
invariant-loop-line l = record {
  are : AllByRecursion IsSpot l.spots.items;
  spelled : l.text ≡ text_of (map (λ spot. line_text (Place spot)) l.spots.items) ++ l.rest;
  count : l.lines ≡ l.before + length l.spots.items;
}

abbrev pub decreases-loop-line : goal.decreases-loop-line
decreases-loop-line l = length l.rest
