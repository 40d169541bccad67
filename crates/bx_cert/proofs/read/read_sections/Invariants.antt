-- The lines of the sections so far stand in front of the rest.
use Rattle.std.proofs.Common.{◌≡◌, ◌+◌, ◌++◌, length}
use Rattle.std.specs.List.{AllByRecursion, flat_map}
use Rattle.bx_lines.specs.Lines.{text_of}
use Rattle.bx_cert.specs.Certs.{IsSection}
use Rattle.bx_cert.specs.Texts.{section_lines}
use Rattle.bx_cert.proofs.read.read_sections.Given as goal

abbrev pub invariant-loop-line : goal.invariant-loop-line
invariant-loop-line l = record {
  are : AllByRecursion IsSection l.sections.items;
  spelled : l.text ≡ text_of (flat_map section_lines l.sections.items) ++ l.rest;
  count : l.lines ≡ l.before + length (flat_map section_lines l.sections.items);
}

abbrev pub decreases-loop-line : goal.decreases-loop-line
decreases-loop-line l = length l.rest
