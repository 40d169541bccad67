-- The lines so far stand in front of the rest.
use Rattle.std.proofs.Common.{◌≡◌, ◌+◌, ◌++◌, map, take}
use Rattle.bx_lines.specs.Lines.{text_of}
use Rattle.bx_siqad.proofs.read.behind_lines.Given as goal

abbrev pub invariant-loop-line : goal.invariant-loop-line
invariant-loop-line l = record {
  spelled : l.text ≡ text_of (take l.line-index (map (λ line. line.now) l.lines)) ++ l.rest;
  number : l.number ≡ l.before + l.line-index;
}
