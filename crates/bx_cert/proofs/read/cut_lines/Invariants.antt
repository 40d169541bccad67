-- The lines that are wanted are the bytes so far, and what is left of them at the front of the rest.
use Rattle.std.proofs.Common.{◌≡◌, ◌++◌, take, drop}
use Rattle.bx_lines.specs.Lines.{first_lines}
use Rattle.bx_cert.proofs.read.cut_lines.Given as goal

abbrev pub invariant-loop-k : goal.invariant-loop-k
invariant-loop-k l = first_lines l.count l.text ≡ take l.k l.text ++ first_lines l.left (drop l.k l.text)
