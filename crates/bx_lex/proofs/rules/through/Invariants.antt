use Rattle.std.proofs.Common.{◌≡◌, drop}
use Rattle.bx_lex.specs.Rules.{through}
use Rattle.bx_lex.proofs.Through.{behind}
use Rattle.bx_lex.proofs.rules.through.Given as goal

abbrev pub invariant-loop-at : goal.invariant-loop-at
invariant-loop-at l = through l.close l.text ≡ behind l.at (through l.close (drop l.at l.text))
