use Rattle.std.proofs.Common.{length}
use Rattle.bx_lex.proofs.Cuts.{Reaches}
use Rattle.bx_lex.proofs.read.cut.Given as goal

abbrev pub invariant-loop-rest : goal.invariant-loop-rest
invariant-loop-rest l = Reaches l.text l.tokens.items l.place l.rest

abbrev pub decreases-loop-rest : goal.decreases-loop-rest
decreases-loop-rest l = length l.rest
