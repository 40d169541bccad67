-- No edge is set.
use Rattle.std.proofs.Common.{sym, ◌∙◌, arith}
use Rattle.std.proofs.lemmas.Bool.{false≢true}
use Rattle.bx_decode.proofs.read.edge_on.Goals as goal

pub returns : goal.returns
returns c = λ e ((edge, inside), on). false≢true (sym (c.loop-e.invariant e (omega (arith, c.edge_count-e-end.ensures.count))) ∙ on)
