use Rattle.std.proofs.Common.{◌≡◌, true, false, sym, ◌∙◌}
use Rattle.bx_sat.proofs.checking.verify.Goals as goal

pub failure_of-requires-clause-not_accepted : goal.failure_of-requires-clause-not_accepted
failure_of-requires-clause-not_accepted g c = λ accepted. let clash : false ≡ true = sym c.if-branch.false ∙ c.in_ok-check_chunks.ensures.exact.1 accepted in cc
