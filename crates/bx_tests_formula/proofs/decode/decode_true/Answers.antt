-- The bits make the clauses of the formula true.
use Rattle.std.proofs.Common.{subst}
use Rattle.bx_cnf.specs.Formulas.{Formula, AllTrue}
use Rattle.bx_tests_formula.proofs.decode.decode_true.Goals as goal

pub decode-requires-clause-true_bits : goal.decode-requires-clause-true_bits
decode-requires-clause-true_bits c = subst (λ (f : Formula). AllTrue c.args.bits.now f.clauses) c.in_ok-clauses.ensures (c.all_true.ensures.0 c.if-all_true.true)
