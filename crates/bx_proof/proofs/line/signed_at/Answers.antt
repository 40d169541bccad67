use Rattle.bx_proof.proofs.Numbers.{no_minus, minus_zero}
use Rattle.bx_proof.proofs.line.signed_at.Goals as goal

pub returns-in_err-size-clause-none : goal.returns-in_err-size-clause-none
returns-in_err-size-clause-none c = rw c.from_residual.ensures (no_minus c.args.bytes.now c.in-Some.digits.now c.in-Some.ensures.found c.in_err-size.ensures.none)

pub returns-then-size-eq0-clause-none : goal.returns-then-size-eq0-clause-none
returns-then-size-eq0-clause-none c = minus_zero c.args.bytes.now c.in-Some.digits.now c.in_ok-size.rest.now c.in_ok-size.size c.in-Some.ensures.found c.in_ok-size.ensures.found.1 c.if-size-eq0.true
