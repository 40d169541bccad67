use Rattle.std.proofs.Common.{arith}
use Rattle.bx_cert.proofs.Lines.{no_count}
use Rattle.bx_cert.proofs.scan.count_at.Goals as goal

pub returns-in_err-rest-clause-none : goal.returns-in_err-rest-clause-none
returns-in_err-rest-clause-none c = rw c.from_residual.ensures (no_count c.args.text.now
    (λ ns rest size at. c.in_default.ensures.none ns rest size at)
    (λ ns rest size at. c.in_default-worded_at.ensures.none ns rest (omega (arith, size)) at)
    (λ ns rest size at. c.in_default-worded_at-2.ensures.none ns rest size at)
    (λ ns rest size at. c.in_err-rest.ensures.none ns rest (omega (arith, size)) at))
