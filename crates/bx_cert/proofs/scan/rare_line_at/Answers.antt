use Rattle.bx_cert.proofs.Lines.{no_rare}
use Rattle.bx_cert.proofs.scan.rare_line_at.Goals as goal

pub returns-in_err-rest-clause-none : goal.returns-in_err-rest-clause-none
returns-in_err-rest-clause-none c = rw c.from_residual.ensures (no_rare c.args.text.now c.in_default.ensures.none c.in_default-found_at.ensures.none c.in_default-gave_up_at.ensures.none c.in_default-behind.ensures.none c.in_default-behind-2.ensures.none c.in_err-rest.ensures.none)
