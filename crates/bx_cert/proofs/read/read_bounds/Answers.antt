use Rattle.bx_cert.specs.Grammar.{at_limits}
use Rattle.bx_cert.proofs.Stopping.{stops_here, stuck_other, not_bounds}
use Rattle.bx_cert.proofs.read.read_bounds.Goals as goal

pub returns-in_default-line : goal.returns-in_default-line
returns-in_default-line c = stops_here at_limits c.args.text.now 1 (stuck_other at_limits c.args.text.now c.in-Some.line c.in-Some.rest.now (λ b to g. g) (λ e. e) c.in-Some.ensures.found (λ to. not_bounds c.in-Some.line to c.in_default-line.not-Bounds))
