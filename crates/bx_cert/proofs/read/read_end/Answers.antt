use Rattle.bx_cert.specs.Grammar.{at_end}
use Rattle.bx_cert.proofs.Stopping.{stops_here, stuck_other, not_end}
use Rattle.bx_cert.proofs.read.read_end.Goals as goal

pub returns-in_default-line : goal.returns-in_default-line
returns-in_default-line c = λ cert. stops_here (at_end cert) c.args.text.now c.args.before (stuck_other (at_end cert) c.args.text.now c.in-Some.line c.in-Some.rest.now (λ b to g. g) (λ e. e) c.in-Some.ensures.found (λ to. not_end cert c.in-Some.line to c.in_default-line.not-End))
