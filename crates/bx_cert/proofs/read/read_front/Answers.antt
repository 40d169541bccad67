use Rattle.bx_cert.specs.Grammar.{at_head}
use Rattle.bx_cert.proofs.Stopping.{stops_here, stuck_other, not_head}
use Rattle.bx_cert.proofs.Readers.{front_here, bounds_stop, map_result}
use Rattle.bx_cert.proofs.read.read_front.Goals as goal

pub returns-in-Head : goal.returns-in-Head
returns-in-Head c = map_result _ _ _ _ c.read_bounds.result c.read_bounds.ensures
    (λ front at. front_here c.args.bytes.now c.in-Some.text.now front.2.now c.in-Some.line front.0 front.1 c.in-Head.is c.in-Some.ensures.found at)
    (λ fault stop. bounds_stop c.args.bytes.now c.in-Some.text.now c.in-Some.line fault c.in-Head.is c.in-Some.ensures.found stop)

pub returns-in_default-line : goal.returns-in_default-line
returns-in_default-line c = stops_here at_head c.args.bytes.now 0 (stuck_other at_head c.args.bytes.now c.in-Some.line c.in-Some.text.now (λ b to g. g) (λ e. e) c.in-Some.ensures.found (λ to. not_head c.in-Some.line to c.in_default-line.not-Head))
