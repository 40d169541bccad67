use Rattle.std.proofs.Common.{◌≡◌, Option, get_or, refl, ap, arith}
use Rattle.bx_logic.specs.Nets.{Netlist}
use Rattle.bx_network.specs.Networks.{Network}
use Rattle.bx_cert.specs.declared.parts.CertLast.{CertLast}
use Rattle.bx_design.specs.declared.solution.LaidOut.{LaidOut}
use Rattle.bx_says.specs.Texts.{Text}
use Rattle.bx_engine.specs.Said.{search_text, refusal_text}
use Rattle.bx_engine.proofs.laws.reports.a_refusal_is_no_report.Goals as goal

-- a report begins with `m`, and a refusal with `r`
module-first : (net : Netlist) (N : Network) (last : CertLast) (found : Option LaidOut) → get_or (search_text net N last found) 0 0 ≡ 109
module-first net N last found = refl

refused-first : (fault : Text) → get_or (refusal_text fault) 0 0 ≡ 114
unfolding refusal_text
refused-first fault = refl

pub returns : goal.returns
returns c = λ fault net N last found e.
    let first : get_or (refusal_text fault) 0 0 ≡ get_or (search_text net N last found) 0 0 = ap (λ (text : Text). get_or text 0 0) e in
    absurd (omega (arith, refused-first fault, module-first net N last found))
