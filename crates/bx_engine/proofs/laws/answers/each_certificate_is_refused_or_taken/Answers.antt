use Rattle.bx_engine.proofs.Designs.{each_cert, cert_not_both, cert_refused_once, one_certificate}
use Rattle.bx_engine.proofs.laws.answers.each_certificate_is_refused_or_taken.Goals as goal

pub returns-clause-some : goal.returns-clause-some
returns-clause-some c = each_cert

pub returns-clause-not_both : goal.returns-clause-not_both
returns-clause-not_both c = cert_not_both

pub returns-clause-fault : goal.returns-clause-fault
returns-clause-fault c = cert_refused_once

pub returns-clause-one_certificate : goal.returns-clause-one_certificate
returns-clause-one_certificate c = one_certificate
