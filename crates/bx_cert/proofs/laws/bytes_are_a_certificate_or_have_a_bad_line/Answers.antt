use Rattle.bx_cert.proofs.Deciding.{some_cert}
use Rattle.bx_cert.proofs.laws.bytes_are_a_certificate_or_have_a_bad_line.Goals as goal

pub returns : goal.returns
returns c = some_cert
