use Rattle.std.proofs.Common.{refl, sym, ◌∙◌}
use Rattle.bx_cert.proofs.Leading.{one_cert}
use Rattle.bx_cert.proofs.laws.a_certificate_has_one_spelling.Goals as goal

pub returns-clause-text : goal.returns-clause-text
returns-clause-text c = λ cert is. record { is = is; spelled = refl }

pub returns-clause-one_text : goal.returns-clause-one_text
returns-clause-one_text c = λ cert x y is_x is_y. is_x.spelled ∙ sym is_y.spelled

pub returns-clause-one_certificate : goal.returns-clause-one_certificate
returns-clause-one_certificate c = one_cert
