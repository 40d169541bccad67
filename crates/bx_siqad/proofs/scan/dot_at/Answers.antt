use Rattle.std.proofs.Common.{sym, subst}
use Rattle.bx_siqad.specs.Readings.{IsNumberBehind}
use Rattle.bx_siqad.proofs.Fields.{before_m, before_l, after_l, after_m, after_n, n_behind, m_behind, l_behind, same_n, same_m, same_l}
use Rattle.bx_siqad.proofs.scan.dot_at.Goals as goal

pub returns-in_err-n-clause-none : goal.returns-in_err-n-clause-none
returns-in_err-n-clause-none c = rw c.from_residual.ensures (λ dot rest at.
    c.in_err-n.ensures.none dot.n (after_n dot rest) at.is.n (n_behind c.args.text.now dot rest at))

pub returns-in_err-m-clause-none : goal.returns-in_err-m-clause-none
returns-in_err-m-clause-none c = rw c.from_residual-in_err-m.ensures (λ dot rest at.
    let before = same_n c.args.text.now c.in_ok-n.n c.in_ok-n.rest.now dot rest c.in_ok-n.ensures.small c.in_ok-n.ensures.found at in
    c.in_err-m.ensures.none dot.m (after_m dot rest) at.is.m (subst (λ bs. IsNumberBehind bs before_m dot.m (after_m dot rest)) (sym before.1) (m_behind dot rest)))

pub returns-in_err-l-clause-none : goal.returns-in_err-l-clause-none
returns-in_err-l-clause-none c = rw c.from_residual-in_err-l.ensures (λ dot rest at.
    let before = same_m c.args.text.now c.in_ok-n.rest.now c.in_ok-m.rest.now c.in_ok-n.n c.in_ok-m.m dot rest c.in_ok-n.ensures.small c.in_ok-m.ensures.small c.in_ok-n.ensures.found c.in_ok-m.ensures.found at in
    c.in_err-l.ensures.none dot.l (after_l rest) at.is.l (subst (λ bs. IsNumberBehind bs before_l dot.l (after_l rest)) (sym before.1) (l_behind dot rest)))

pub returns-in_err-rest-clause-none : goal.returns-in_err-rest-clause-none
returns-in_err-rest-clause-none c = rw c.from_residual-in_err-rest.ensures (λ dot rest at.
    let before = same_l c.args.text.now c.in_ok-n.rest.now c.in_ok-m.rest.now c.in_ok-l.rest.now c.in_ok-n.n c.in_ok-m.m c.in_ok-l.l dot rest c.in_ok-n.ensures.small c.in_ok-m.ensures.small c.in_ok-l.ensures.small c.in_ok-n.ensures.found c.in_ok-m.ensures.found c.in_ok-l.ensures.found at in
    c.in_err-rest.ensures.none rest before.1)
