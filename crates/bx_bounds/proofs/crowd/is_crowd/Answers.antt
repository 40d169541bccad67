use Rattle.std.proofs.Common.{◌≡◌, ◌+◌, ◌-◌, ◌*◌, ap₂, arith}
use Rattle.bx_bounds.specs.Refutes.{IsKeptTo}
use Rattle.bx_bounds.proofs.Tallied.{more-test}
use Rattle.bx_bounds.proofs.crowd.is_crowd.Goals as goal

pub returns : goal.returns
returns c =
    let wide : c.from.result ≡ c.args.ratio.w = omega arith in
    let rows : c.from-2.result ≡ c.args.last - c.args.first = omega arith in
    let says = more-test (IsKeptTo c.args.net.now c.args.ratio.h c.args.first c.args.last) c.kept_to.result (c.args.ratio.w * (c.args.last - c.args.first + 1))
    (c.from.result * (c.from-2.result + 1)) c.from-3.result c.kept_to.ensures (ap₂ (λ p q. p * (q + 1)) wide rows) (omega arith) in
    ((λ e. (omega arith, omega arith, says.0 e)), (λ h. says.1 h.2))
