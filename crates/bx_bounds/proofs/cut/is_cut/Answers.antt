use Rattle.std.proofs.Common.{arith}
use Rattle.bx_bounds.specs.Refutes.{IsCutAt, borders_between}
use Rattle.bx_bounds.proofs.Tallied.{more-test}
use Rattle.bx_bounds.proofs.cut.is_cut.Goals as goal

pub returns : goal.returns
returns c =
    let says = more-test (IsCutAt c.args.net.now c.args.ratio.h c.args.row) c.cut_at.result (borders_between c.args.ratio) c.borders_between.result c.from-3.result c.cut_at.ensures c.borders_between.ensures (omega arith) in
    ((λ e. (omega arith, says.0 e)), (λ h. says.1 h.1))
