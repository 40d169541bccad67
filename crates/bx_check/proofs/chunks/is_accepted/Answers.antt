use Rattle.std.proofs.Common.{◌≡◌, true}
use Rattle.bx_check.proofs.Borders.{shaped_accepted}
use Rattle.bx_check.proofs.chunks.is_accepted.Goals as goal

pub returns : goal.returns
returns g c =
    let yes : c.is_shaped.result ≡ true = cc in
    let shaped = c.is_shaped.ensures.0 yes in
    shaped_accepted c.do_all_pass.result c.args.clauses.now c.args.steps.now shaped.0 shaped.1 shaped.2 c.do_all_pass.ensures
