use Rattle.std.proofs.Common.{refl}
use Rattle.bx_desk.proofs.Saying.{says_then, says_failed, says_as}
use Rattle.bx_engine.proofs.Lines.{report-parts}
use Rattle.bx_engine.proofs.report.put_report.Goals as goal

pub returns-in_err-say_head : goal.returns-in_err-say_head
returns-in_err-say_head g c = says_as _ _ _ _ _ _ _ (report-parts c.args.source.now.net c.args.source.now.mapped c.args.solution.now.cert.last c.args.solution.now.cert.last c.args.solution.now.found refl)
    (says_failed _ _ _ _ _ _ _ _ _ c.in_err-say_head.was c.from_residual.ensures.0 c.say_head.ensures)

pub returns-in_err-put_last : goal.returns-in_err-put_last
returns-in_err-put_last g c = says_as _ _ _ _ _ _ _ (report-parts c.args.source.now.net c.args.source.now.mapped c.last.result.now c.args.solution.now.cert.last c.args.solution.now.found c.last.ensures.last)
    (says_then _ _ _ _ _ _ _ _ _ _ _ c.in_ok-say_head.was c.say_head.ensures (says_failed _ _ _ _ _ _ _ _ _ c.in_err-put_last.was c.from_residual-in_err-put_last.ensures.0 c.put_last.ensures))

pub returns : goal.returns
returns g c = says_as _ _ _ _ _ _ _ (report-parts c.args.source.now.net c.args.source.now.mapped c.last.result.now c.args.solution.now.cert.last c.args.solution.now.found c.last.ensures.last)
    (says_then _ _ _ _ _ _ _ _ _ _ _ c.in_ok-say_head.was c.say_head.ensures (says_then _ _ _ _ _ _ _ _ _ _ _ c.in_ok-put_last.was c.put_last.ensures c.put_found.ensures))
