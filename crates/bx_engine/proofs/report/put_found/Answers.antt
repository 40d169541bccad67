use Rattle.std.proofs.Common.{Option, sym, ap}
use Rattle.bx_desk.proofs.Saying.{says_nothing, says_as}
use Rattle.bx_design.specs.declared.solution.LaidOut.{LaidOut}
use Rattle.bx_lines.specs.Lines.{text_of}
use Rattle.bx_engine.specs.Said.{found_lines}
use Rattle.bx_engine.proofs.report.put_found.Goals as goal

pub returns-in-None : goal.returns-in-None
returns-in-None g c =
    says_as _ _ _ _ _ _ _ (ap (λ (o : Option LaidOut). text_of (found_lines c.args.source.now.net c.args.source.now.mapped o)) (sym c.in-None.is)) (says_nothing _ _ _ c.requires.can)
