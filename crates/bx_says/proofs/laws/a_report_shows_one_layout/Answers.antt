use Rattle.bx_says.proofs.Reports.{one_report}
use Rattle.bx_says.proofs.laws.a_report_shows_one_layout.Goals as goal

pub returns : goal.returns
returns c = one_report
