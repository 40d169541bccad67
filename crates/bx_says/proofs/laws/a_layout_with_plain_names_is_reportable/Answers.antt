use Rattle.bx_says.proofs.Reportable.{reportable}
use Rattle.bx_says.proofs.laws.a_layout_with_plain_names_is_reportable.Goals as goal

pub returns : goal.returns
returns c = reportable
