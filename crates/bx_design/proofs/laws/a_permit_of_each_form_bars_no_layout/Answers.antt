use Rattle.bx_design.proofs.EachForm.{each-legal, each-lacking}
use Rattle.bx_design.proofs.laws.a_permit_of_each_form_bars_no_layout.Goals as goal

pub returns-clause-legal : goal.returns-clause-legal
returns-clause-legal c = each-legal

pub returns-clause-lacking : goal.returns-clause-lacking
returns-clause-lacking c = each-lacking
