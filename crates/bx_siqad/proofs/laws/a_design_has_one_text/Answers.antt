use Rattle.bx_siqad.proofs.OneDesign.{one_design}
use Rattle.bx_siqad.proofs.laws.a_design_has_one_text.Goals as goal

pub returns-clause-one_design : goal.returns-clause-one_design
returns-clause-one_design c = one_design
