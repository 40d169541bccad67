use Rattle.bx_engine.proofs.Designs.{each_design, design_not_both, design_refused_once, one_drawing}
use Rattle.bx_engine.proofs.laws.answers.each_design_is_refused_or_taken.Goals as goal

pub returns-clause-some : goal.returns-clause-some
returns-clause-some c = each_design

pub returns-clause-not_both : goal.returns-clause-not_both
returns-clause-not_both c = design_not_both

pub returns-clause-fault : goal.returns-clause-fault
returns-clause-fault c = design_refused_once

pub returns-clause-one_design : goal.returns-clause-one_design
returns-clause-one_design c = one_drawing
