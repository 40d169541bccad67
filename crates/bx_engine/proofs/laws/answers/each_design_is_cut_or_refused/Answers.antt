use Rattle.bx_engine.proofs.Designs.{each_cut, cut_not_both, cut_refused_once, one_grid}
use Rattle.bx_engine.proofs.laws.answers.each_design_is_cut_or_refused.Goals as goal

pub returns-clause-some : goal.returns-clause-some
returns-clause-some c = each_cut

pub returns-clause-not_both : goal.returns-clause-not_both
returns-clause-not_both c = cut_not_both

pub returns-clause-fault : goal.returns-clause-fault
returns-clause-fault c = cut_refused_once

pub returns-clause-one_grid : goal.returns-clause-one_grid
returns-clause-one_grid c = one_grid
