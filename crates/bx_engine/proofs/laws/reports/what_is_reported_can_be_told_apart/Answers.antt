use Rattle.bx_engine.proofs.Reported.{reportable}
use Rattle.bx_engine.proofs.laws.reports.what_is_reported_can_be_told_apart.Goals as goal

pub returns : goal.returns
returns c = λ words task text m lib cert laid asks taken solves. reportable words task asks text m taken lib cert laid solves
