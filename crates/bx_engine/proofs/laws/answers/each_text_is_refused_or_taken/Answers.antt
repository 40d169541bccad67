use Rattle.bx_engine.proofs.EachText.{each_text}
use Rattle.bx_engine.proofs.Readings.{refused_once, not_both, one_module}
use Rattle.bx_engine.proofs.laws.answers.each_text_is_refused_or_taken.Goals as goal

pub returns-clause-some : goal.returns-clause-some
returns-clause-some c = each_text

pub returns-clause-not_both : goal.returns-clause-not_both
returns-clause-not_both c = not_both

pub returns-clause-fault : goal.returns-clause-fault
returns-clause-fault c = refused_once

pub returns-clause-one_module : goal.returns-clause-one_module
returns-clause-one_module c = one_module
