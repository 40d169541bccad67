use Rattle.bx_engine.proofs.Readings.{inputs_refused_once, inputs_not_both, inputs_taken_once}
use Rattle.bx_engine.proofs.laws.answers.inputs_are_refused_or_taken.Goals as goal

pub returns-clause-not_both : goal.returns-clause-not_both
returns-clause-not_both c = inputs_not_both

pub returns-clause-fault : goal.returns-clause-fault
returns-clause-fault c = inputs_refused_once

pub returns-clause-taken : goal.returns-clause-taken
returns-clause-taken c = inputs_taken_once
