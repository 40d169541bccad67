use Rattle.bx_dots.specs.Permits.{permit_of}
use Rattle.bx_engine.specs.Texts.{network_of}
use Rattle.bx_engine.proofs.Least.{least-before, least-none}
use Rattle.bx_engine.proofs.laws.worth.what_is_found_is_least.Goals as goal

pub returns-clause-found : goal.returns-clause-found
returns-clause-found c = λ task m lib ratio design cert said is. least-before task (network_of m) (permit_of lib) cert _ ratio is.least

pub returns-clause-undecided : goal.returns-clause-undecided
returns-clause-undecided c = λ task m lib ratio spent cert said is. least-before task (network_of m) (permit_of lib) cert _ ratio is.least

pub returns-clause-none_within : goal.returns-clause-none_within
returns-clause-none_within c = least-none
