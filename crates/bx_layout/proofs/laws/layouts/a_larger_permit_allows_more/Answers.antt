use Rattle.bx_layout.proofs.Permitted.{under-larger, under-all}
use Rattle.bx_layout.proofs.laws.layouts.a_larger_permit_allows_more.Goals as goal

pub returns-clause-larger : goal.returns-clause-larger
returns-clause-larger c = under-larger

pub returns-clause-all : goal.returns-clause-all
returns-clause-all c = under-all
