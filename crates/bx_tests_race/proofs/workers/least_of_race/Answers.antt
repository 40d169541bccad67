use Rattle.std.proofs.Common.{rules}
use Rattle.bx_tests_race.proofs.Ones.{as_many}
use Rattle.bx_tests_race.proofs.workers.least_of_race.Goals as goal

pub finish-requires-clause-all : goal.finish-requires-clause-all
finish-requires-clause-all g c = as_many c.all_work-ended.result.items _ c.all_work-ended.ensures.one (search rules)
