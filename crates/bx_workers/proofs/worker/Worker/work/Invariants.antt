use Rattle.std.proofs.Common.{◌-◌, length}
use Rattle.bx_workers.specs.Results.{tried_of}
use Rattle.bx_workers.specs.Working.{ratio_count}
use Rattle.bx_workers.proofs.Working.{IsAtWork}
use Rattle.bx_workers.proofs.worker.Worker.work.Given as goal

abbrev pub invariant-loop-index : goal.invariant-loop-index
invariant-loop-index g l = IsAtWork l.problem l.race l.fn.self.seat l.self.seat l.self.results

abbrev pub decreases-loop-index : goal.decreases-loop-index
decreases-loop-index g l = ratio_count l.problem - length (tried_of l.self.results)
