use Rattle.bx_search.proofs.Learned.{numbered-steps}
use Rattle.bx_search.proofs.solver.Solver.analyze.Goals as goal

pub learn-requires-clause-numbered : goal.learn-requires-clause-numbered
learn-requires-clause-numbered c some = numbered-steps c.args.self.now c.requires.reached.0 c.requires.agrees c.requires.reached.1 c.requires.reached.2 some
