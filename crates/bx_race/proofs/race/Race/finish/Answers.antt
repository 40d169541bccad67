use Rattle.std.proofs.Common.{rules, arith, ap}
use Rattle.bx_race.proofs.RuleSteps.{close_keeps}
use Rattle.bx_race.proofs.Joining.{least_of_all, all_below_done}
use Rattle.bx_race.proofs.race.Race.finish.Goals as goal

pub load-least-requires : goal.load-least-requires
load-least-requires c = (search rules, search rules, close_keeps _ _ _ _ (omega arith) (omega (arith, c.join-whole.ensures.together.stands)))

pub returns-clause-least : goal.returns-clause-least
returns-clause-least c =
    let closed = c.load-least.ensures.2 in
    least_of_all _ _ _ _ _ (ap (λ m. m.0) closed.0) c.join-whole.ensures.of_race.1 closed.1.1

pub returns-clause-done : goal.returns-clause-done
returns-clause-done c =
    let closed = c.load-least.ensures.2 in
    all_below_done _ _ _ _ _ (ap (λ m. m.0) closed.0) (omega arith) c.join-whole.ensures.together c.join-whole.ensures.idle closed.1.1
