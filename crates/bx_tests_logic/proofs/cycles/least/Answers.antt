use Rattle.std.proofs.Common.{IsTrue, rules}
use Rattle.bx_tests_logic.proofs.cycles.least.Goals as goal

pub least_net_on_cycle-requires-clause-reads : goal.least_net_on_cycle-requires-clause-reads
least_net_on_cycle-requires-clause-reads g c =
    let holds : IsTrue c.can_be_asked_of.result = search rules in c.can_be_asked_of.ensures.reads holds

pub ranked-requires-clause-reads : goal.ranked-requires-clause-reads
ranked-requires-clause-reads g c =
    let holds : IsTrue c.can_be_asked_of.result = search rules in c.can_be_asked_of.ensures.reads holds
