use Rattle.bx_logic.proofs.Valuations.{the_values, only_valuation, net-reads_within}
use Rattle.bx_logic.proofs.laws.a_net_has_one_valuation.Goals as goal

pub returns : goal.returns
returns c = λ net bits h. (the_values net.drivers bits, only_valuation net.drivers bits h.acyclic (net-reads_within net h))
