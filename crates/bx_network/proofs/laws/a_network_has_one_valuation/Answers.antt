use Rattle.bx_network.proofs.Valuations.{one-valuation}
use Rattle.bx_network.proofs.laws.a_network_has_one_valuation.Goals as goal

pub returns : goal.returns
returns c = one-valuation
