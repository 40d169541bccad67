use Rattle.bx_quick.proofs.ChainValues.{outputs-read}
use Rattle.bx_quick.proofs.laws.a_chain_carries_its_values.Goals as goal

pub returns : goal.returns
returns c = λ w s t ops given borders before after some chain valuation run start x h.
    outputs-read w s ops t some chain given borders valuation before after run start x h
