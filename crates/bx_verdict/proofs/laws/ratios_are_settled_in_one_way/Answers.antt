use Rattle.bx_verdict.proofs.InOrder.{one-way}
use Rattle.bx_verdict.proofs.laws.ratios_are_settled_in_one_way.Goals as goal

pub returns : goal.returns
returns c = λ N permit budget ratios proofs others last end. one-way N permit budget ratios proofs others last end
