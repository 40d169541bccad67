use Rattle.bx_forms.proofs.Exchange.{exchanged}
use Rattle.bx_forms.proofs.laws.operands_may_be_exchanged.Goals as goal

pub returns : goal.returns
returns c = exchanged
