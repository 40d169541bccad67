use Rattle.bx_refutes.proofs.Lacking.{lacks}
use Rattle.bx_refutes.proofs.laws.a_refuted_ratio_has_no_layout.Goals as goal

pub returns : goal.returns
returns c = lacks
