use Rattle.bx_bounds.proofs.Meaning.{no-layout}
use Rattle.bx_bounds.proofs.laws.a_refuted_ratio_has_no_layout.Goals as goal

pub returns : goal.returns
returns c = no-layout
