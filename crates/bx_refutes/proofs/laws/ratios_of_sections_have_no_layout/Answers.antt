use Rattle.bx_refutes.proofs.Lacking.{sections-lack}
use Rattle.bx_refutes.proofs.laws.ratios_of_sections_have_no_layout.Goals as goal

pub returns : goal.returns
returns c = sections-lack
