use Rattle.bx_sat.proofs.ValueLines.{solution_short}
use Rattle.bx_sat.proofs.laws.a_line_of_values_is_short.Goals as goal

pub returns : goal.returns
returns c = solution_short
