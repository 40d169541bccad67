use Rattle.bx_lines.proofs.Above.{above_is_line}
use Rattle.bx_sample.proofs.Above.{line_above}
use Rattle.bx_sample.proofs.laws.the_lines_of_a_sample_are_lines.Goals as goal

pub returns : goal.returns
returns c number gates extra line some few has = above_is_line line (line_above number gates extra line some few has)
