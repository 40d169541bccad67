use Rattle.bx_lines.proofs.Numbers.{one_number}
use Rattle.bx_lines.proofs.laws.there_is_one_number_at_the_front.Goals as goal

pub returns : goal.returns
returns c = λ bytes x y m n. one_number bytes m n x y
