-- Condition by condition.
use Rattle.bx_decode.proofs.Legal.{legal}
use Rattle.bx_decode.proofs.laws.true_bits_are_a_legal_layout.Goals as goal

pub returns : goal.returns
returns c = legal
