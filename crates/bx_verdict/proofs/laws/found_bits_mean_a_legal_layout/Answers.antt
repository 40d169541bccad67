use Rattle.bx_verdict.proofs.Meaning.{found-true, found-legal}
use Rattle.bx_verdict.proofs.laws.found_bits_mean_a_legal_layout.Goals as goal

pub returns-clause-true_bits : goal.returns-clause-true_bits
returns-clause-true_bits c = found-true

pub returns-clause-legal : goal.returns-clause-legal
returns-clause-legal c = found-legal
