use Rattle.bx_bounds.proofs.Decided.{first-count}
use Rattle.bx_bounds.proofs.laws.there_is_a_first_count_proof_or_none.Goals as goal

pub returns : goal.returns
returns c = first-count
