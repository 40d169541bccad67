use Rattle.bx_verify.proofs.Parts.{first-once}
use Rattle.bx_verify.proofs.laws.one_part_is_the_first_to_fail.Goals as goal

pub returns : goal.returns
returns c = first-once
