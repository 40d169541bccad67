use Rattle.bx_verify.proofs.Parts.{verdict-once}
use Rattle.bx_verify.proofs.laws.there_is_one_verdict.Goals as goal

pub returns : goal.returns
returns c = verdict-once
