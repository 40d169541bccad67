use Rattle.bx_verdict.proofs.Meaning.{verdict-refutes}
use Rattle.bx_verdict.proofs.laws.a_verdict_refutes.Goals as goal

pub returns : goal.returns
returns c = verdict-refutes
