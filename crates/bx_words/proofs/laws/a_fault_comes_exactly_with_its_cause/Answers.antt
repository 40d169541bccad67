use Rattle.bx_words.proofs.CauseLemmas.{causes}
use Rattle.bx_words.proofs.laws.a_fault_comes_exactly_with_its_cause.Goals as goal

pub returns : goal.returns
returns c = causes
