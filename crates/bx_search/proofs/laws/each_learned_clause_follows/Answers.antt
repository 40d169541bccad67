use Rattle.bx_search.proofs.Following.{each-after, each-of_log}
use Rattle.bx_search.proofs.laws.each_learned_clause_follows.Goals as goal

pub returns : goal.returns
returns c = record { learned = each-after; log = each-of_log }
