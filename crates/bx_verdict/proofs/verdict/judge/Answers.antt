-- What is found by counting or by a search is the verdict, and shows so much.
use Rattle.std.proofs.Common.{◌≤◌, length, subst, sym}
use Rattle.bx_cnf.specs.Formulas.{Formula}
use Rattle.bx_encode.proofs.Framing.{frame-is}
use Rattle.bx_layout.specs.Permits.{test_of}
use Rattle.bx_encode.specs.Sizes.{most_clauses}
use Rattle.bx_encode.proofs.Formed.{clauses-le}
use Rattle.bx_verdict.proofs.Meaning.{count-shows, answer-shows}
use Rattle.bx_verdict.proofs.verdict.judge.Goals as goal

pub returns-in-Some-clause-shows : goal.returns-in-Some-clause-shows
returns-in-Some-clause-shows g c = count-shows c.args.net.now (test_of c.args.permit.now) c.args.ratio c.node_count-nodes.ensures.network c.in-Some.proof c.in-Some.ensures.first

pub search-requires-clause-few : goal.search-requires-clause-few
search-requires-clause-few g c =
    subst (λ (f : Formula). length f.clauses ≤ most_clauses) (sym c.in_ok-clauses.ensures)
    (clauses-le c.args.net.now c.args.ratio (frame-is c.args.net.now c.args.ratio c.node_count-nodes.ensures.network c.requires.grid c.requires.nodes c.requires.area) (test_of c.args.permit.now))

pub returns-clause-shows : goal.returns-clause-shows
returns-clause-shows g c =
    answer-shows c.args.net.now (test_of c.args.permit.now) c.args.ratio c.args.budget c.in_ok-clauses.clauses c.in_ok-clauses.ensures c.in_default.ensures.first c.search.result
    c.node_count-nodes.ensures.network c.len-count.ensures.formed _ c.search.ensures.ended
