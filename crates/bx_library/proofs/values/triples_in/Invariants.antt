use Rattle.bx_library.proofs.Listing.{Goes}
use Rattle.bx_library.proofs.values.triples_in.Given as goal

abbrev pub invariant-loop-value : goal.invariant-loop-value
invariant-loop-value l = Goes l.list l.triples.items l.value-index
