use Rattle.bx_layout.specs.Permits.{test_of}
use Rattle.bx_verdict.proofs.InOrder.{AreKnownTo}
use Rattle.bx_verdict.proofs.settled.settle.Given as goal

abbrev pub invariant-loop-k : goal.invariant-loop-k
invariant-loop-k l = AreKnownTo l.net (test_of l.permit) l.budget l.ratios l.k l.refutations.items
