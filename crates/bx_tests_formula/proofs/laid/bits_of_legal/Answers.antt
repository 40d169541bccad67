-- A layout that is legal under the permit of the test is legal under that of all forms.
use Rattle.bx_layout.specs.Permits.{test_of}
use Rattle.bx_layout.proofs.Permitted.{under-all}
use Rattle.bx_tests_formula.proofs.laid.bits_of_legal.Goals as goal

pub bits_of-requires-clause-legal : goal.bits_of-requires-clause-legal
bits_of-requires-clause-legal c =
    under-all c.args.net.now (test_of c.without.result) c.args.layout.now (c.is_legal.ensures.0 c.if-is_legal.true)
