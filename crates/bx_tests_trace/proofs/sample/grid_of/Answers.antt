use Rattle.bx_layout.specs.Permits.{test_of}
use Rattle.bx_layout.proofs.Permitted.{under-all}
use Rattle.bx_tests_trace.proofs.sample.grid_of.Goals as goal

pub form_grid-requires : goal.form_grid-requires
form_grid-requires c =
    under-all c.args.net.now (test_of c.without.result) c.args.layout.now (c.is_legal.ensures.0 c.if-is_legal.true)
