use Rattle.bx_engine.specs.Samples.{sample_limits}
use Rattle.bx_engine.proofs.Permits.{library-solution}
use Rattle.bx_engine.proofs.Working.{sample_limits_are, few_sections}
use Rattle.bx_engine.proofs.sample.lay_out.Goals as goal

pub returns-clause-solution : goal.returns-clause-solution
returns-clause-solution g c =
    library-solution c.args.library.now c.same-permit.result c.offers.result c.offers.ensures c.same-permit.ensures _ _ _ _ _ c.in_ok-solution.ensures.exact

pub returns-clause-few : goal.returns-clause-few
returns-clause-few g c = few_sections _ _ sample_limits 2000 _ _ sample_limits_are c.in_ok-solution.ensures.minimal
