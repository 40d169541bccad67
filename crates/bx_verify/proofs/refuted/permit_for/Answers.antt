use Rattle.bx_verify.proofs.Permits.{library-permit}
use Rattle.bx_verify.proofs.refuted.permit_for.Goals as goal

pub returns-clause-allows : goal.returns-clause-allows
returns-clause-allows c = library-permit c.args.library.now c.same.result c.offers.result c.offers.ensures c.same.ensures
