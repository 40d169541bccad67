use Rattle.bx_engine.proofs.Networks.{ends_library, library_ends}
use Rattle.bx_engine.proofs.load.library.library_of_text.Goals as goal

pub returns-in_err-library-clause-err : goal.returns-in_err-library-clause-err
returns-in_err-library-clause-err c =
    ends_library c.args.text.now c.from_residual.result _ c.from_residual.ensures.1 (library_ends c.args.text.now c.requires c.in_err-library.field-0.0 c.in_err-library.ensures.faults)
