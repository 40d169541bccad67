use Rattle.bx_engine.proofs.Endings.{found_written}
use Rattle.bx_engine.proofs.write.write_found.Goals as goal

pub returns-in-Some-clause-err : goal.returns-in-Some-clause-err
returns-in-Some-clause-err g c = (found_written _ _ c.args.name.now c.args.design.now _ _ c.in-Some.is (c.write_drawing.ensures.ok, c.write_drawing.ensures.err)).1
