use Rattle.std.proofs.Common.{refl}
use Rattle.bx_engine.specs.Steps.{task_of, answered, no_memory}
use Rattle.bx_engine.proofs.Serving.{has_solution}
use Rattle.bx_engine.proofs.engine.lay_out.Goals as goal

pub returns-in-Ok : goal.returns-in-Ok
returns-in-Ok g c =
    answered _ _ (has_solution _ (task_of c.args.command.now) _ _ _ c.requires.module c.requires.library _ _ _ c.in-Ok.ensures.solution c.in-Ok.ensures.drawn) c.give.ensures

pub returns-in-Err : goal.returns-in-Err
returns-in-Err g c = no_memory refl
