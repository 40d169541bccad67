use Rattle.bx_engine.specs.Steps.{task_of}
use Rattle.bx_engine.proofs.Endings.{gives_solution, gives_no_file}
use Rattle.bx_engine.proofs.engine.give.Goals as goal

pub returns-in-Ok : goal.returns-in-Ok
returns-in-Ok g c =
    gives_solution _ _ _ (task_of c.args.command.now) c.args.source.now.net c.args.source.now.mapped c.args.plan.now.solution.cert c.args.plan.now.solution.found c.args.plan.now.design _
    c.in-Ok.ensures.ok c.report.ensures

pub returns-in-Err : goal.returns-in-Err
returns-in-Err g c =
    gives_no_file _ _ (task_of c.args.command.now) c.args.source.now.net c.args.source.now.mapped c.args.plan.now.solution.cert c.args.plan.now.solution.found c.args.plan.now.design _
    c.in-Err.ensures.err
