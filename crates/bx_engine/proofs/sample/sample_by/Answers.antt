use Rattle.std.proofs.Common.{refl}
use Rattle.bx_engine.specs.Samples.{summary_text}
use Rattle.bx_engine.specs.Statuses.{status_of}
use Rattle.bx_engine.specs.Steps.{sampling_of, out_of_memory}
use Rattle.bx_engine.proofs.Working.{job_told, has_summary}
use Rattle.bx_engine.proofs.sample.sample_by.Goals as goal

pub returns-in-Ok : goal.returns-in-Ok
returns-in-Ok g c =
    job_told (sampling_of c.args.command.now) (g.D.Desk.state c.args.desk.now) _ (status_of c.in-Ok.solution.cert.last)
    (summary_text c.args.command.now.number c.args.command.now.gates c.args.command.now.extra c.args.source.now.mapped c.in-Ok.solution.cert) _
    (has_summary _ c.args.command.now c.args.source.now.net c.args.source.now.mapped c.requires.module c.args.library.now c.requires.library c.in-Ok.solution.cert c.in-Ok.solution.found c.in-Ok.ensures.solution)
    c.say_summary.ensures

pub returns-in-Err : goal.returns-in-Err
returns-in-Err g c = out_of_memory refl
