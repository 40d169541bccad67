use Rattle.std.proofs.Common.{refl}
use Rattle.bx_engine.specs.Steps.{judgement_of, out_of_memory}
use Rattle.bx_engine.specs.Verdicts.{status_for, verdict_text}
use Rattle.bx_engine.proofs.Working.{job_told, has_verdict, is_judged, mapped_again}
use Rattle.bx_engine.proofs.verify.judge.Goals as goal

pub returns-in-Ok : goal.returns-in-Ok
returns-in-Ok g c =
    let (judged, means) = is_judged c.args.source.now.net c.args.library.now c.args.design.now c.args.cert.now c.verify.result c.in-Ok.verdict c.in-Ok.is c.verify.ensures.minimal_only c.verify.ensures.wrong_only c.verify.ensures.means in
    job_told (judgement_of c.args.command.now) (g.D.Desk.state c.args.desk.now) _ (status_for c.in-Ok.verdict) (verdict_text c.args.cert.now c.in-Ok.verdict) _
    (has_verdict _ c.args.command.now c.args.source.now.net c.args.source.now.mapped c.requires.module c.args.library.now c.requires.library c.args.design.now c.requires.design c.args.cert.now c.requires.cert c.in-Ok.verdict judged means)
    c.say_verdict.ensures

pub returns-in-Err-NoMemory : goal.returns-in-Err-NoMemory
returns-in-Err-NoMemory g c = out_of_memory refl

pub unreachable-requires : goal.unreachable-requires
unreachable-requires g c = mapped_again c.args.source.now.net c.args.source.now.mapped _ c.args.command.now.net.now c.in-Err-Map.field-0-0 c.requires.module (c.verify.ensures.map_only c.in-Err-Map.field-0-0 (cc (c.in-Err-Map.is, c.in-Err-Map.field-0-is)))
