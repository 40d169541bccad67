use Rattle.std.proofs.Common.{refl}
use Rattle.bx_engine.specs.Designs.{IsRefusedCut}
use Rattle.bx_engine.specs.Steps.{extraction_of, out_of_memory}
use Rattle.bx_engine.specs.declared.status.Status.TheVariants.{Done}
use Rattle.bx_engine.proofs.Working.{job_told, reading_refuses, refused_cut, has_grid}
use Rattle.bx_engine.proofs.extract.extract_from.Goals as goal

pub returns-in-Ok : goal.returns-in-Ok
returns-in-Ok g c =
    let (said, tells, ends) = c.say_grid.ensures in
    job_told (extraction_of c.args.command.now) (g.D.Desk.state c.args.desk.now) _ Done said _
    (has_grid _ c.args.command.now c.args.library.now c.requires.library c.args.design.now c.requires.design c.in-Ok.grid said c.in-Ok.ensures.grid tells) ends

pub returns-in-Err-Fault : goal.returns-in-Err-Fault
returns-in-Err-Fault g c =
    reading_refuses (extraction_of c.args.command.now) (g.D.Desk.state c.args.desk.now) _ (IsRefusedCut c.args.library.now c.args.design.now) _ _ _ c.refuse.ensures c.in-Err-Fault.ensures.err
    (cc (c.in-Err-Fault.field-0-is, c.in-Err-Fault.fault-is))
    (λ why. refused_cut _ c.args.command.now c.args.library.now c.requires.library c.args.design.now c.requires.design _ why)

pub returns-in-Err-Unread : goal.returns-in-Err-Unread
returns-in-Err-Unread g c = out_of_memory refl
