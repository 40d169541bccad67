use Rattle.bx_engine.specs.Designs.{IsRefusedDesign}
use Rattle.bx_engine.specs.Steps.{judgement_of}
use Rattle.bx_engine.specs.declared.status.Which.TheVariants.{DesignFile}
use Rattle.bx_engine.proofs.Working.{load_refuses, load_fails, load_starves, unjudged_design, has_both}
use Rattle.bx_engine.proofs.verify.verify_by.Goals as goal

pub returns-in-Err-Fault : goal.returns-in-Err-Fault
returns-in-Err-Fault g c =
    load_refuses (judgement_of c.args.command.now) (g.D.Desk.state c.args.desk.now) _ _ IsRefusedDesign c.args.command.now.design.now _ _ _ c.refuse.ensures c.in-Err-Fault.ensures.err (cc (c.in-Err-Fault.field-0-is, c.in-Err-Fault.fault-is))
    (λ text file why. unjudged_design _ c.args.command.now c.args.source.now.net c.args.source.now.mapped c.requires.module c.args.library.now c.requires.library text _ file why)

pub returns-in-Err-Unread : goal.returns-in-Err-Unread
returns-in-Err-Unread g c =
    load_fails (judgement_of c.args.command.now) (g.D.Desk.state c.args.desk.now) _ IsRefusedDesign c.args.command.now.design.now _ DesignFile c.in-Err-Unread.ensures.err c.in-Err-Unread.field-0-is (has_both _ c.args.command.now c.args.source.now.net c.args.source.now.mapped c.requires.module c.args.library.now c.requires.library)

pub returns-in-Err-NoMemory : goal.returns-in-Err-NoMemory
returns-in-Err-NoMemory g c =
    load_starves (judgement_of c.args.command.now) (g.D.Desk.state c.args.desk.now) _ IsRefusedDesign c.args.command.now.design.now _ c.in-Err-NoMemory.ensures.err c.in-Err-NoMemory.field-0-is
