use Rattle.bx_engine.specs.Designs.{IsRefusedCert}
use Rattle.bx_engine.specs.Steps.{judgement_of}
use Rattle.bx_engine.specs.declared.status.Which.TheVariants.{CertFile}
use Rattle.bx_engine.proofs.Working.{load_refuses, load_fails, load_starves, unjudged_cert, has_three}
use Rattle.bx_engine.proofs.verify.verify_design.Goals as goal

pub returns-in-Err-Fault : goal.returns-in-Err-Fault
returns-in-Err-Fault g c =
    load_refuses (judgement_of c.args.command.now) (g.D.Desk.state c.args.desk.now) _ _ IsRefusedCert c.args.command.now.cert.now _ _ _ c.refuse.ensures c.in-Err-Fault.ensures.err (cc (c.in-Err-Fault.field-0-is, c.in-Err-Fault.fault-is))
    (λ text file why. unjudged_cert _ c.args.command.now c.args.source.now.net c.args.source.now.mapped c.requires.module c.args.library.now c.requires.library c.args.design.now c.requires.design text _ file why)

pub returns-in-Err-Unread : goal.returns-in-Err-Unread
returns-in-Err-Unread g c =
    load_fails (judgement_of c.args.command.now) (g.D.Desk.state c.args.desk.now) _ IsRefusedCert c.args.command.now.cert.now _ CertFile c.in-Err-Unread.ensures.err c.in-Err-Unread.field-0-is (has_three _ c.args.command.now c.args.source.now.net c.args.source.now.mapped c.requires.module c.args.library.now c.requires.library c.args.design.now c.requires.design)

pub returns-in-Err-NoMemory : goal.returns-in-Err-NoMemory
returns-in-Err-NoMemory g c =
    load_starves (judgement_of c.args.command.now) (g.D.Desk.state c.args.desk.now) _ IsRefusedCert c.args.command.now.cert.now _ c.in-Err-NoMemory.ensures.err c.in-Err-NoMemory.field-0-is
