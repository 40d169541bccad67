use Rattle.bx_engine.specs.Texts.{IsRefused}
use Rattle.bx_engine.specs.Steps.{judgement_of}
use Rattle.bx_engine.specs.declared.status.Which.TheVariants.{NetFile}
use Rattle.bx_engine.proofs.Working.{load_refuses, load_fails, load_starves, unjudged_net}
use Rattle.bx_engine.proofs.verify.serve_verify.Goals as goal

pub returns-in-Err-Fault : goal.returns-in-Err-Fault
returns-in-Err-Fault g c =
    load_refuses (judgement_of c.args.command.now) (g.D.Desk.state c.args.desk.now) _ _ IsRefused c.args.command.now.net.now _ _ _ c.refuse.ensures c.in-Err-Fault.ensures.err (cc (c.in-Err-Fault.field-0-is, c.in-Err-Fault.fault-is))
    (λ text file why. unjudged_net _ c.args.command.now text _ file why)

pub returns-in-Err-Unread : goal.returns-in-Err-Unread
returns-in-Err-Unread g c =
    load_fails (judgement_of c.args.command.now) (g.D.Desk.state c.args.desk.now) _ IsRefused c.args.command.now.net.now _ NetFile c.in-Err-Unread.ensures.err c.in-Err-Unread.field-0-is tt

pub returns-in-Err-NoMemory : goal.returns-in-Err-NoMemory
returns-in-Err-NoMemory g c =
    load_starves (judgement_of c.args.command.now) (g.D.Desk.state c.args.desk.now) _ IsRefused c.args.command.now.net.now _ c.in-Err-NoMemory.ensures.err c.in-Err-NoMemory.field-0-is
