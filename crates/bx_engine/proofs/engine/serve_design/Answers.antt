use Rattle.std.proofs.Common.{subst}
use Rattle.bx_engine.specs.declared.load.NoInput.{NoInput}
use Rattle.bx_engine.specs.declared.status.Which.TheVariants.{NetFile}
use Rattle.bx_engine.specs.Runs.{FileEnds}
use Rattle.bx_engine.specs.Steps.{unread, no_memory}
use Rattle.bx_engine.specs.Texts.{IsRefused}
use Rattle.bx_engine.proofs.Serving.{refuses}
use Rattle.bx_engine.proofs.engine.serve_design.Goals as goal

pub returns-in-Err-Fault : goal.returns-in-Err-Fault
returns-in-Err-Fault g c = refuses c.args.command.now _ _ _ _ _ _ c.refuse.ensures c.in-Err-Fault.ensures.err (cc (c.in-Err-Fault.field-0-is, c.in-Err-Fault.fault-is))

pub returns-in-Err-Unread : goal.returns-in-Err-Unread
returns-in-Err-Unread g c =
    unread NetFile tt
    (subst (λ (e : NoInput). FileEnds IsRefused (g.D.Desk.state c.args.desk.now) (g.D.Desk.state c.load_module.new.desk) c.args.command.now.net.now e) c.in-Err-Unread.field-0-is c.in-Err-Unread.ensures.err)

pub returns-in-Err-NoMemory : goal.returns-in-Err-NoMemory
returns-in-Err-NoMemory g c =
    no_memory
    (subst (λ (e : NoInput). FileEnds IsRefused (g.D.Desk.state c.args.desk.now) (g.D.Desk.state c.load_module.new.desk) c.args.command.now.net.now e) c.in-Err-NoMemory.field-0-is c.in-Err-NoMemory.ensures.err)
