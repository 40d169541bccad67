use Rattle.bx_engine.specs.Texts.{IsRefusedLibrary}
use Rattle.bx_engine.specs.Steps.{extraction_of}
use Rattle.bx_engine.specs.declared.status.Which.TheVariants.{LibFile}
use Rattle.bx_engine.proofs.Working.{load_refuses, load_fails, load_starves, refused_library}
use Rattle.bx_engine.proofs.extract.serve_extract.Goals as goal

pub returns-in-Err-Fault : goal.returns-in-Err-Fault
returns-in-Err-Fault g c =
    load_refuses (extraction_of c.args.command.now) (g.D.Desk.state c.args.desk.now) _ _ IsRefusedLibrary c.args.command.now.lib.now _ _ _ c.refuse.ensures c.in-Err-Fault.ensures.err (cc (c.in-Err-Fault.field-0-is, c.in-Err-Fault.fault-is))
    (λ text file why. refused_library _ c.args.command.now text _ file why)

pub returns-in-Err-Unread : goal.returns-in-Err-Unread
returns-in-Err-Unread g c =
    load_fails (extraction_of c.args.command.now) (g.D.Desk.state c.args.desk.now) _ IsRefusedLibrary c.args.command.now.lib.now _ LibFile c.in-Err-Unread.ensures.err c.in-Err-Unread.field-0-is tt

pub returns-in-Err-NoMemory : goal.returns-in-Err-NoMemory
returns-in-Err-NoMemory g c =
    load_starves (extraction_of c.args.command.now) (g.D.Desk.state c.args.desk.now) _ IsRefusedLibrary c.args.command.now.lib.now _ c.in-Err-NoMemory.ensures.err c.in-Err-NoMemory.field-0-is
