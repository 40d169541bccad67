use Rattle.std.proofs.Common.{subst}
use Rattle.bx_engine.specs.declared.load.NoInput.{NoInput}
use Rattle.bx_engine.specs.Runs.{FileEnds}
use Rattle.bx_engine.specs.Steps.{no_memory}
use Rattle.bx_engine.specs.Texts.{IsRefusedLibrary}
use Rattle.bx_engine.proofs.Serving.{refuses_library, unread_library}
use Rattle.bx_engine.proofs.engine.serve_module.Goals as goal

pub returns-in-Err-Fault : goal.returns-in-Err-Fault
returns-in-Err-Fault g c =
    refuses_library c.args.command.now _ _ _ c.requires _ _ _ _ _ c.refuse.ensures c.in-Err-Fault.ensures.err (cc (c.in-Err-Fault.field-0-is, c.in-Err-Fault.fault-is))

pub returns-in-Err-Unread : goal.returns-in-Err-Unread
returns-in-Err-Unread g c = unread_library c.args.command.now _ _ _ c.requires _ _ c.in-Err-Unread.ensures.err c.in-Err-Unread.field-0-is

pub returns-in-Err-NoMemory : goal.returns-in-Err-NoMemory
returns-in-Err-NoMemory g c =
    no_memory
    (subst (λ (e : NoInput). FileEnds IsRefusedLibrary (g.D.Desk.state c.args.desk.now) (g.D.Desk.state c.load_library.new.desk) c.args.command.now.lib.now e) c.in-Err-NoMemory.field-0-is c.in-Err-NoMemory.ensures.err)
