use Rattle.std.proofs.Common.{refl}
use Rattle.bx_engine.specs.Runs.{no_memory}
use Rattle.bx_engine.proofs.Serving.{serves, serves_misuse}
use Rattle.bx_engine.proofs.engine.serve.Goals as goal

pub returns-in-Ok : goal.returns-in-Ok
returns-in-Ok g c = serves _ _ _ _ _ c.serve_command.ensures c.in-Ok.ensures.sound c.in-Ok.ensures.command

pub returns-in-Err-Fault : goal.returns-in-Err-Fault
returns-in-Err-Fault g c = serves_misuse _ _ _ _ _ c.refuse_words.ensures (c.in-Err-Fault.ensures.fault _ (cc (c.in-Err-Fault.field-0-is, c.in-Err-Fault.fault-is)))

pub returns-in-Err-NoMemory : goal.returns-in-Err-NoMemory
returns-in-Err-NoMemory g c = no_memory refl
