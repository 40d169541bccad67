use Rattle.std.proofs.Common.{refl}
use Rattle.bx_sample.specs.Library.{library_text}
use Rattle.bx_engine.specs.Steps.{sampling_of, out_of_memory}
use Rattle.bx_engine.specs.Texts.{IsRefusedLibrary}
use Rattle.bx_engine.proofs.Working.{reading_refuses, library_ends, unsampled_library}
use Rattle.bx_engine.proofs.sample.sample_from.Goals as goal

pub returns-in-Err-Fault : goal.returns-in-Err-Fault
returns-in-Err-Fault g c =
    reading_refuses (sampling_of c.args.command.now) (g.D.Desk.state c.args.desk.now) _ (IsRefusedLibrary library_text) _ _ _ c.refuse.ensures
    (library_ends library_text c.in-Err-Fault.field-0 c.in-Err-Fault.ensures.err) (cc (c.in-Err-Fault.field-0-is, c.in-Err-Fault.fault-is))
    (λ why. unsampled_library _ c.args.command.now c.args.source.now.net c.args.source.now.mapped c.requires _ why)

pub returns-in-Err-Unread : goal.returns-in-Err-Unread
returns-in-Err-Unread g c = out_of_memory refl
