use Rattle.std.proofs.Common.{refl}
use Rattle.bx_sample.specs.Samples.{sample_text}
use Rattle.bx_engine.specs.Steps.{sampling_of, out_of_memory}
use Rattle.bx_engine.specs.Texts.{IsRefused}
use Rattle.bx_engine.proofs.Working.{reading_refuses, text_ends, unsampled_module}
use Rattle.bx_engine.proofs.sample.serve_sample.Goals as goal

pub returns-in-Err-Fault : goal.returns-in-Err-Fault
returns-in-Err-Fault g c =
    reading_refuses (sampling_of c.args.command.now) (g.D.Desk.state c.args.desk.now) _ (IsRefused (sample_text c.args.command.now.number c.args.command.now.gates c.args.command.now.extra)) _ _ _ c.refuse.ensures
    (text_ends (sample_text c.args.command.now.number c.args.command.now.gates c.args.command.now.extra) c.in-Err-Fault.field-0 c.in-Err-Fault.ensures.err) (cc (c.in-Err-Fault.field-0-is, c.in-Err-Fault.fault-is))
    (λ why. unsampled_module _ c.args.command.now _ why)

pub returns-in-Err-Unread : goal.returns-in-Err-Unread
returns-in-Err-Unread g c = out_of_memory refl
