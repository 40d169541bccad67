use Rattle.std.proofs.Common.{List, refl, ◌∙◌, ap}
use Rattle.bx_cert.specs.declared.parts.Section.{Section}
use Rattle.bx_desk.proofs.Saying.{says_then, says_failed, says_as}
use Rattle.bx_engine.specs.Samples.{tally_of}
use Rattle.bx_engine.proofs.Lines.{summary-parts}
use Rattle.bx_engine.proofs.sample.put_summary.Goals as goal

pub returns-in_err-put_sample : goal.returns-in_err-put_sample
returns-in_err-put_sample g c = says_as _ _ _ _ _ _ _ (summary-parts c.args.command.now.number c.args.command.now.gates c.args.command.now.extra c.args.mapped.now c.args.cert.now c.args.cert.now.last (tally_of c.args.cert.now.sections) refl refl)
    (says_failed _ _ _ _ _ _ _ _ _ c.in_err-put_sample.was c.from_residual.ensures.0 c.put_sample.ensures)

pub returns-in_err-put_size : goal.returns-in_err-put_size
returns-in_err-put_size g c = says_as _ _ _ _ _ _ _ (summary-parts c.args.command.now.number c.args.command.now.gates c.args.command.now.extra c.args.mapped.now c.args.cert.now c.args.cert.now.last (tally_of c.args.cert.now.sections) refl refl)
    (says_then _ _ _ _ _ _ _ _ _ _ _ c.in_ok-put_sample.was c.put_sample.ensures
    (says_failed _ _ _ _ _ _ _ _ _ c.in_err-put_size.was c.from_residual-in_err-put_size.ensures.0 c.put_size.ensures))

pub returns-in_err-put_last : goal.returns-in_err-put_last
returns-in_err-put_last g c = says_as _ _ _ _ _ _ _ (summary-parts c.args.command.now.number c.args.command.now.gates c.args.command.now.extra c.args.mapped.now c.args.cert.now c.last.result.now (tally_of c.args.cert.now.sections) c.last.ensures.last refl)
    (says_then _ _ _ _ _ _ _ _ _ _ _ c.in_ok-put_sample.was c.put_sample.ensures
    (says_then _ _ _ _ _ _ _ _ _ _ _ c.in_ok-put_size.was c.put_size.ensures
    (says_failed _ _ _ _ _ _ _ _ _ c.in_err-put_last.was c.from_residual-in_err-put_last.ensures.0 c.put_last.ensures)))

pub returns : goal.returns
returns g c = says_as _ _ _ _ _ _ _
    (summary-parts c.args.command.now.number c.args.command.now.gates c.args.command.now.extra c.args.mapped.now c.args.cert.now c.last.result.now c.count_up.result c.last.ensures.last
    (c.count_up.ensures ∙ ap (λ (xs : List Section). tally_of xs) (c.as_slice.ensures ∙ c.sections.ensures.sections)))
    (says_then _ _ _ _ _ _ _ _ _ _ _ c.in_ok-put_sample.was c.put_sample.ensures
    (says_then _ _ _ _ _ _ _ _ _ _ _ c.in_ok-put_size.was c.put_size.ensures
    (says_then _ _ _ _ _ _ _ _ _ _ _ c.in_ok-put_last.was c.put_last.ensures c.put_tally.ensures)))
