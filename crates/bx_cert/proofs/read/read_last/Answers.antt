use Rattle.bx_cert.specs.declared.parts.CertLast.TheVariants.{Undecided, NoneWithin}
use Rattle.bx_cert.specs.Grammar.{at_section, ended_by}
use Rattle.bx_cert.proofs.Stopping.{not_last}
use Rattle.bx_cert.proofs.Readers.{found_stops, gave_up_stops, none_stops, other_stops, handed_on}
use Rattle.bx_cert.proofs.read.read_last.Goals as goal

pub returns-in_err-spots-in-FoundAt : goal.returns-in_err-spots-in-FoundAt
returns-in_err-spots-in-FoundAt c = handed_on _ _ c.from_residual.result c.in_err-spots-in-FoundAt.field-0.0 c.from_residual.ensures.1
    (λ d. found_stops d c.args.line c.in-FoundAt.ratio c.args.text.now c.args.before c.in_err-spots-in-FoundAt.field-0.0 c.in-FoundAt.is c.requires.said (c.in_err-spots-in-FoundAt.ensures d c.in-FoundAt.ratio))

pub returns-in_err-rest-in-GaveUp : goal.returns-in_err-rest-in-GaveUp
returns-in_err-rest-in-GaveUp c = handed_on _ _ c.from_residual-in_err-rest-in-GaveUp.result c.in_err-rest-in-GaveUp.field-0.0 c.from_residual-in_err-rest-in-GaveUp.ensures.1
    (λ d. gave_up_stops d c.args.line c.in-GaveUp.ratio c.in-GaveUp.spent c.args.text.now c.args.before c.in_err-rest-in-GaveUp.field-0.0 c.in-GaveUp.is c.requires.said (c.in_err-rest-in-GaveUp.ensures (ended_by d (Undecided c.in-GaveUp.ratio c.in-GaveUp.spent))))

pub returns-in_err-behind-in-NoRatio : goal.returns-in_err-behind-in-NoRatio
returns-in_err-behind-in-NoRatio c = handed_on _ _ c.from_residual-in_err-behind-in-NoRatio.result c.in_err-behind-in-NoRatio.field-0.0 c.from_residual-in_err-behind-in-NoRatio.ensures.1
    (λ d. none_stops d c.args.line c.args.text.now c.args.before c.in_err-behind-in-NoRatio.field-0.0 c.in-NoRatio.is (c.in_err-behind-in-NoRatio.ensures (ended_by d NoneWithin)))

pub returns-in_default : goal.returns-in_default
returns-in_default c = λ d. other_stops (at_section d) c.args.line c.args.text.now c.args.before (λ b to g. g) (λ e. e) c.requires.said (λ to. not_last d c.args.line to c.requires.no_section c.in_default.not-FoundAt c.in_default.not-GaveUp c.in_default.not-NoRatio)
