use Rattle.std.proofs.Common.{◌≡◌, ◌∷◌, [], true, refl, arith}
use Rattle.std.specs.Prelude.{codes}
use Rattle.bx_cert.proofs.Words.{one_worded}
use Rattle.bx_cert.proofs.Lines.{gave_up_there, same_ratio}
use Rattle.bx_cert.proofs.scan.gave_up_at.Goals as goal

pub returns-in_err-rest-clause-none : goal.returns-in_err-rest-clause-none
returns-in_err-rest-clause-none c = rw c.from_residual.ensures (λ ratio spent rest at.
    c.in_err-rest.ensures.none (ratio.w ∷ ratio.h ∷ spent ∷ []) rest refl (gave_up_there c.args.text.now ratio spent rest at))

pub returns-else-is_ratio-clause-none : goal.returns-else-is_ratio-clause-none
returns-else-is_ratio-clause-none c = λ ratio spent rest at.
    let same = one_worded c.args.text.now (codes "undecided") c.worded_at.new.numbers (ratio.w ∷ ratio.h ∷ spent ∷ []) c.in_ok-rest.rest.now rest (omega arith) c.in_ok-rest.ensures.found (gave_up_there c.args.text.now ratio spent rest at) in
    let is : c.is_ratio.result ≡ true = c.is_ratio.ensures.1 (same_ratio c.worded_at.new.numbers ratio (spent ∷ []) same.0 at.said.0) in
    cc
