use Rattle.std.proofs.Common.{◌≡◌, ◌∷◌, ◌++◌, [], true, refl, arith}
use Rattle.bx_cert.specs.Texts.{count_text}
use Rattle.bx_cert.proofs.Lines.{counted_there, counted_same, same_ratio}
use Rattle.bx_cert.proofs.scan.counted_at.Goals as goal

pub returns-in_err-rest-clause-none : goal.returns-in_err-rest-clause-none
returns-in_err-rest-clause-none c = rw c.from_residual-in_err-rest.ensures (λ ratio proof rest at.
    c.in_err-rest.ensures.none (ratio.w ∷ ratio.h ∷ []) (count_text proof ++ 10 ∷ rest) refl (counted_there c.args.text.now c.in_ok-behind.field-0.now ratio proof rest c.in_ok-behind.ensures.found at))

pub returns-then-not-is_ratio-clause-none : goal.returns-then-not-is_ratio-clause-none
returns-then-not-is_ratio-clause-none c = λ ratio proof rest at.
    let same = counted_same c.args.text.now c.in_ok-behind.field-0.now c.numbers_at.new.numbers c.in_ok-rest.rest.now ratio proof rest c.in_ok-behind.ensures.found (omega arith) c.in_ok-rest.ensures.found at in
    let is : c.is_ratio.result ≡ true = c.is_ratio.ensures.1 (same_ratio c.numbers_at.new.numbers ratio [] same.0 at.said.0) in
    cc

pub returns-in_err-proof-clause-none : goal.returns-in_err-proof-clause-none
returns-in_err-proof-clause-none c = rw c.from_residual-in_err-proof.ensures (λ ratio proof rest at.
    let same = counted_same c.args.text.now c.in_ok-behind.field-0.now c.numbers_at.new.numbers c.in_ok-rest.rest.now ratio proof rest c.in_ok-behind.ensures.found (omega arith) c.in_ok-rest.ensures.found at in
    c.in_err-proof.ensures.none proof rest same.1)
