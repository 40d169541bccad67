use Rattle.std.proofs.Common.{◌≡◌, ◌≤◌, ◌∷◌, [], true, get_or, refl, ap, arith}
use Rattle.std.specs.Prelude.{codes}
use Rattle.bx_cert.proofs.Words.{one_worded}
use Rattle.bx_cert.proofs.Lines.{run_there, same_ratio}
use Rattle.bx_cert.proofs.scan.run_at.Goals as goal

pub returns-in_err-rest-clause-none : goal.returns-in_err-rest-clause-none
returns-in_err-rest-clause-none c = rw c.from_residual.ensures (λ ratio count rest at.
    c.in_err-rest.ensures.none (ratio.w ∷ ratio.h ∷ count ∷ []) rest refl (run_there c.args.text.now ratio count rest at))

pub returns-then-not-is_ratio-clause-none : goal.returns-then-not-is_ratio-clause-none
returns-then-not-is_ratio-clause-none c = λ ratio count rest at.
    let same = one_worded c.args.text.now (codes "clauses") c.worded_at.new.numbers (ratio.w ∷ ratio.h ∷ count ∷ []) c.in_ok-rest.rest.now rest (omega arith) c.in_ok-rest.ensures.found (run_there c.args.text.now ratio count rest at) in
    let is : c.is_ratio.result ≡ true = c.is_ratio.ensures.1 (same_ratio c.worded_at.new.numbers ratio (count ∷ []) same.0 at.said.0) in
    cc

pub returns-then-not-is_count-clause-none : goal.returns-then-not-is_count-clause-none
returns-then-not-is_count-clause-none c = λ ratio count rest at.
    let same = one_worded c.args.text.now (codes "clauses") c.worded_at.new.numbers (ratio.w ∷ ratio.h ∷ count ∷ []) c.in_ok-rest.rest.now rest (omega arith) c.in_ok-rest.ensures.found (run_there c.args.text.now ratio count rest at) in
    let own : get_or c.worded_at.new.numbers 2 0 ≡ count = ap (λ xs. get_or xs 2 0) same.0 in
    let some : 1 ≤ get_or c.worded_at.new.numbers 2 0 = omega (arith, own, at.said.1) in
    let most : get_or c.worded_at.new.numbers 2 0 ≤ 4294967294 = omega (arith, own, at.said.2) in
    let is : c.is_count.result ≡ true = c.is_count.ensures.1 (some, most) in
    cc
