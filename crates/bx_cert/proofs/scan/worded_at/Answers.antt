use Rattle.std.proofs.Common.{◌≡◌, ℕ, List, ◌∷◌, ◌++◌, length, sym, ◌∙◌, arith}
use Rattle.std.proofs.lemmas.List.{append_cancel_left}
use Rattle.bx_cert.specs.Texts.{numbers}
use Rattle.bx_cert.specs.Readings.{IsWordedAt}
use Rattle.bx_cert.proofs.Words.{line_stops, one_numbers, map_none}
use Rattle.bx_cert.proofs.scan.worded_at.Goals as goal

pub returns-in_err-rest-clause-none : goal.returns-in_err-rest-clause-none
returns-in_err-rest-clause-none c = rw c.from_residual-in_err-rest.ensures (λ ns r size at.
    c.in_err-rest.ensures.none ns (10 ∷ r) size (record {
      are = at.are;
      spelled = append_cancel_left c.args.word.now c.in_ok-behind.field-0.now (numbers ns ++ 10 ∷ r) (sym c.in_ok-behind.ensures.found ∙ at.spelled);
      stops = line_stops r;
    }))

pub returns-clause-none : goal.returns-clause-none
returns-clause-none c = map_none ((rest : List ℕ) → c.in_ok-rest.rest.now ≡ 10 ∷ rest → ⊥) ((ns rest : List ℕ) → length ns ≡ length c.args.numbers.now → IsWordedAt c.args.text.now c.args.word.now ns rest → ⊥) c.behind-2.result c.behind-2.ensures.none (λ missed ns r size at.
    let found = c.in_ok-rest.ensures.found in
    let spelled : c.in_ok-behind.field-0.now ≡ numbers ns ++ 10 ∷ r = append_cancel_left c.args.word.now c.in_ok-behind.field-0.now (numbers ns ++ 10 ∷ r) (sym c.in_ok-behind.ensures.found ∙ at.spelled) in
    let same = one_numbers c.numbers_at.new.numbers ns c.in_ok-rest.rest.now (10 ∷ r) found.are at.are (omega (arith, size)) found.stops (line_stops r) (sym found.spelled ∙ spelled) in
    missed r same.1)
