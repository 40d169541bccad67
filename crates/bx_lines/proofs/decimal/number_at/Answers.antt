use Rattle.std.proofs.Common.{◌≡◌, [], sym, ◌∙◌, subst, arith}
use Rattle.std.proofs.lemmas.List.{nil_from_length}
use Rattle.bx_lines.specs.Decimals.{EndsNumber}
use Rattle.bx_lines.proofs.Numbers.{number_le, no_number, first_digit, next_digit, no_digit, zero_first}
use Rattle.bx_lines.proofs.decimal.number_at.Goals as goal

pub returns-in_err-first-clause-none : goal.returns-in_err-first-clause-none
returns-in_err-first-clause-none c =
    rw c.from_residual.ensures (λ n rest le is.
    let empty : c.args.bytes.now ≡ [] = nil_from_length c.args.bytes.now c.in_err-first.ensures.cases in
    no_number c.args.bytes.now n rest (omega arith) (subst EndsNumber (sym empty) tt) is)

pub returns-then-not-is_ascii_digit-clause-none : goal.returns-then-not-is_ascii_digit-clause-none
returns-then-not-is_ascii_digit-clause-none c = λ n rest le is.
    no_digit c.args.bytes.now c.in_ok-first.first.now n c.in_ok-first.rest.now rest (omega arith) c.in_ok-first.ensures.cases.0 c.if-not-is_ascii_digit.ensures.cases is

pub loop-n-init : goal.loop-n-init
loop-n-init c =
    let digit = c.if-not-is_ascii_digit.ensures.cases in
    record {
      spelled = first_digit c.args.bytes.now c.in_ok-first.first.now c.from-n.result c.in_ok-first.rest.now c.in_ok-first.ensures.cases.0 digit.0 digit.1 c.from-n.ensures;
      small = omega (arith, digit.0, digit.1, c.from-n.ensures);
    }

pub returns-then-n-eq0-clause-none : goal.returns-then-n-eq0-clause-none
returns-then-n-eq0-clause-none c = λ n rest le is.
    let digit = c.if-not-is_ascii_digit-2.ensures.cases in
    zero_first c.args.bytes.now c.loop-n.n c.in-Some.next.now n c.loop-n.rest.now c.in-Some.behind.now rest (omega arith) c.loop-n.invariant.spelled c.if-n-eq0.true c.in-Some.ensures.cases.0 digit.0 digit.1 is

pub loop-n-preserved : goal.loop-n-preserved
loop-n-preserved c =
    let digit = c.if-not-is_ascii_digit-2.ensures.cases in
    record {
      spelled = next_digit c.args.bytes.now c.loop-n.n c.from.result c.in-Some.next.now c.loop-n.rest.now c.in-Some.behind.now c.loop-n.invariant.spelled c.in-Some.ensures.cases.0 (omega arith) digit.0 digit.1 c.from.ensures (omega (arith, digit.1, c.from.ensures));
      small = omega (arith, digit.1, c.from.ensures);
    }

pub returns-clause-none : goal.returns-clause-none
returns-clause-none c = λ n rest le is.
    let at_most = number_le n c.loop-n.n rest c.loop-n.rest.now (omega arith) (omega (arith, c.loop-n.invariant.small)) is.stops (sym is.spelled ∙ c.loop-n.invariant.spelled) in
    omega (arith, at_most)
