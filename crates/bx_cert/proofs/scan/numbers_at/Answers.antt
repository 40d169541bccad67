use Rattle.std.proofs.Common.{◌≡◌, ◌+◌, ◌<◌, ◌++◌, length, take, set, sym, ◌∙◌, ap, subst, arith}
use Rattle.std.proofs.lemmas.List.{take_more_set, length-set}
use Rattle.std.specs.List.{AllByRecursion}
use Rattle.std.specs.Prelude.{decimal}
use Rattle.bx_proof.proofs.Closed.{one_more, each_push}
use Rattle.bx_cert.specs.Certs.{IsNumber}
use Rattle.bx_cert.specs.Texts.{numbers}
use Rattle.bx_cert.proofs.Words.{goes_on, no_space, no_number}
use Rattle.bx_cert.proofs.scan.numbers_at.Goals as goal

pub returns-in_err-behind-clause-none : goal.returns-in_err-behind-clause-none
returns-in_err-behind-clause-none c = rw c.from_residual.ensures (λ ns r size at.
    let (ms, left, are, e) = c.loop-number.invariant.goes_on ns r (omega (arith, size)) at in
    let lt : c.loop-number.number-index < length c.loop-number.numbers = omega arith in
    no_space c.loop-number.rest.now c.loop-number.number-index (length c.loop-number.numbers) ms r lt left e c.in_err-behind.ensures.none)

pub returns-in_err-n-clause-none : goal.returns-in_err-n-clause-none
returns-in_err-n-clause-none c = rw c.from_residual-in_err-n.ensures (λ ns r size at.
    let (ms, left, are, e) = c.loop-number.invariant.goes_on ns r (omega (arith, size)) at in
    let lt : c.loop-number.number-index < length c.loop-number.numbers = omega arith in
    no_number c.loop-number.rest.now c.in_ok-behind.field-0.now c.loop-number.number-index (length c.loop-number.numbers) ms r lt c.in_ok-behind.ensures.found left are at.stops e c.in_err-n.ensures.none)

pub loop-number-preserved : goal.loop-number-preserved
loop-number-preserved c =
    let i = c.loop-number.number-index in
    let n = c.in_ok-n.n in
    let lt : i < length c.loop-number.numbers = omega arith in
    let more = take_more_set c.loop-number.numbers i n lt in
    let long : length (set c.loop-number.numbers i n) ≡ length c.loop-number.numbers = length-set c.loop-number.numbers i n in
    let at = c.in_ok-n.ensures.found in
    record {
      are = subst (AllByRecursion IsNumber) (sym more) (each_push IsNumber (take i c.loop-number.numbers) n c.loop-number.invariant.are (omega (arith, at.0)));
      spelled = one_more decimal c.args.text.now c.loop-number.rest.now c.in_ok-behind.field-0.now c.in_ok-n.next.now (take i c.loop-number.numbers) n c.loop-number.invariant.spelled c.in_ok-behind.ensures.found at.1.spelled ∙ ap (λ ns. numbers ns ++ c.in_ok-n.next.now) (sym more);
      stops = λ some. at.1.stops;
      goes_on = λ ns r size closed.
          let (ms, left, are, e) = c.loop-number.invariant.goes_on ns r (omega (arith, size, long)) closed in
          let (qs, more_left, are_left, rest) = goes_on c.loop-number.rest.now c.in_ok-behind.field-0.now c.in_ok-n.next.now n i (length c.loop-number.numbers) ms r lt c.in_ok-behind.ensures.found (omega (arith, at.0)) at.1 left are closed.stops e in
          (qs, (omega (arith, more_left, long)), are_left, rest);
    }
