use Rattle.std.proofs.Common.{◌++◌, sym, ◌∙◌, ap, subst, arith}
use Rattle.std.specs.Prelude.{decimal}
use Rattle.std.specs.List.{AllByRecursion}
use Rattle.bx_proof.specs.Readings.{IsHint}
use Rattle.bx_proof.proofs.Closed.{items_text, next_of, no_next, no_space, each_push, one_more, closed_here}
use Rattle.bx_proof.proofs.Numbers.{decimal_zero, zero_at, hint_spelling}
use Rattle.bx_proof.proofs.line.read_hints.Goals as goal

pub returns-in_default-number_at : goal.returns-in_default-number_at
returns-in_default-number_at c = λ hs r each at.
    let (more, are, closed) = c.loop-word.invariant.goes_on hs r each at in
    no_next decimal IsHint c.loop-word.rest.now c.in-Some.word.now more r c.in-Some.ensures.found
    (λ x s is e stops. c.in_default-number_at.ensures.none x s (omega (arith, is.1)) (record { spelled = e; stops = stops }))
    (λ s e stops. c.in_default-number_at.ensures.none 0 s (omega arith) (zero_at c.in-Some.word.now s e stops)) are closed

pub returns-then-hint-eq0 : goal.returns-then-hint-eq0
returns-then-hint-eq0 c =
    let number = c.in-Some-number_at.ensures.found.1 in
    let behind = c.in-Some-number_at.behind.now in
    (c.loop-word.invariant.each, closed_here decimal c.args.bytes.now c.loop-word.rest.now c.in-Some.word.now behind c.loop-word.hints.items c.loop-word.invariant.spelled c.in-Some.ensures.found (number.spelled ∙ ap (λ n. decimal n ++ behind) c.if-hint-eq0.true ∙ decimal_zero behind) number.stops)

pub loop-word-preserved : goal.loop-word-preserved
loop-word-preserved c =
    let found = c.in-Some-number_at.ensures.found in
    let hint = c.in-Some-number_at.hint in
    let behind = c.in-Some-number_at.behind.now in
    let items = c.in_ok-push.ensures.items in
    let is : IsHint hint = (omega (arith, c.if-hint-eq0.false), omega (arith, found.0)) in
    record {
      spelled = one_more decimal c.args.bytes.now c.loop-word.rest.now c.in-Some.word.now behind c.loop-word.hints.items hint c.loop-word.invariant.spelled c.in-Some.ensures.found found.1.spelled ∙ ap (λ hs. items_text decimal hs ++ behind) (sym items);
      each = subst (AllByRecursion IsHint) (sym items) (each_push IsHint c.loop-word.hints.items hint c.loop-word.invariant.each is);
      goes_on = λ hs r each at.
          let (more, are, closed) = c.loop-word.invariant.goes_on hs r each at in
          next_of decimal IsHint hint_spelling c.loop-word.rest.now c.in-Some.word.now behind hint more r c.in-Some.ensures.found found.1.spelled is found.1.stops are closed;
    }

pub returns : goal.returns
returns c = λ hs r each at.
    let (more, are, closed) = c.loop-word.invariant.goes_on hs r each at in
    no_space decimal c.loop-word.rest.now more r c.in_default.ensures.none closed
