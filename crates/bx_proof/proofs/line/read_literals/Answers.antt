use Rattle.std.proofs.Common.{true, ◌++◌, refl, sym, ◌∙◌, ap, subst}
use Rattle.std.specs.List.{AllByRecursion}
use Rattle.bx_cnf.specs.Literals.{IsLiteral, literal_of, literal_text}
use Rattle.bx_proof.proofs.Closed.{items_text, next_of, no_next, no_space, each_push, one_more, closed_here}
use Rattle.bx_proof.proofs.Numbers.{literal, decimal_zero, literal_spelling, signed_literal, signed_zero, zero_signed_at, no_literal, as_written}
use Rattle.bx_proof.proofs.line.read_literals.Goals as goal

pub returns-in_default-signed_at : goal.returns-in_default-signed_at
returns-in_default-signed_at c = λ ls r each at.
    let (more, are, closed) = c.loop-word.invariant.goes_on ls r each at in
    no_next literal_text IsLiteral c.loop-word.rest.now c.in-Some.word.now more r c.in-Some.ensures.found
    (λ x s is e stops. c.in_default-signed_at.ensures.none x s (signed_literal x is) (record { spelled = e; stops = stops }))
    (λ s e stops. c.in_default-signed_at.ensures.none (literal 0 true) s signed_zero (zero_signed_at c.in-Some.word.now s e stops)) are closed

pub returns-in_default-from_number : goal.returns-in_default-from_number
returns-in_default-from_number c =
    let found = c.in-Some-signed_at.ensures.found in
    let behind = c.in-Some-signed_at.behind.now in
    let back = as_written c.in-Some-signed_at.number found.0 in
    let zero = no_literal (literal_of c.in-Some-signed_at.number) found.0 (λ is. (let never = c.in_default-from_number.ensures.some.1 (subst (λ z. IsLiteral (literal_of z)) (sym back) is) in cc)) in
    (c.loop-word.invariant.each, closed_here literal_text c.args.bytes.now c.loop-word.rest.now c.in-Some.word.now behind c.loop-word.literals.items c.loop-word.invariant.spelled c.in-Some.ensures.found (found.1.spelled ∙ ap (λ l. literal_text l ++ behind) zero ∙ decimal_zero behind) found.1.stops)

pub loop-word-preserved : goal.loop-word-preserved
loop-word-preserved c =
    let found = c.in-Some-signed_at.ensures.found in
    let l = c.in-Some-from_number.literal in
    let behind = c.in-Some-signed_at.behind.now in
    let items = c.in_ok-push.ensures.items in
    let back = as_written c.in-Some-signed_at.number found.0 in
    let same = c.in-Some-from_number.ensures.value ∙ ap literal_of back in
    let is : IsLiteral l = subst IsLiteral (sym c.in-Some-from_number.ensures.value) (c.in-Some-from_number.ensures.some.0 refl) in
    let spelled = found.1.spelled ∙ ap (λ m. literal_text m ++ behind) (sym same) in
    record {
      spelled = one_more literal_text c.args.bytes.now c.loop-word.rest.now c.in-Some.word.now behind c.loop-word.literals.items l c.loop-word.invariant.spelled c.in-Some.ensures.found spelled ∙ ap (λ ls. items_text literal_text ls ++ behind) (sym items);
      each = subst (AllByRecursion IsLiteral) (sym items) (each_push IsLiteral c.loop-word.literals.items l c.loop-word.invariant.each is);
      goes_on = λ ls r each at.
          let (more, are, closed) = c.loop-word.invariant.goes_on ls r each at in
          next_of literal_text IsLiteral literal_spelling c.loop-word.rest.now c.in-Some.word.now behind l more r c.in-Some.ensures.found spelled is found.1.stops are closed;
    }

pub returns : goal.returns
returns c = λ ls r each at.
    let (more, are, closed) = c.loop-word.invariant.goes_on ls r each at in
    no_space literal_text c.loop-word.rest.now more r c.in_default.ensures.none closed
