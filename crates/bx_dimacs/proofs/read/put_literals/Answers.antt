use Rattle.std.proofs.Common.{◌≡◌, ◌<◌, ◌⊎◌, ℤ, get_or, pos, SFits, to_z, of_z, w64, sym, subst, rules}
use Rattle.std.proofs.lemmas.Int.{to_z-of_z}
use Rattle.bx_cnf.specs.Literals.{literal_of}
use Rattle.bx_dimacs.proofs.Stepping.{literals_more, positive_more, no_literal_at, number_at}
use Rattle.bx_dimacs.proofs.read.put_literals.Goals as goal

pub returns-in_default-clause-none : goal.returns-in_default-clause-none
returns-in_default-clause-none c = λ _ vars few.
    let z : ℤ = number_at c.args.numbers.now c.loop-number.number-index in
    let fits : SFits w64 z = search rules in
    let same : to_z w64 (of_z w64 z) ≡ z = to_z-of_z w64 z fits in
    no_literal_at c.args.numbers.now c.loop-number.number-index vars c.loop-number-test.true (subst (λ y. (y ≡ pos 0) ⊎ (2147483647 < (literal_of y).var)) same c.in_default.ensures.none) few

pub loop-number-preserved : goal.loop-number-preserved
loop-number-preserved c =
    let z : ℤ = number_at c.args.numbers.now c.loop-number.number-index in
    let fits : SFits w64 z = search rules in
    let same : to_z w64 (of_z w64 z) ≡ z = to_z-of_z w64 z fits in
    record {
      found = literals_more c.args.numbers.now c.loop-number.literals.items c.push.new.self.items c.loop-number.number-index c.in-Some.literal c.loop-number-test.true c.loop-number.invariant.found (subst (λ y. c.in-Some.literal ≡ literal_of y) same c.in-Some.ensures.some.0) c.in_ok-push.ensures.items;
      positive = positive_more c.loop-number.literals.items c.push.new.self.items c.in-Some.literal c.loop-number.invariant.positive c.in-Some.ensures.some.1 c.in_ok-push.ensures.items;
    }
