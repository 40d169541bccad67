use Rattle.std.proofs.Common.{◌≡◌, ℤ, get_or, pos, true, SFits, to_z, of_z, w64, sym, subst, rules}
use Rattle.std.proofs.lemmas.Int.{to_z-of_z}
use Rattle.bx_dimacs.specs.Proofs.{IsOwnId}
use Rattle.bx_dimacs.specs.ProofTexts.{names_clause}
use Rattle.bx_dimacs.proofs.Stepping.{hint_more, names_more, number_at}
use Rattle.bx_dimacs.proofs.read.find_hints.Goals as goal

pub loop-number-preserved : goal.loop-number-preserved
loop-number-preserved c =
    let z : ℤ = number_at c.args.numbers.now c.loop-number.number-index in
    let fits : SFits w64 z = search rules in
    let same : to_z w64 (of_z w64 z) ≡ z = to_z-of_z w64 z fits in
    record {
      named = hint_more c.args.count c.args.ids.now c.args.numbers.now c.loop-number.hints.items c.push.new.self.items c.loop-number.number-index c.in-Some.hint c.loop-number-test.true c.loop-number.invariant.named (subst (λ y. IsOwnId c.args.count c.args.ids.now y c.in-Some.hint) same c.in-Some.ensures.own) c.in_ok-push.ensures.items;
      all = names_more c.args.count c.args.ids.now c.args.numbers.now c.loop-number.number-index c.loop-number-test.true c.loop-number.invariant.all (subst (λ y. names_clause c.args.count c.args.ids.now y ≡ true) same (sym c.in-Some.ensures.exact));
    }
