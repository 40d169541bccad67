use Rattle.std.proofs.Common.{◌≡◌, ◌<◌, ◌/◌, ◌^◌, List, Bool, length, get_or, sym, ◌∙◌, ap, subst, arith, rules, w64}
use Rattle.std.proofs.lemmas.Bool.{eqb-true, eqb-false}
use Rattle.std.proofs.lemmas.List.{get_or_read}
use Rattle.std.proofs.lemmas.Nat.Bits.{bit_at_set_same, bit_at_set_other}
use Rattle.bx_least_set.specs.Numbers.{IsInBlock}
use Rattle.std.specs.Int.{bit_at}
use Rattle.bx_least_set.proofs.WordBits.{length-numbers_of, within-words, AreWords-set, Inserts-set, IsBlockFree-zero, IsInBlock-some}
use Rattle.bx_least_set.proofs.words.Words.put.Goals as goal

below : (c : goal.After-index_mut-arg-1) → c.args.number < c.self.inside.bound
below c = omega (arith, c.requires, length-numbers_of c.self.inside.bound c.self.inside.words.items, ap length c.self.view_is)

pub index_mut-word-requires : goal.index_mut-word-requires
index_mut-word-requires c = omega (arith, within-words c.self.inside.bound c.self.inside.words.items c.args.number c.self.invariant (below c), c.self.inside.words.ok.0)

pub invariant_of-self : goal.invariant_of-self
invariant_of-self c =
    let items = c.self.inside.words.items in
    let n = c.args.number in
    let less : n < c.self.inside.bound = omega (arith, c.requires, length-numbers_of c.self.inside.bound c.self.inside.words.items, ap length c.self.view_is) in
    let word : c.index_mut-word.result.now ≡ get_or items (n / 64) 0 = get_or_read items (n / 64) c.index_mut-word.result.now (within-words c.self.inside.bound items n c.self.invariant less) c.index_mut-word.ensures.value 0 in
    AreWords-set c.self.inside.bound items n _ c.self.invariant less
    (λ i small other. bit_at_set_other w64 c.index_mut-word.result.now _ (omega arith) i other ∙ ap (λ w. bit_at w i) word)

pub returns-clause-puts : goal.returns-clause-puts
returns-clause-puts c =
    let items = c.self.inside.words.items in
    let n = c.args.number in
    let less : n < c.self.inside.bound = omega (arith, c.requires, length-numbers_of c.self.inside.bound c.self.inside.words.items, ap length c.self.view_is) in
    let word : c.index_mut-word.result.now ≡ get_or items (n / 64) 0 = get_or_read items (n / 64) c.index_mut-word.result.now (within-words c.self.inside.bound items n c.self.invariant less) c.index_mut-word.ensures.value 0 in
    rw (← c.self.view_is)
    (Inserts-set c.self.inside.bound items n _ c.self.invariant less
    (λ i small other. bit_at_set_other w64 c.index_mut-word.result.now _ (omega arith) i other ∙ ap (λ w. bit_at w i) word)
    (bit_at_set_same w64 c.index_mut-word.result.now _ (omega arith)))

pub returns-clause-had_none : goal.returns-clause-had_none
returns-clause-had_none c zero =
    let items = c.self.inside.words.items in
    let n = c.args.number in
    let less : n < c.self.inside.bound = omega (arith, c.requires, length-numbers_of c.self.inside.bound c.self.inside.words.items, ap length c.self.view_is) in
    let word : c.index_mut-word.result.now ≡ get_or items (n / 64) 0 = get_or_read items (n / 64) c.index_mut-word.result.now (within-words c.self.inside.bound items n c.self.invariant less) c.index_mut-word.ensures.value 0 in
    rw (← c.self.view_is) (IsBlockFree-zero c.self.inside.bound items (n / 64) c.self.invariant (sym word ∙ eqb-true _ _ zero))

pub returns-clause-had_some : goal.returns-clause-had_some
returns-clause-had_some c some =
    let items = c.self.inside.words.items in
    let n = c.args.number in
    let less : n < c.self.inside.bound = omega (arith, c.requires, length-numbers_of c.self.inside.bound c.self.inside.words.items, ap length c.self.view_is) in
    let word : c.index_mut-word.result.now ≡ get_or items (n / 64) 0 = get_or_read items (n / 64) c.index_mut-word.result.now (within-words c.self.inside.bound items n c.self.invariant less) c.index_mut-word.ensures.value 0 in
    let small : c.index_mut-word.result.now < 2 ^ 64 = search rules in
    let differs = eqb-false _ _ some in
    subst (λ (s : List Bool). IsInBlock s (n / 64)) c.self.view_is
    (IsInBlock-some c.self.inside.bound items (n / 64) c.self.invariant (omega (arith, differs, word)) (omega (arith, small, word)))
