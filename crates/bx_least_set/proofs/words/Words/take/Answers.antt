use Rattle.std.proofs.Common.{◌≡◌, ◌<◌, ◌/◌, ◌^◌, length, get_or, sym, ◌∙◌, ap, subst, arith, rules, w64}
use Rattle.std.proofs.lemmas.Bool.{eqb-true}
use Rattle.std.proofs.lemmas.List.{get_or_read, get_or-set_same}
use Rattle.std.proofs.lemmas.Nat.Bits.{bit_at_clear_same, bit_at_clear_other}
use Rattle.std.specs.Int.{bit_at}
use Rattle.bx_least_set.proofs.WordBits.{length-numbers_of, within-words, AreWords-set, Removes-set, IsBlockFree-zero, IsInBlock-some, positive, and_small}
use Rattle.bx_least_set.proofs.words.Words.take.Goals as goal

below : (c : goal.After-index_mut-arg-1) → c.args.number < c.self.inside.bound
below c = omega (arith, c.requires, length-numbers_of c.self.inside.bound c.self.inside.words.items, ap length c.self.view_is)

pub index_mut-word-requires : goal.index_mut-word-requires
index_mut-word-requires c = omega (arith, within-words c.self.inside.bound c.self.inside.words.items c.args.number c.self.invariant (below c), c.self.inside.words.ok.0)

pub invariant_of-self : goal.invariant_of-self
invariant_of-self c =
    let items = c.self.inside.words.items in
    let n = c.args.number in
    let less : n < c.self.inside.bound = omega (arith, c.requires, length-numbers_of c.self.inside.bound c.self.inside.words.items, ap length c.self.view_is) in
    let word : c.index_mut-word.result.now ≡ get_or items (n / 64) 0 = get_or_read items (n / 64) c.index_mut-word.result.now (within-words c.self.inside.bound items n c.self.invariant less) c.index_mut-word.ensures.value 0 in
    AreWords-set c.self.inside.bound items n _ c.self.invariant less
    (λ i small other. bit_at_clear_other w64 c.index_mut-word.result.now _ (omega arith) i small other ∙ ap (λ w. bit_at w i) word)

pub returns-clause-takes : goal.returns-clause-takes
returns-clause-takes c =
    let items = c.self.inside.words.items in
    let n = c.args.number in
    let less : n < c.self.inside.bound = omega (arith, c.requires, length-numbers_of c.self.inside.bound c.self.inside.words.items, ap length c.self.view_is) in
    let word : c.index_mut-word.result.now ≡ get_or items (n / 64) 0 = get_or_read items (n / 64) c.index_mut-word.result.now (within-words c.self.inside.bound items n c.self.invariant less) c.index_mut-word.ensures.value 0 in
    rw (← c.self.view_is)
    (Removes-set c.self.inside.bound items n _ c.self.invariant less
    (λ i small other. bit_at_clear_other w64 c.index_mut-word.result.now _ (omega arith) i small other ∙ ap (λ w. bit_at w i) word)
    (bit_at_clear_same w64 c.index_mut-word.result.now _ (omega arith)))

pub returns-clause-has_none : goal.returns-clause-has_none
returns-clause-has_none c zero =
    let items = c.self.inside.words.items in
    let n = c.args.number in
    let less : n < c.self.inside.bound = omega (arith, c.requires, length-numbers_of c.self.inside.bound c.self.inside.words.items, ap length c.self.view_is) in
    let word : c.index_mut-word.result.now ≡ get_or items (n / 64) 0 = get_or_read items (n / 64) c.index_mut-word.result.now (within-words c.self.inside.bound items n c.self.invariant less) c.index_mut-word.ensures.value 0 in
    let after = AreWords-set c.self.inside.bound items n _ c.self.invariant less
    (λ i small other. bit_at_clear_other w64 c.index_mut-word.result.now _ (omega arith) i small other ∙ ap (λ w. bit_at w i) word) in
    let here = get_or-set_same items (n / 64) _ 0 (within-words c.self.inside.bound items n c.self.invariant less) in
    IsBlockFree-zero c.self.inside.bound _ (n / 64) after (here ∙ eqb-true _ _ zero)

pub returns-clause-has_some : goal.returns-clause-has_some
returns-clause-has_some c some =
    let items = c.self.inside.words.items in
    let n = c.args.number in
    let less : n < c.self.inside.bound = omega (arith, c.requires, length-numbers_of c.self.inside.bound c.self.inside.words.items, ap length c.self.view_is) in
    let word : c.index_mut-word.result.now ≡ get_or items (n / 64) 0 = get_or_read items (n / 64) c.index_mut-word.result.now (within-words c.self.inside.bound items n c.self.invariant less) c.index_mut-word.ensures.value 0 in
    let after = AreWords-set c.self.inside.bound items n _ c.self.invariant less
    (λ i small other. bit_at_clear_other w64 c.index_mut-word.result.now _ (omega arith) i small other ∙ ap (λ w. bit_at w i) word) in
    let here = get_or-set_same items (n / 64) _ 0 (within-words c.self.inside.bound items n c.self.invariant less) in
    let old : c.index_mut-word.result.now < 2 ^ 64 = search rules in
    IsInBlock-some c.self.inside.bound _ (n / 64) after (subst (λ x. 0 < x) (sym here) (positive _ some)) (subst (λ x. x < 2 ^ 64) (sym here) (and_small _ _ old))
