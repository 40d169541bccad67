use Rattle.std.proofs.Common.{◌≡◌, ◌<◌, ◌*◌, ◌+◌, ◌^◌, List, Bool, get_or, sym, subst, arith, rules, w64}
use Rattle.std.proofs.lemmas.List.{get_or_read}
use Rattle.std.specs.Int.{trailing_zeros}
use Rattle.bx_least_set.specs.Numbers.{IsInBlock}
use Rattle.bx_least_set.proofs.WordBits.{has-fits, some-IsInBlock, IsLeastOfBlock-lowest}
use Rattle.bx_least_set.proofs.words.Words.least_of.Goals as goal

pub index-requires : goal.index-requires
index-requires c =
    let some = some-IsInBlock c.self.inside.bound c.self.inside.words.items c.args.block c.self.invariant (subst (λ (s : List Bool). IsInBlock s c.args.block) (sym c.self.view_is) c.requires) in
    omega (arith, some.0, c.self.inside.words.ok.0)

pub overflow_mul-result : goal.overflow_mul-result
overflow_mul-result c =
    let some = some-IsInBlock c.self.inside.bound c.self.inside.words.items c.args.block c.self.invariant (subst (λ (s : List Bool). IsInBlock s c.args.block) (sym c.self.view_is) c.requires) in
    omega (arith, some.2, c.self.invariant.small)

pub overflow_add-result : goal.overflow_add-result
overflow_add-result c =
    let items = c.self.inside.words.items in
    let some = some-IsInBlock c.self.inside.bound items c.args.block c.self.invariant (subst (λ (s : List Bool). IsInBlock s c.args.block) (sym c.self.view_is) c.requires) in
    let word : c.index.result.now ≡ get_or items c.args.block 0 = get_or_read items c.args.block c.index.result.now some.0 c.index.ensures 0 in
    let fits : c.index.result.now < 2 ^ 64 = search rules in
    let least = IsLeastOfBlock-lowest c.self.inside.bound items c.args.block c.self.invariant some.1 (omega (arith, word, fits)) in
    record { fits = subst (λ w. c.args.block * 64 + trailing_zeros w64 w < 2 ^ 32) (sym word) (has-fits c.self.inside.bound items _ c.self.invariant least.there) }

pub returns : goal.returns
returns c =
    let items = c.self.inside.words.items in
    let some = some-IsInBlock c.self.inside.bound items c.args.block c.self.invariant (subst (λ (s : List Bool). IsInBlock s c.args.block) (sym c.self.view_is) c.requires) in
    let word : c.index.result.now ≡ get_or items c.args.block 0 = get_or_read items c.args.block c.index.result.now some.0 c.index.ensures 0 in
    let fits : c.index.result.now < 2 ^ 64 = search rules in
    rw (← c.self.view_is, word) (IsLeastOfBlock-lowest c.self.inside.bound items c.args.block c.self.invariant some.1 (omega (arith, word, fits)))
