use Rattle.std.proofs.Common.{◌≡◌, ◌<◌, ◌^◌, List, Bool, get_or, sym, subst, arith, rules}
use Rattle.std.proofs.lemmas.List.{get_or_read}
use Rattle.bx_least_set.specs.Numbers.{IsInBlock, IsLeastOfBlock}
use Rattle.bx_least_set.proofs.WordBits.{IsInBlock-some, some-IsInBlock, IsLeast-first, IsNone-zeros}
use Rattle.bx_least_set.proofs.words.WordsLevel.least.Goals as goal

pub overflow_cast-block : goal.overflow_cast-block
overflow_cast-block c =
    let words = c.self.inside.words.items in
    let word : c.index.result.now ≡ get_or words c.loop-block.block 0 = get_or_read words c.loop-block.block c.index.result.now (omega (arith, c.self.inside.words.ok.0)) c.index.ensures 0 in
    let fits : c.index.result.now < 2 ^ 64 = search rules in
    let some = IsInBlock-some c.self.inside.bound words c.loop-block.block c.self.invariant (omega (arith, word)) (omega (arith, word, fits)) in
    omega (arith, (some-IsInBlock c.self.inside.bound words c.loop-block.block c.self.invariant some).2, c.self.invariant.small)

pub least_of-requires : goal.least_of-requires
least_of-requires c =
    let words = c.self.inside.words.items in
    let word : c.index.result.now ≡ get_or words c.loop-block.block 0 = get_or_read words c.loop-block.block c.index.result.now (omega (arith, c.self.inside.words.ok.0)) c.index.ensures 0 in
    let fits : c.index.result.now < 2 ^ 64 = search rules in
    subst (λ (s : List Bool). IsInBlock s c.loop-block.block) c.self.view_is
    (IsInBlock-some c.self.inside.bound words c.loop-block.block c.self.invariant (omega (arith, word)) (omega (arith, word, fits)))

pub returns-then-index-ne0-clause-some : goal.returns-then-index-ne0-clause-some
returns-then-index-ne0-clause-some c =
    rw (← c.self.view_is) (IsLeast-first c.self.inside.bound c.self.inside.words.items c.loop-block.block c.least_of.result c.self.invariant c.loop-block.invariant
    (subst (λ (s : List Bool). IsLeastOfBlock s c.loop-block.block c.least_of.result) (sym c.self.view_is) c.least_of.ensures))

pub returns-clause-none : goal.returns-clause-none
returns-clause-none c _ =
    rw (← c.self.view_is) (IsNone-zeros c.self.inside.bound c.self.inside.words.items c.self.invariant (λ j within. c.loop-block.invariant j (omega (arith, within, c.self.inside.words.ok.0))))
