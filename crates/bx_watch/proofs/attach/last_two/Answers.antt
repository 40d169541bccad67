use Rattle.std.proofs.Common.{◌≡◌, ◌<◌, ◌+◌, ◌++◌, ◌∷◌, [], List, length, get_or, take, slice_get, Some, refl, sym, ◌∙◌, ap, subst, inl, inr, arith}
use Rattle.std.proofs.lemmas.Option.{slice_get-get_or}
use Rattle.std.proofs.lemmas.List.{take_more}
use Rattle.bx_cnf.specs.Literals.{Literal}
use Rattle.bx_watch.specs.Watches.{IsChosen}
use Rattle.bx_watch.proofs.Lits.{take-has}
use Rattle.bx_watch.proofs.Keeps.{over-in}
use Rattle.bx_watch.proofs.Ranks.{chosen-first}
use Rattle.bx_watch.proofs.Attaching.{fresh-at, take-two, apart-at}
use Rattle.bx_watch.proofs.attach.last_two.Goals as goal

pub loop-at-init : goal.loop-at-init
loop-at-init c =
    let ls = c.args.literals.now in
    let a = c.index-literals-0.result in
    let b = c.index-literals-1.result in
    let front : take 2 ls ≡ a ∷ b ∷ [] = take-two ls a b c.requires.two ∙ (ap (λ (x : Literal). x ∷ get_or ls 1 b ∷ []) (sym c.index-literals-0.is) ∙ ap (λ (x : Literal). a ∷ x ∷ []) (sym c.index-literals-1.is)) in
    subst (λ (xs : List Literal). IsChosen c.args.trail.now.literals xs c.ordered-pair.result) (sym front)
    (chosen-first c.args.trail.now.literals a b c.ordered-pair.result c.ordered-pair.ensures (apart-at c.args.trail.now.vars ls 0 1 a b c.requires.clause (omega arith) (omega (arith, c.requires.two)) c.index-literals-0.is c.index-literals-1.is))

pub with-pair-requires-clause-over : goal.with-pair-requires-clause-over
with-pair-requires-clause-over c =
    let below : c.loop-at.at < length c.args.literals.now = omega (arith, c.loop-at-test.true) in
    over-in c.args.trail.now.vars c.args.literals.now c.index-literals-at.result c.requires.clause (c.loop-at.at, below, sym c.index-literals-at.is)

pub with-pair-requires-clause-first_over : goal.with-pair-requires-clause-first_over
with-pair-requires-clause-first_over c =
    over-in c.args.trail.now.vars c.args.literals.now c.loop-at.pair.first c.requires.clause (take-has c.args.literals.now c.loop-at.at c.loop-at.pair.first (c.loop-at.invariant.has c.loop-at.pair.first (inl refl)))

pub with-pair-requires-clause-second_over : goal.with-pair-requires-clause-second_over
with-pair-requires-clause-second_over c =
    over-in c.args.trail.now.vars c.args.literals.now c.loop-at.pair.second c.requires.clause (take-has c.args.literals.now c.loop-at.at c.loop-at.pair.second (c.loop-at.invariant.has c.loop-at.pair.second (inr refl)))

pub with-pair-requires-clause-not_first : goal.with-pair-requires-clause-not_first
with-pair-requires-clause-not_first c =
    let lit = c.index-literals-at.result in
    let below : c.loop-at.at < length c.args.literals.now = omega (arith, c.loop-at-test.true) in
    let stands : slice_get c.args.literals.now c.loop-at.at ≡ Some lit = slice_get-get_or c.args.literals.now c.loop-at.at lit below ∙ ap (λ (x : Literal). Some x) (sym c.index-literals-at.is) in
    fresh-at c.args.trail.now.vars c.args.literals.now c.loop-at.at lit c.loop-at.pair.first c.requires.clause stands (c.loop-at.invariant.has c.loop-at.pair.first (inl refl))

pub with-pair-requires-clause-not_second : goal.with-pair-requires-clause-not_second
with-pair-requires-clause-not_second c =
    let lit = c.index-literals-at.result in
    let below : c.loop-at.at < length c.args.literals.now = omega (arith, c.loop-at-test.true) in
    let stands : slice_get c.args.literals.now c.loop-at.at ≡ Some lit = slice_get-get_or c.args.literals.now c.loop-at.at lit below ∙ ap (λ (x : Literal). Some x) (sym c.index-literals-at.is) in
    fresh-at c.args.trail.now.vars c.args.literals.now c.loop-at.at lit c.loop-at.pair.second c.requires.clause stands (c.loop-at.invariant.has c.loop-at.pair.second (inr refl))

pub loop-at-preserved : goal.loop-at-preserved
loop-at-preserved c =
    let ls = c.args.literals.now in
    let lit = c.index-literals-at.result in
    let below : c.loop-at.at < length ls = omega (arith, c.loop-at-test.true) in
    let more : take (c.loop-at.at + 1) ls ≡ take c.loop-at.at ls ++ lit ∷ [] = take_more ls c.loop-at.at lit below ∙ ap (λ (x : Literal). take c.loop-at.at ls ++ x ∷ []) (sym c.index-literals-at.is) in
    subst (λ (xs : List Literal). IsChosen c.args.trail.now.literals xs c.with-pair.result) (sym more) (c.with-pair.ensures (take c.loop-at.at ls) c.loop-at.invariant)
