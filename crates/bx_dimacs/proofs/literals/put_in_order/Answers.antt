use Rattle.std.proofs.Common.{◌≡◌, ◌<◌, true, false, sym, ◌∙◌, subst, refl, rules}
use Rattle.std.specs.Prelude.{All, Contains}
use Rattle.std.specs.List.{dedup}
use Rattle.std.specs.List.Sorted.{IsNonDecreasingBy}
use Rattle.std.proofs.lemmas.List.Filters.{dedup_is}
use Rattle.std.proofs.lemmas.List.Kept.{Contains-from_dedup}
use Rattle.std.proofs.lemmas.List.Sorted.{All-permutation, Contains-permutation, IsPermutation-sym, IsNonDecreasingBy-from_sort_by_key}
use Rattle.bx_cnf.specs.Literals.{Literal}
use Rattle.bx_cnf.specs.Formulas.{AscendAbove}
use Rattle.bx_dimacs.proofs.Ordering.{ascend_all, opposites, opposites_move, no_opposites, is_tautology_by, Contains-all_dedup}
use Rattle.bx_dimacs.proofs.literals.put_in_order.Goals as goal

pub returns-clause-same : goal.returns-clause-same
returns-clause-same c = λ positive l.
    let moved = c.sort_unstable_by_key.ensures.permutation in
    let is = dedup_is _ _ _ c.dedup.ensures.filtered in
    let up = All-permutation (λ (m : Literal). 0 < m.var) _ _ moved positive in (
      λ h. subst (λ ls. Contains ls l) (sym is) (Contains-all_dedup _ (λ a b. refl) _ l up (Contains-permutation _ _ l moved h)),
      λ h. Contains-permutation _ _ l (IsPermutation-sym _ _ moved) (Contains-from_dedup _ _ l (subst (λ ls. Contains ls l) is h)),
    )

pub returns-clause-ascending : goal.returns-clause-ascending
returns-clause-ascending c = λ plain positive.
    let moved = c.sort_unstable_by_key.ensures.permutation in
    let is = dedup_is _ _ _ c.dedup.ensures.filtered in
    let rise : IsNonDecreasingBy (λ (l : Literal). l.var) c.sort_unstable_by_key.new.self.items = IsNonDecreasingBy-from_sort_by_key (λ (l : Literal). l.var) _ c.sort_unstable_by_key.ensures.sorted (λ a r q k. search rules) in
    let back : (l : Literal) → Contains c.sort_unstable_by_key.new.self.items l → Contains c.args.literals.now.items l = λ l h. Contains-permutation _ _ l (IsPermutation-sym _ _ moved) h in
    let up = All-permutation (λ (l : Literal). 0 < l.var) _ _ moved positive in
    subst (AscendAbove 0) (sym is) (ascend_all _ (λ a b. refl) c.sort_unstable_by_key.new.self.items rise up (λ h.
    let clash : false ≡ true = sym plain ∙ is_tautology_by c.args.literals.now.items (opposites_move _ _ back h) in
    (cc)))

pub returns-clause-twice : goal.returns-clause-twice
returns-clause-twice c = λ tautology all up.
    let moved = c.sort_unstable_by_key.ensures.permutation in
    let is = dedup_is _ _ _ c.dedup.ensures.filtered in
    let positive = All-permutation (λ (m : Literal). 0 < m.var) _ _ moved all in
    let kept : (l : Literal) → Contains c.args.literals.now.items l → Contains c.dedup.new.self.items l = λ l h.
    subst (λ ls. Contains ls l) (sym is) (Contains-all_dedup _ (λ a b. refl) _ l positive (Contains-permutation _ _ l moved h))
    in
    no_opposites c.dedup.new.self.items up (opposites_move _ _ kept (opposites c.args.literals.now.items tautology))
