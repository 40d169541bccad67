use Rattle.std.proofs.Common.{rules}
use Rattle.std.specs.List.Sorted.{IsNonDecreasingBy}
use Rattle.std.proofs.lemmas.List.Sorted.{IsNonDecreasingBy-from_sort_by_key, IsPermutation-sym, Contains-permutation}
use Rattle.bx_cnf.specs.Literals.{Literal}
use Rattle.bx_search.proofs.Sorting.{sorted-ascends}
use Rattle.bx_search.proofs.analyze.Analysis.finish.Goals as goal

pub returns-clause-ascending : goal.returns-clause-ascending
returns-clause-ascending c =
    let up : IsNonDecreasingBy (λ (x : Literal). x.var) c.sort_unstable_by_key.new.self.items =
    IsNonDecreasingBy-from_sort_by_key (λ (x : Literal). x.var) _ c.sort_unstable_by_key.ensures.sorted (λ a r q k. search rules) in
    sorted-ascends _ _ c.sort_unstable_by_key.ensures.permutation up c.requires.above c.requires.apart

pub returns-clause-same : goal.returns-clause-same
returns-clause-same c = λ l. (
  λ h. Contains-permutation _ _ l (IsPermutation-sym _ _ c.sort_unstable_by_key.ensures.permutation) h,
  λ h. Contains-permutation _ _ l c.sort_unstable_by_key.ensures.permutation h,
)
