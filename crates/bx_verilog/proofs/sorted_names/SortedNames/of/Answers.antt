use Rattle.std.proofs.Common.{map, ap, ◌∙◌, arith}
use Rattle.std.proofs.lemmas.List.{take_all}
use Rattle.std.proofs.lemmas.List.Filters.{dedup_is}
use Rattle.std.proofs.lemmas.List.Kept.{IsStrictlySortedBy-dedup}
use Rattle.std.specs.Cmp.Lexicographic.{on_texts, texts_ties}
use Rattle.bx_verilog.proofs.Sorting.{text_of, name_of, names-kept}
use Rattle.bx_verilog.proofs.sorted_names.SortedNames.of.Goals as goal

pub invariant_of-result : goal.invariant_of-result
invariant_of-result c =
    rw (dedup_is _ _ _ c.dedup.ensures.filtered) (IsStrictlySortedBy-dedup (on_texts text_of) (λ x y. texts_ties x.now y.now) _ c.in_ok-sort.ensures.sorted)

pub returns : goal.returns
returns c =
    let all = c.loop-mention.invariant ∙ ap (map name_of) (take_all c.loop-mention.mention-index c.args.mentions.now (omega arith)) in
    rw (dedup_is _ _ _ c.dedup.ensures.filtered) (names-kept _ _ _ all c.in_ok-sort.ensures.permutation)
