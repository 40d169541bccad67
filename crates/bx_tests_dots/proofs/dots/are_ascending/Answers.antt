use Rattle.std.proofs.Common.{◌+◌, get_or, arith}
use Rattle.std.proofs.lemmas.Map.Keys.{sorted_from_all_adjacent}
use Rattle.bx_library.proofs.DotOrder.{cmp_from_before}
use Rattle.bx_library.proofs.DotSets.{dots_total, no_dot, ascending_from_sorted}
use Rattle.bx_tests_dots.proofs.dots.are_ascending.Goals as goal

pub returns : goal.returns
returns c = λ told.
    let dots = c.args.dots.now in
    ascending_from_sorted dots
    (sorted_from_all_adjacent dots_total dots no_dot
    (λ k below. cmp_from_before (get_or dots k no_dot) (get_or dots (k + 1) no_dot) (c.loop-i.invariant k no_dot (omega arith))))
