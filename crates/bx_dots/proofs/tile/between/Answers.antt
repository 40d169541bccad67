use Rattle.std.proofs.Common.{◌≡◌, ◌-◌, ltb, length, take, drop, sym, subst, rules}
use Rattle.std.proofs.lemmas.List.{take_rest}
use Rattle.std.proofs.lemmas.List.Sorted.{IsPartitionPoint-from_clause}
use Rattle.bx_library.specs.declared.dot.Dot.{Dot}
use Rattle.bx_library.specs.Dots.{IsAscending}
use Rattle.bx_dots.proofs.Between.{parted, splits, between, ascending_drop, ascending_take}
use Rattle.bx_dots.proofs.tile.between.Goals as goal

pub returns-clause-same : goal.returns-clause-same
returns-clause-same c =
    let dots = c.args.dots.now in
    let i = c.partition_point-first.result in
    let n = c.partition_point-count.result in
    let rest = take (length dots - i) (drop i dots) in
    let is : rest ≡ drop i dots = take_rest dots i in
    let up : IsAscending rest = subst IsAscending (sym is) (ascending_drop dots i c.requires) in
    between dots rest c.args.top c.args.bottom i n is
    (splits dots c.args.top i c.partition_point-first.ensures.bound
    (IsPartitionPoint-from_clause (λ (d : Dot). ltb d.m c.args.top) dots i c.partition_point-first.ensures.partitioned (parted dots c.args.top c.requires) (λ a r q k. search rules)))
    (splits rest c.args.bottom n c.partition_point-count.ensures.bound
    (IsPartitionPoint-from_clause (λ (d : Dot). ltb d.m c.args.bottom) rest n c.partition_point-count.ensures.partitioned (parted rest c.args.bottom up) (λ a r q k. search rules)))

pub returns-clause-ascending : goal.returns-clause-ascending
returns-clause-ascending c =
    let dots = c.args.dots.now in
    let i = c.partition_point-first.result in
    let rest = take (length dots - i) (drop i dots) in
    ascending_take rest c.partition_point-count.result c.partition_point-count.ensures.bound (subst IsAscending (sym (take_rest dots i)) (ascending_drop dots i c.requires))
