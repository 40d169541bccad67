use Rattle.std.proofs.Common.{◌≡◌, drop, length}
use Rattle.bx_map.specs.Marks.{with_marks}
use Rattle.bx_map.proofs.keep.mark_all.Given as goal

abbrev pub invariant-loop-number : goal.invariant-loop-number
invariant-loop-number l = record {
  marks : with_marks l.marks.items (drop l.number-index l.numbers) ≡ with_marks l.fn.marks.items l.numbers;
  whole : length l.marks.items ≡ length l.fn.marks.items;
}
