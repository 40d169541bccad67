use Rattle.std.proofs.Common.{◌≡◌, ℕ, ◌<◌, length, take}
use Rattle.std.specs.List.Sorted.{IsStrictlySortedBy}
use Rattle.bx_library.specs.Dots.{HaveSameDots, dot_cmp}
use Rattle.bx_library.specs.Faults.{IsRepeatAt}
use Rattle.bx_library.proofs.forms.ascending.Given as goal

abbrev pub invariant-loop-k : goal.invariant-loop-k
invariant-loop-k l = record {
  same : HaveSameDots (take l.k l.dots) l.seen.keys;
  none : (j : ℕ) → j < l.k → IsRepeatAt l.dots j → ⊥;
  ordered : IsStrictlySortedBy dot_cmp l.seen.keys;
  count : length l.seen.keys ≡ l.k;
}
