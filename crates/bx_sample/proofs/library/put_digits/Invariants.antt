-- The digits so far were put.
use Rattle.std.proofs.Common.{◌≡◌, ◌++◌, string_bytes}
use Rattle.std.specs.List.{flat_map, range_with_len}
use Rattle.bx_sample.specs.Library.{digit_text}
use Rattle.bx_sample.proofs.library.put_digits.Given as goal

abbrev pub invariant-loop-i : goal.invariant-loop-i
invariant-loop-i l = string_bytes l.text ≡ string_bytes l.initial.text ++ flat_map (digit_text l.number) (range_with_len 0 l.i)
