use Rattle.std.proofs.Common.{◌≡◌, ℕ, [], length, get_or}
use Rattle.bx_watch.proofs.Entries.{lists_of}
use Rattle.bx_watch.proofs.lists.Lists.new.Given as goal

abbrev pub invariant-loop-count : goal.invariant-loop-count
invariant-loop-count l = (length l.lists.items ≡ l.count-index) × ((k : ℕ) → get_or (lists_of l.lists.items) k [] ≡ [])
