use Rattle.std.proofs.Common.{◌≡◌, ℕ, [], length, get_or}
use Rattle.bx_watch.proofs.Entries.{lists_of}
use Rattle.bx_watch.proofs.lists.Lists.none.Given as goal

abbrev pub invariant-loop : goal.invariant-loop
invariant-loop l = (length l.lists.items ≡ l.counter) × ((k : ℕ) → get_or (lists_of l.lists.items) k [] ≡ [])
