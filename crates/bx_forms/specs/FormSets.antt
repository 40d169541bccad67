-- Sets of forms, as the list that says of each form in turn whether it is in the set.
use Rattle.std.specs.Prelude.{ℕ, Bool, false, IsTrue, List, slice_index_or}

abbrev pub IsIn : List Bool → ℕ → Type 0
IsIn set form = IsTrue (slice_index_or set form false)
