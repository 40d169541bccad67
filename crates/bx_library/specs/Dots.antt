-- Dots, their order, and sets of them as lists in that order.
use Rattle.std.specs.Prelude.{◌≡◌, ◌↔◌, ◌⊎◌, ◌<◌, List, AllPairs, Contains}
use Rattle.std.specs.declared.cmp.Ordering.{Ordering}
use Rattle.std.specs.Ordering.{nat_cmp, ordering_then}
use Rattle.bx_library.specs.declared.dot.Dot.{Dot}

-- the first dot stands before the second one: by m, then by l, then by n
abbrev pub IsBefore : Dot → Dot → Type 0
IsBefore a b = (a.m < b.m) ⊎ ((a.m ≡ b.m) × ((a.l < b.l) ⊎ ((a.l ≡ b.l) × (a.n < b.n))))

-- the same order, as a sort asks for it
abbrev pub dot_cmp : Dot → Dot → Ordering
dot_cmp a b = ordering_then (nat_cmp a.m b.m) (ordering_then (nat_cmp a.l b.l) (nat_cmp a.n b.n))

-- each dot stands before all that follow it
abbrev pub IsAscending : List Dot → Type 0
IsAscending dots = AllPairs IsBefore dots

-- two lists have the same dots, in whatever order and however often
abbrev pub HaveSameDots : List Dot → List Dot → Type 0
HaveSameDots a b = (dot : Dot) → Contains a dot ↔ Contains b dot
