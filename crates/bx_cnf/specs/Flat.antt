-- Lists that stand one behind the other in one list of items, and where each of them ends.
use Rattle.std.specs.Prelude.{◌≡◌, ℕ, ◌≤◌, ◌^◌, ◌<◌, List, [], ◌∷◌, slice_range}

-- the lists that end at these places, the first of which begins at a place
abbrev pub lists_from : {X : Type 0} → ℕ → List ℕ → List X → List (List X)
lists_from start [] items = []
lists_from start (end ∷ ends) items = slice_range items start end ∷ lists_from end ends items

-- places that go up from one to another, the last of them
abbrev pub AreEnds : ℕ → List ℕ → ℕ → Type 0
AreEnds start [] last = start ≡ last
AreEnds start (end ∷ ends) last = (start ≤ end) × AreEnds end ends last

-- the ends of lists that make up this many items, few enough for the type of an end
pub record IsFlat (ends : List ℕ) (count : ℕ) : Type 0 where
  pub ascend : AreEnds 0 ends count
  pub small : count < 2 ^ 32
