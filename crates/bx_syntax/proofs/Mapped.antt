-- A list that goes through a function, one element after the other.
use Rattle.std.proofs.Common.{◌≡◌, ℕ, ◌+◌, List, [], ◌∷◌, ◌++◌, map, take, Some, refl}
use Rattle.std.specs.Prelude.{slice_get}
use Rattle.std.proofs.lemmas.List.{take_more, map_push}
use Rattle.std.proofs.lemmas.Option.{get_or_from_slice_get, slice_get_within}

pub map_more : {X Y : Type 0} (f : X → Y) (xs : List X) (k : ℕ) (x : X) (t : Y) (ys : List Y) → slice_get xs k ≡ Some x → t ≡ f x → ys ≡ map f (take k xs) → ys ++ t ∷ [] ≡ map f (take (k + 1) xs)
map_more f xs k x t ys e g h =
    rw (g, h, take_more xs k x (slice_get_within xs k x e), get_or_from_slice_get xs k x x e, map_push) refl
