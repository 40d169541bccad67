-- Seats that each stand for one stand for as many as they are.
use Rattle.std.proofs.Common.{◌≡◌, ℕ, List, [], ◌∷◌, length, refl, arith}
use Rattle.std.specs.Prelude.{All, sum_by}
use Rattle.std.proofs.lemmas.List.Elements.{All-head, All-tail}
use Rattle.std.proofs.lemmas.List.Sums.{sum_by-cons}
use Rattle.bx_race.specs.declared.seat.RaceSeat.{RaceSeat}
use Rattle.bx_race.specs.Seats.{stands}

pub sum_ones : (xs : List RaceSeat) → All (λ s. stands s ≡ 1) xs → sum_by stands xs ≡ length xs
sum_ones [] ones = refl
sum_ones (x ∷ xs) ones = omega (arith, sum_by-cons stands x xs, All-head (λ s. stands s ≡ 1) x xs ones, sum_ones xs (All-tail (λ s. stands s ≡ 1) x xs ones))

pub as_many : (xs : List RaceSeat) (n : ℕ) → All (λ s. stands s ≡ 1) xs → length xs ≡ n → sum_by stands xs ≡ n
as_many xs n ones is = omega (arith, sum_ones xs ones)
