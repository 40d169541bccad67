-- A race over all ratios of an order isn't too large.
use Rattle.std.proofs.Common.{◌≡◌, ℕ, zero, suc, ◌+◌, ◌*◌, ◌<◌, ◌≤◌, List, length, map, refl, ap, ◌∙◌, arith}
use Rattle.std.specs.Prelude.{sum_by}
use Rattle.std.specs.List.{range_with_len}
use Rattle.std.proofs.lemmas.List.{length-map}
use Rattle.std.proofs.lemmas.List.Concat.{length-flat_map}
use Rattle.std.proofs.lemmas.List.Sums.{sum_by-cons, length-filter, count_by-le-length}
use Rattle.bx_grid.specs.declared.ratio.Limits.{Limits}
use Rattle.bx_grid.specs.declared.ratio.Ratio.{Ratio}
use Rattle.bx_grid.specs.Orders.{divides, divisors, fits, of_area, of_width}
use Rattle.bx_grid.proofs.Prefixes.{order-whole}
use Rattle.bx_verdict.specs.Settling.{AreInOrder}

length-range : (a n : ℕ) → length (range_with_len a n) ≡ n
length-range a zero = refl
length-range a (suc n) = ap suc (length-range (a + 1) n)

-- a ratio for each width up to the area, at most
few-of_area : (limits : Limits) (area : ℕ) → length (of_area limits area) ≤ area
few-of_area limits area =
    omega (
      arith,
      length-filter (fits limits) (map (of_width area) (divisors area)),
      count_by-le-length (fits limits) (map (of_width area) (divisors area)),
      length-map (divisors area) (of_width area),
      length-filter (divides area) (range_with_len 1 area),
      count_by-le-length (divides area) (range_with_len 1 area),
      length-range 1 area,
    )

few-each : (f : ℕ → ℕ) (most a n : ℕ) → ((x : ℕ) → x < a + n → f x ≤ most) → sum_by f (range_with_len a n) ≤ n * most
few-each f most a zero each = omega arith
few-each f most a (suc n) each =
    let here : f a ≤ most = each a (omega arith) in
    let rest : sum_by f (range_with_len (a + 1) n) ≤ n * most = few-each f most (a + 1) n (λ x low. each x (omega (arith, low))) in
    omega (arith, here, rest, sum_by-cons f a (range_with_len (a + 1) n))

pub few-ratios : (ratios : List Ratio) → AreInOrder ratios → length ratios ≤ 65536
few-ratios ratios (limits, are, same) =
    let all : length ratios ≡ sum_by (λ a. length (of_area limits a)) (range_with_len 1 limits.area) =
    ap (λ (rs : List Ratio). length rs) same ∙ order-whole limits ∙ length-flat_map (of_area limits) (range_with_len 1 limits.area) in
    let few : sum_by (λ a. length (of_area limits a)) (range_with_len 1 limits.area) ≤ limits.area * 144 =
    few-each (λ a. length (of_area limits a)) 144 1 limits.area (λ x low. omega (arith, few-of_area limits x, low, are.area)) in
    omega (arith, all, few, are.area)
