-- There are few ratios within limits.
use Rattle.std.proofs.Common.{◌≡◌, ℕ, zero, suc, ◌+◌, ◌*◌, ◌≤◌, Bool, List, length, map, sym, ap, ◌∙◌, arith, add-one}
use Rattle.std.specs.Prelude.{filter}
use Rattle.std.specs.List.{range_with_len}
use Rattle.std.proofs.lemmas.List.{length-map}
use Rattle.std.proofs.lemmas.List.Sums.{length-filter, count_by-le-length}
use Rattle.std.proofs.lemmas.List.FromFn.{length-range_with_len}
use Rattle.bx_grid.specs.declared.ratio.Limits.{Limits}
use Rattle.bx_grid.specs.Orders.{AreLimits, divides, divisors, fits, of_area, of_width, order}
use Rattle.bx_grid.proofs.Prefixes.{of_areas, length-of_areas, order-whole}

filter_le : {X : Type 0} (p : X → Bool) (xs : List X) → length (filter p xs) ≤ length xs
filter_le p xs = omega (arith, length-filter p xs, count_by-le-length p xs)

count_of_area : (limits : Limits) (area : ℕ) → length (of_area limits area) ≤ area
count_of_area limits area =
    let kept = filter_le (fits limits) (map (of_width area) (divisors area)) in
    let made = length-map (divisors area) (of_width area) in
    let divide = filter_le (divides area) (range_with_len 1 area) in
    let all = length-range_with_len 1 area in
    omega arith

count_of_areas : (limits : Limits) (most n : ℕ) → n ≤ most → length (of_areas limits n) ≤ n * most
count_of_areas limits most zero le = omega arith
count_of_areas limits most (suc n) le =
    let next = length-of_areas limits n in
    let same : length (of_areas limits (suc n)) ≡ length (of_areas limits n) + length (of_area limits (n + 1)) =
    ap (λ m. length (of_areas limits m)) (sym (add-one n)) ∙ next in
    let before = count_of_areas limits most n (omega arith) in
    let more = count_of_area limits (n + 1) in
    omega arith

pub few_ratios : (limits : Limits) → AreLimits limits → length (order limits) ≤ 20736
few_ratios limits are =
    let whole = order-whole limits in
    let count = count_of_areas limits 144 limits.area are.area in
    let high = are.area in
    omega arith
