-- What a fair race has come to, once no worker has a current index and one of them has ended.
use Rattle.std.proofs.Common.{◌≡◌, ℕ, ◌+◌, ◌<◌, ◌≤◌, List, [], ◌∷◌, length, inl, inr, refl, ap, arith}
use Rattle.std.specs.Prelude.{sum_by, min, None, option_to_list}
use Rattle.std.specs.List.{AllByRecursion}
use Rattle.std.proofs.lemmas.Bool.{cases_lt}
use Rattle.std.proofs.lemmas.List.Sums.{sum_by-cons, sum_by-le-sum_by}
use mathlib.Core.Option.{some}
use lib.ListN.{get_elem?}
use Rattle.bx_race.specs.declared.view.Draws.{Draws}
use Rattle.bx_race.specs.Draws.{times, indices}
use Rattle.bx_race.specs.Core.{times_done, times_offered}
use Rattle.bx_race.specs.Fair.{times_drawn, RespectsLeast, IsFair}
use Rattle.bx_race.proofs.Counts.{at-le-sum_by, All-at, All-times, All-from, times-none, sum_by-zeros, some_item}
use Rattle.bx_race.proofs.FairSteps.{times-indices, once_below-in, once_below-out}

abbrev times_dropped : ℕ → List Draws → ℕ
times_dropped i ws = sum_by (λ d. times i d.dropped) ws

times-none_current : (i : ℕ) (d : Draws) → d.current ≡ None → times i (indices d) ≡ times i d.done + times i d.offered + times i d.dropped
times-none_current i d is = omega (arith, times-indices i d, ap (λ c. times i (option_to_list c)) is)

-- where nothing is current, all that was drawn is done, offered or dropped
pub times_drawn-parts : (i : ℕ) (ws : List Draws) → AllByRecursion (λ d. d.current ≡ None) ws → times_drawn i ws ≡ times_done i ws + times_offered i ws + times_dropped i ws
times_drawn-parts i [] none = refl
times_drawn-parts i (d ∷ ds) none =
    omega (arith, sum_by-cons (λ u. times i (indices u)) d ds, sum_by-cons (λ u. times i u.done) d ds, sum_by-cons (λ u. times i u.offered) d ds, sum_by-cons (λ u. times i u.dropped) d ds, times-none_current i d none.0, times_drawn-parts i ds none.1)

module _ (n next least : ℕ) (ws : List Draws) (f : IsFair n next least ws) where
  pub drawn_below : (i : ℕ) → 0 < times_drawn i ws → i < min n next
  drawn_below i there =
      elim (cases_lt i (min n next)) [
        | inl l ↦ l
        | inr l ↦ absurd (omega (arith, f.once i, once_below-out (min n next) i l))
      ]

  -- an index that was offered was drawn
  pub offered_below : (i : ℕ) → 0 < times_offered i ws → i < min n next
  offered_below i there = drawn_below i (omega (arith, sum_by-le-sum_by (λ d. times i d.offered) (λ d. times i (indices d)) ws (λ d. omega (arith, times-indices i d))))

  of_worker : (w : ℕ) (d : Draws) → get_elem? ws w ≡ some d → (i : ℕ) → 0 < times i (indices d) → i < min n next
  of_worker w d there i drawn = drawn_below i (omega (arith, at-le-sum_by (λ u. times i (indices u)) ws w d there))

  -- one that has ended while nothing was offered has drawn a number past the indices
  pub ended_past : (w : ℕ) (d : Draws) → get_elem? ws w ≡ some d → 0 < length d.offered + length d.dropped + d.past → n ≤ least → n ≤ next
  ended_past w d there ended none =
      let r = All-at (RespectsLeast least) ws w d f.respected there in
      elim (cases_lt 0 (length d.offered)) [
        | inl some_offered ↦ (let (i, here) = some_item d.offered some_offered in
            let above : least ≤ i = All-times (λ j. least ≤ j) i d.offered r.1 here in
            let below : i < min n next = of_worker w d there i (omega (arith, times-indices i d)) in
            absurd (omega arith))
        | inr no_offered ↦ elim (cases_lt 0 (length d.dropped)) [
          | inl some_dropped ↦ (let (i, here) = some_item d.dropped some_dropped in
              let above : least < i = All-times (λ j. least < j) i d.dropped r.0 here in
              let below : i < min n next = of_worker w d there i (omega (arith, times-indices i d)) in
              absurd (omega arith))
          | inr no_dropped ↦ omega (arith, f.counted, at-le-sum_by (λ u. u.past) ws w d there)
        ]
      ]

  -- so each index below the least one was drawn
  pub all_drawn : (w : ℕ) (d : Draws) → get_elem? ws w ≡ some d → 0 < length d.offered + length d.dropped + d.past → least ≤ min n next
  all_drawn w d there ended =
      elim f.offered [
        | inl none ↦ (let past = ended_past w d there ended (omega arith) in omega arith)
        | inr some_one ↦ (let below = offered_below least some_one in omega arith)
      ]

  none_offered : (i : ℕ) → i < least → times_offered i ws ≡ 0
  none_offered i l = sum_by-zeros (λ d. times i d.offered) ws (All-from (RespectsLeast least) (λ d. times i d.offered ≡ 0) ws (λ d r. times-none (λ j. least ≤ j) i d.offered r.1 (λ h. omega arith)) f.respected)

  none_dropped : (i : ℕ) → i < least → times_dropped i ws ≡ 0
  none_dropped i l = sum_by-zeros (λ d. times i d.dropped) ws (All-from (RespectsLeast least) (λ d. times i d.dropped ≡ 0) ws (λ d r. times-none (λ j. least < j) i d.dropped r.0 (λ h. omega arith)) f.respected)

  -- and is done, by one worker, once
  pub all_done : AllByRecursion (λ d. d.current ≡ None) ws → (w : ℕ) (d : Draws) → get_elem? ws w ≡ some d → 0 < length d.offered + length d.dropped + d.past → (i : ℕ) → i < least → times_done i ws ≡ 1
  all_done none w d there ended i l =
      let drawn = all_drawn w d there ended in
      omega (arith, times_drawn-parts i ws none, f.once i, once_below-in (min n next) i (omega arith), none_offered i l, none_dropped i l)
