-- Lengths that are with_edge step by step: step k takes care that what it leads to is longer than where it
-- leads from. Where no later step leads to where an earlier one leads from, the lengths are in the end as
-- the steps want them, and no longer.
use Rattle.std.proofs.Common.{◌≡◌, ◌≢◌, ℕ, zero, suc, ◌+◌, ◌<◌, ◌≤◌, max, List, length, get_or, set, replicate, inl, inr, refl, sym, ap, ◌∙◌, arith, get_or-set_same, get_or-set_other, length-set}
use Rattle.std.proofs.lemmas.Bool.{cases_lt, cases_eq}
use Rattle.std.proofs.Math.Nat.{le-max_left, le-max_right, max-eq_left, max-eq_right, max-le}
use Rattle.bx_network.specs.Mapped.{with_edge}
use Rattle.bx_network.proofs.Lists.{got-replicate, length-got-replicate}

abbrev pub at : List ℕ → ℕ → ℕ
at L v = get_or L v 0

-- the lengths of n places after k steps
unfoldable pub lengths : (ℕ → ℕ) → (ℕ → ℕ) → ℕ → ℕ → List ℕ
lengths from to n zero = replicate n 0
lengths from to n (suc k) = with_edge (lengths from to n k) (from k) (to k)

-- a step of the first k that leads here, from where it is one shorter
pub record IsReached (from to : ℕ → ℕ) (k v : ℕ) (L : List ℕ) : Type 0 where
  pub step : ℕ
  pub before : step < k
  pub leads : to step ≡ v
  pub longer : at L v ≡ at L (from step) + 1

pub record IsLongest (from to : ℕ → ℕ) (n k : ℕ) (L : List ℕ) : Type 0 where
  pub all : length L ≡ n
  pub raises : (i : ℕ) → i < k → at L (from i) + 1 ≤ at L (to i)
  pub reached : (v : ℕ) → 0 < at L v → IsReached from to k v L
  pub low : (v : ℕ) → at L v ≤ k

-- each step leads to a place, and no step leads to where it or an earlier one leads from
pub record AreOrdered (from to : ℕ → ℕ) (n m : ℕ) : Type 0 where
  pub within : (i : ℕ) → i < m → to i < n
  pub apart : (i j : ℕ) → i ≤ j → j < m → from i ≢ to j

with_edge-same : (L : List ℕ) (f t : ℕ) → t < length L → at (with_edge L f t) t ≡ max (at L t) (at L f + 1)
with_edge-same L f t h = get_or-set_same L t _ 0 h

with_edge-other : (L : List ℕ) (f t v : ℕ) → v ≢ t → at (with_edge L f t) v ≡ at L v
with_edge-other L f t v h = get_or-set_other L t v _ 0 h

with_edge-above : (L : List ℕ) (f t v : ℕ) → t < length L → at L v ≤ at (with_edge L f t) v
with_edge-above L f t v h =
    elim (cases_eq v t) [
      | inl same ↦ let a = with_edge-same L f t h in let b = le-max_left (at L t) (at L f + 1) in let c = ap (at L) same in let d = ap (at (with_edge L f t)) same in omega arith
      | inr other ↦ let a = with_edge-other L f t v other in omega arith
    ]

step-raises : (from to : ℕ → ℕ) (n m k : ℕ) (L : List ℕ) → AreOrdered from to n m → k < m → IsLongest from to n k L → (i : ℕ) → i < suc k → at (with_edge L (from k) (to k)) (from i) + 1 ≤ at (with_edge L (from k) (to k)) (to i)
step-raises from to n m k L ordered h before i below =
    let inside : to k < length L = let a = ordered.within k h in let b = before.all in omega arith in
    let start = with_edge-other L (from k) (to k) (from i) (ordered.apart i k (omega arith) h) in
    elim (cases_lt i k) [
      | inl earlier ↦ let a = before.raises i earlier in let b = with_edge-above L (from k) (to k) (to i) inside in omega arith
      | inr not_earlier ↦
          let here : i ≡ k = omega arith in
          let a = with_edge-same L (from k) (to k) inside in
          let b = le-max_right (at L (to k)) (at L (from k) + 1) in
          let c = ap (λ j. at (with_edge L (from k) (to k)) (to j)) here in
          let d = ap (λ j. at L (from j)) here in
          omega arith
    ]

-- a place that had been reached still is, if it was not with_edge
keeps-reached : (from to : ℕ → ℕ) (n m k v : ℕ) (L : List ℕ) → AreOrdered from to n m → k < m → at (with_edge L (from k) (to k)) v ≡ at L v → IsReached from to k v L → IsReached from to (suc k) v (with_edge L (from k) (to k))
keeps-reached from to n m k v L ordered h kept old =
    let early = old.before in
    let start = with_edge-other L (from k) (to k) (from old.step) (ordered.apart old.step k (omega arith) h) in
    let longer = old.longer in
    record { step = old.step; before = omega arith; leads = old.leads; longer = omega arith }

step-reaches : (from to : ℕ → ℕ) (n m k : ℕ) (L : List ℕ) → AreOrdered from to n m → k < m → IsLongest from to n k L → (v : ℕ) → 0 < at (with_edge L (from k) (to k)) v → IsReached from to (suc k) v (with_edge L (from k) (to k))
step-reaches from to n m k L ordered h before v some =
    let inside : to k < length L = let a = ordered.within k h in let b = before.all in omega arith in
    elim (cases_eq v (to k)) [
      | inr other ↦
          let kept = with_edge-other L (from k) (to k) v other in
          keeps-reached from to n m k v L ordered h kept (before.reached v (omega arith))
      | inl same ↦
          let here : at (with_edge L (from k) (to k)) v ≡ max (at L (to k)) (at L (from k) + 1) = ap (at (with_edge L (from k) (to k))) same ∙ with_edge-same L (from k) (to k) inside in
          elim (cases_lt (at L (from k)) (at L (to k))) [
            | inl high ↦
                let kept : at (with_edge L (from k) (to k)) v ≡ at L v = here ∙ max-eq_left (omega arith) ∙ ap (at L) (sym same) in
                keeps-reached from to n m k v L ordered h kept (before.reached v (omega arith))
            | inr low ↦
                let now : at (with_edge L (from k) (to k)) v ≡ at L (from k) + 1 = here ∙ max-eq_right (omega arith) in
                let start = with_edge-other L (from k) (to k) (from k) (ordered.apart k k (omega arith) h) in
                record { step = k; before = omega arith; leads = sym same; longer = now ∙ ap (λ x. x + 1) (sym start) }
          ]
    ]

step-low : (k f t v : ℕ) (L : List ℕ) → t < length L → ((u : ℕ) → at L u ≤ k) → at (with_edge L f t) v ≤ suc k
step-low k f t v L h low =
    elim (cases_eq v t) [
      | inl same ↦
          let a = with_edge-same L f t h in
          let b = low t in
          let c = low f in
          let d : max (at L t) (at L f + 1) ≤ suc k = max-le (omega arith) (omega arith) in
          let e = ap (at (with_edge L f t)) same in
          omega arith
      | inr other ↦ let a = with_edge-other L f t v other in let b = low v in omega arith
    ]

pub longest : (from to : ℕ → ℕ) (n m : ℕ) → AreOrdered from to n m → (k : ℕ) → k ≤ m → IsLongest from to n k (lengths from to n k)
unfolding lengths
longest from to n m ordered zero h = record {
  all = length-got-replicate n;
  raises = λ i below. absurd (omega arith);
  reached = λ v some. let none = got-replicate n v in absurd (omega arith);
  low = λ v. let none = got-replicate n v in omega arith;
}
longest from to n m ordered (suc k) h =
    let before = longest from to n m ordered k (omega arith) in
    let inside : to k < length (lengths from to n k) = let a = ordered.within k (omega arith) in let b = before.all in omega arith in
    record {
      all = length-set (lengths from to n k) (to k) _ ∙ before.all;
      raises = step-raises from to n m k (lengths from to n k) ordered (omega arith) before;
      reached = step-reaches from to n m k (lengths from to n k) ordered (omega arith) before;
      low = λ v. step-low k (from k) (to k) v (lengths from to n k) inside before.low;
    }

-- the lengths step by step

pub lengths-none : (from to : ℕ → ℕ) (n : ℕ) → lengths from to n 0 ≡ replicate n 0
unfolding lengths
lengths-none from to n = refl

pub lengths-next : (from to : ℕ → ℕ) (n k : ℕ) → lengths from to n (k + 1) ≡ with_edge (lengths from to n k) (from k) (to k)
unfolding lengths
lengths-next from to n k = let e : k + 1 ≡ suc k = omega arith in ap (lengths from to n) e

-- so far no length is above the number of steps
pub lengths-low : (from to : ℕ → ℕ) (n m : ℕ) → AreOrdered from to n m → m < 4294967296 → (L : List ℕ) (k v : ℕ) → k < m → L ≡ lengths from to n k → at L v < 4294967295
lengths-low from to n m ordered few L k v h same =
    let low = (longest from to n m ordered k (omega arith)).low v in
    let here = ap (λ (l : List ℕ). at l v) same in
    omega arith
