-- The dots of some rows stand together in an ascending list, and are found by halving.
use Rattle.std.proofs.Common.{◌≡◌, ℕ, ◌+◌, ◌-◌, ◌<◌, ◌≤◌, ltb, true, false, inl, inr, List, length, get_or, take, drop, sym, ap, ◌∙◌, subst, arith}
use Rattle.std.proofs.lemmas.Bool.{cases_lt, ltb-true, ltb-false}
use Rattle.std.proofs.lemmas.List.{get_or-take, get_or-drop, length-take-le, length-drop}
use Rattle.std.proofs.lemmas.List.Sorted.{IsPartitionedBy-ltb}
use Rattle.std.specs.List.Sorted.{IsNonDecreasingBy, IsPartitionedBy, IsPartitionPoint}
use Rattle.std.specs.Prelude.{◌↔◌, Contains}
use Rattle.bx_library.specs.declared.dot.Dot.{Dot}
use Rattle.bx_library.specs.Dots.{IsBefore, IsAscending}

row_rises : (a b : Dot) → IsBefore a b → a.m ≤ b.m
row_rises a b (inl less) = omega arith
row_rises a b (inr tie) = omega (arith, tie.0)

pub rows_rise : (dots : List Dot) → IsAscending dots → IsNonDecreasingBy (λ (d : Dot). d.m) dots
rows_rise dots up i j d le below = elim (cases_lt i j) [
  | inl less ↦ row_rises (get_or dots i d) (get_or dots j d) (up i j d less below)
  | inr same ↦
      let e : i ≡ j = omega arith in
      let rows : (get_or dots i d).m ≡ (get_or dots j d).m = ap (λ k. (get_or dots k d).m) e in
      omega arith
]

pub parted : (dots : List Dot) (row : ℕ) → IsAscending dots → IsPartitionedBy (λ (d : Dot). ltb d.m row) dots
parted dots row up = IsPartitionedBy-ltb (λ (d : Dot). d.m) dots row (rows_rise dots up)

-- the place before which the dots of lower rows stand
pub record Splits (dots : List Dot) (row i : ℕ) : Type 0 where
  pub bound : i ≤ length dots
  pub low : (k : ℕ) (d : Dot) → k < i → (get_or dots k d).m < row
  pub high : (k : ℕ) (d : Dot) → i ≤ k → k < length dots → row ≤ (get_or dots k d).m

pub splits : (dots : List Dot) (row i : ℕ) → i ≤ length dots → IsPartitionPoint (λ (d : Dot). ltb d.m row ≡ true) (λ (d : Dot). ltb d.m row ≡ false) dots i → Splits dots row i
splits dots row i bound point = record {
  bound = bound;
  low = λ k d h. ltb-true (get_or dots k d).m row (point.0 k d (omega arith) h);
  high = λ k d h l. ltb-false (get_or dots k d).m row (point.1 k d h l);
}

-- what stands behind a place, and before another one there
at_drop : (dots : List Dot) (i k : ℕ) (d : Dot) → get_or (drop i dots) k d ≡ get_or dots (i + k) d
at_drop dots i k d = get_or-drop i dots k d

pub ascending_drop : (dots : List Dot) (i : ℕ) → IsAscending dots → IsAscending (drop i dots)
ascending_drop dots i up j k d less below =
    let long : length (drop i dots) ≡ length dots - i = length-drop i dots in
    subst (λ x. IsBefore x (get_or (drop i dots) k d)) (sym (at_drop dots i j d))
    (subst (IsBefore (get_or dots (i + j) d)) (sym (at_drop dots i k d)) (up (i + j) (i + k) d (omega arith) (omega arith)))

pub ascending_take : (dots : List Dot) (n : ℕ) → n ≤ length dots → IsAscending dots → IsAscending (take n dots)
ascending_take dots n bound up j k d less below =
    let long : length (take n dots) ≡ n = length-take-le n dots bound in
    subst (λ x. IsBefore x (get_or (take n dots) k d)) (sym (get_or-take n dots j d (omega arith)))
    (subst (IsBefore (get_or dots j d)) (sym (get_or-take n dots k d (omega arith))) (up j k d less (omega arith)))

pub behind : (dots : List Dot) (row i : ℕ) → Splits dots row i → (dot : Dot) → Contains (drop i dots) dot ↔ (Contains dots dot × (row ≤ dot.m))
behind dots row i s dot = (to, from)
  where
    long : length (drop i dots) ≡ length dots - i
    long = length-drop i dots

    to : Contains (drop i dots) dot → Contains dots dot × (row ≤ dot.m)
    to (k, below, is) =
        let inside : i + k < length dots = omega (arith, long) in
        let at : get_or dots (i + k) dot ≡ dot = sym (at_drop dots i k dot) ∙ is in (
          (i + k, inside, at),
          subst (λ (x : Dot). row ≤ x.m) at (s.high (i + k) dot (omega arith) inside),
        )

    from : Contains dots dot × (row ≤ dot.m) → Contains (drop i dots) dot
    from ((k, below, is), high) = elim (cases_lt k i) [
      | inl less ↦
          let low : dot.m < row = subst (λ (x : Dot). x.m < row) is (s.low k dot less) in
          absurd (omega arith)
      | inr more ↦
          let place : i + (k - i) ≡ k = omega arith in
          (k - i, omega (arith, long), at_drop dots i (k - i) dot ∙ ap (λ j. get_or dots j dot) place ∙ is)
    ]

pub before : (dots : List Dot) (row i : ℕ) → Splits dots row i → (dot : Dot) → Contains (take i dots) dot ↔ (Contains dots dot × (dot.m < row))
before dots row i s dot = (to, from)
  where
    long : length (take i dots) ≡ i
    long = length-take-le i dots s.bound

    to : Contains (take i dots) dot → Contains dots dot × (dot.m < row)
    to (k, below, is) =
        let less : k < i = omega (arith, long) in
        let bound : i ≤ length dots = s.bound in
        let at : get_or dots k dot ≡ dot = sym (get_or-take i dots k dot less) ∙ is in
        ((k, omega arith, at), subst (λ (x : Dot). x.m < row) at (s.low k dot less))

    from : Contains dots dot × (dot.m < row) → Contains (take i dots) dot
    from ((k, below, is), low) = elim (cases_lt k i) [
      | inl less ↦ (k, omega (arith, long), get_or-take i dots k dot less ∙ is)
      | inr more ↦
          let high : row ≤ dot.m = subst (λ (x : Dot). row ≤ x.m) is (s.high k dot more below) in
          absurd (omega arith)
    ]

pub between : (dots rest : List Dot) (top bottom i n : ℕ) → rest ≡ drop i dots → Splits dots top i → Splits rest bottom n → (dot : Dot) → Contains (take n rest) dot ↔ (Contains dots dot × (top ≤ dot.m) × (dot.m < bottom))
between dots rest top bottom i n is s t dot =
    let b = subst (λ (xs : List Dot). Contains xs dot ↔ (Contains dots dot × (top ≤ dot.m))) (sym is) (behind dots top i s dot) in
    let e = before rest bottom n t dot in (
      (λ h. let (left, low) = e.0 h in let (whole, high) = b.0 left in (whole, high, low)),
      (λ h. e.1 (b.1 (h.0, h.1), h.2)),
    )
