-- The set of clauses that may be active: each one that is taken out makes it smaller, and none that is
-- active is.
use Rattle.std.proofs.Common.{◌≡◌, ◌≢◌, ℕ, zero, suc, ◌<◌, Bool, true, false, List, [], ◌∷◌, length, slice_get, Some, refl, sym, ◌∙◌, ap, subst, inl, inr, arith}
use Rattle.std.proofs.lemmas.Bool.{cases_eq, cases_order}
use Rattle.std.proofs.lemmas.Option.{slice_get_within}
use Rattle.bx_cnf.specs.Literals.{Literal}
use Rattle.bx_cnf.specs.Formulas.{Formula}
use Rattle.bx_cnf.specs.Assignments.{IsActive}
use Rattle.bx_least_set.specs.Numbers.{has, Removes, IsLeast, IsNone}
use Rattle.bx_watch.specs.declared.lists.Entry.{Entry}
use Rattle.bx_watch.specs.declared.reading.Reading.{Reading}
use Rattle.bx_watch.specs.declared.reading.Reading.TheVariants.{False, Unit, Met, Other}
use Rattle.bx_watch.specs.Watching.{AreApart}
use Rattle.bx_watch.specs.Readings.{IsRead, is_open}
use Rattle.bx_watch.specs.Keeping.{Tables, AreParked, IsParked, ArePending, Parks, Cleans}
use Rattle.bx_watch.proofs.Parking.{parked-more, parked-stays, parked-asleep}
use Rattle.bx_watch.proofs.Keeps.{one-at}

-- how many numbers are in a set
abbrev pub trues : List Bool → ℕ
trues [] = 0
trues (true ∷ xs) = suc (trues xs)
trues (false ∷ xs) = trues xs

trues-same : (old new : List Bool) → length new ≡ length old → ((j : ℕ) → has new j ≡ has old j) → trues new ≡ trues old
trues-same [] [] sized same = refl
trues-same [] (b ∷ bs) sized same = absurd (omega (arith, sized))
trues-same (a ∷ as_) [] sized same = absurd (omega (arith, sized))
trues-same (true ∷ xs) (true ∷ ys) sized same = ap (λ n. suc n) (trues-same xs ys (omega (arith, sized)) (λ j. same (suc j)))
trues-same (false ∷ xs) (false ∷ ys) sized same = trues-same xs ys (omega (arith, sized)) (λ j. same (suc j))
trues-same (true ∷ xs) (false ∷ ys) sized same = absurd (false_true (same 0)) where
  false_true : false ≡ true → ⊥
  false_true e = cc
trues-same (false ∷ xs) (true ∷ ys) sized same = absurd (true_false (same 0)) where
  true_false : true ≡ false → ⊥
  true_false e = cc

pub trues-fewer : (old new : List Bool) (k : ℕ) → length new ≡ length old → has old k ≡ true → has new k ≡ false → ((j : ℕ) → j ≢ k → has new j ≡ has old j) → trues new < trues old
trues-fewer [] new k sized there gone others = absurd (false_true there) where
  false_true : false ≡ true → ⊥
  false_true e = cc
trues-fewer (a ∷ xs) [] k sized there gone others = absurd (omega (arith, sized))
trues-fewer (true ∷ xs) (false ∷ ys) zero sized there gone others =
    let same : trues ys ≡ trues xs = trues-same xs ys (omega (arith, sized)) (λ j. others (suc j) (omega arith)) in omega (arith, same)
trues-fewer (false ∷ xs) (b ∷ ys) zero sized there gone others = absurd (false_true there) where
  false_true : false ≡ true → ⊥
  false_true e = cc
trues-fewer (true ∷ xs) (true ∷ ys) zero sized there gone others = absurd (true_false gone) where
  true_false : true ≡ false → ⊥
  true_false e = cc
trues-fewer (true ∷ xs) (true ∷ ys) (suc k) sized there gone others = omega (arith, trues-fewer xs ys k (omega (arith, sized)) there gone (λ j apart. others (suc j) (omega (arith, apart))))
trues-fewer (false ∷ xs) (false ∷ ys) (suc k) sized there gone others = trues-fewer xs ys k (omega (arith, sized)) there gone (λ j apart. others (suc j) (omega (arith, apart)))
trues-fewer (true ∷ xs) (false ∷ ys) (suc k) sized there gone others = absurd (false_true (others 0 (omega arith))) where
  false_true : false ≡ true → ⊥
  false_true e = cc
trues-fewer (false ∷ xs) (true ∷ ys) (suc k) sized there gone others = absurd (true_false (others 0 (omega arith))) where
  true_false : true ≡ false → ⊥
  true_false e = cc

-- how far the set was cleaned
pub record IsCleaning (f : Formula) (trail : List Literal) (old t : Tables) (parked : List (List Entry)) : Type 0 where
  pub lists_stay : t.lists ≡ old.lists
  pub pairs_stay : t.pairs ≡ old.pairs
  pub sized : length t.pending ≡ length old.pending
  pub within : length t.pending ≡ length f.clauses
  pub parking : AreParked f parked
  pub pending : ArePending f trail t.pending parked

pub read-active : (trail clause : List Literal) (reading : Reading) → IsRead trail clause reading → is_open reading ≡ true → IsActive trail clause
read-active trail clause False is open_ = inl is
read-active trail clause (Unit l) is open_ = inr (l, is)
read-active trail clause (Met l) is open_ = absurd (false_true open_) where
  false_true : false ≡ true → ⊥
  false_true e = cc
read-active trail clause Other is open_ = absurd (false_true open_) where
  false_true : false ≡ true → ⊥
  false_true e = cc

one-least : (s : List Bool) (j k : ℕ) → IsLeast s j → IsLeast s k → j ≡ k
one-least s j k one two = elim (cases_order j k) [
  | inl same ↦ same
  | inr (inl before) ↦ absurd (true_false (sym one.there ∙ two.none_before j before))
  | inr (inr behind) ↦ absurd (true_false (sym two.there ∙ one.none_before k behind))
] where
  true_false : true ≡ false → ⊥
  true_false e = cc

pub cleaned-at : (f : Formula) (trail : List Literal) (old t : Tables) (parked : List (List Entry)) (k : ℕ) (clause : List Literal) → IsCleaning f trail old t parked → IsLeast t.pending k → slice_get f.clauses k ≡ Some clause → IsActive trail clause
    → Cleans f trail old t parked
cleaned-at f trail old t parked k clause is least at active = record {
  lists_stay = is.lists_stay;
  pairs_stay = is.pairs_stay;
  sized = is.sized;
  parking = is.parking;
  pending = is.pending;
  clean = λ j other least_j at_j. subst (IsActive trail) (one-at f.clauses k clause other at (subst (λ (n : ℕ). slice_get f.clauses n ≡ Some other) (one-least t.pending j k least_j least) at_j)) active;
}

pub cleaned-none : (f : Formula) (trail : List Literal) (old t : Tables) (parked : List (List Entry)) → IsCleaning f trail old t parked → IsNone t.pending → Cleans f trail old t parked
cleaned-none f trail old t parked is none = record {
  lists_stay = is.lists_stay;
  pairs_stay = is.pairs_stay;
  sized = is.sized;
  parking = is.parking;
  pending = is.pending;
  clean = λ j other least at. absurd (true_false (sym least.there ∙ none j));
} where
  true_false : true ≡ false → ⊥
  true_false e = cc

pub cleaning-more : (f : Formula) (trail : List Literal) (old t : Tables) (parked new : List (List Entry)) (pending : List Bool) (k : ℕ) (clause : List Literal) (reading : Reading) → AreApart trail → IsCleaning f trail old t parked
    → slice_get f.clauses k ≡ Some clause → IsRead trail clause reading → is_open reading ≡ false → Parks parked new reading k → Removes t.pending pending k → IsCleaning f trail old (record t { pending = pending }) new
cleaning-more f trail old t parked new pending k clause reading apart is at read closed parks removes = record {
  lists_stay = is.lists_stay;
  pairs_stay = is.pairs_stay;
  sized = removes.bound_stays ∙ is.sized;
  within = removes.bound_stays ∙ is.within;
  parking = parked-more f parked new reading k (slice_get_within f.clauses k clause at) is.parking parks;
  pending = λ front back j other split at_j active. elim (cases_eq j k) [
    | inl same ↦ inr (subst (IsParked new back) (sym same)
        (parked-asleep trail front back clause parked new reading k apart read closed parks split
        (subst (IsActive front) (one-at f.clauses k other clause (subst (λ (n : ℕ). slice_get f.clauses n ≡ Some other) same at_j) at) active)))
    | inr differ ↦ elim (is.pending front back j other split at_j active) [
      | inl there ↦ inl (removes.others j differ ∙ there)
      | inr waits ↦ inr (parked-stays parked new reading k j back parks waits)
    ]
  ];
}
