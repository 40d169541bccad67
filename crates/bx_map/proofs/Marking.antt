-- Marks of the numbers of a list: one number more, and many.
use Rattle.std.proofs.Common.{◌≡◌, ℕ, ◌<◌, ◌==◌, Bool, true, false, ◌||◌, List, [], ◌∷◌, ◌++◌, length, set, get_or, refl, sym, ◌∙◌, ap, subst, arith, inl, inr}
use Rattle.std.specs.List.{AllByRecursion}
use Rattle.std.proofs.Math.Bool.{or-false, or-true}
use Rattle.std.proofs.lemmas.Bool.{cases_eq, eq-eqb, ne_eqb}
use Rattle.std.proofs.lemmas.List.{length-set, get_or-set_same, get_or-set_other}
use Rattle.std.proofs.lemmas.List.Folds.{list_any-append}
use Rattle.bx_map.specs.Walks.{has}
use Rattle.bx_map.specs.Marks.{AreMarks, with_marks}

or-middle : (a b c : Bool) → (a || (b || c)) ≡ ((b || a) || c)
or-middle true true c = refl
or-middle true false c = refl
or-middle false true c = refl
or-middle false false c = refl

pub has-both : (xs ys : List ℕ) (n : ℕ) → has (xs ++ ys) n ≡ (has xs n || has ys n)
has-both xs ys n = list_any-append (λ m. m == n) xs ys

pub has-behind : (xs : List ℕ) (m n : ℕ) → has (xs ++ m ∷ []) n ≡ (has xs n || (m == n))
has-behind xs m n = has-both xs (m ∷ []) n ∙ ap (λ (b : Bool). has xs n || b) (or-false (m == n))

-- one number more
pub set-at : (marks : List Bool) (m n : ℕ) → m < length marks → get_or (set marks m true) n false ≡ ((m == n) || get_or marks n false)
set-at marks m n l =
    elim (cases_eq m n) [
      | inl e ↦ ap (λ (k : ℕ). get_or (set marks m true) k false) (sym e) ∙ (get_or-set_same marks m true false l ∙ sym (ap (λ (b : Bool). b || get_or marks n false) (eq-eqb m n e)))
      | inr ne ↦ get_or-set_other marks m n true false (λ e. ne (sym e)) ∙ sym (ap (λ (b : Bool). b || get_or marks n false) (ne_eqb m n ne))
    ]

pub with_marks-length : (marks : List Bool) (xs : List ℕ) → length (with_marks marks xs) ≡ length marks
with_marks-length marks [] = refl
with_marks-length marks (x ∷ xs) = with_marks-length (set marks x true) xs ∙ length-set marks x true

within-set : (marks : List Bool) (m : ℕ) (xs : List ℕ) → AllByRecursion (λ a. a < length marks) xs → AllByRecursion (λ a. a < length (set marks m true)) xs
within-set marks m [] a = tt
within-set marks m (x ∷ xs) a = let e = length-set marks m true in (omega (arith, a.0, e), within-set marks m xs a.1)

-- many numbers more
pub with_marks-at : (marks : List Bool) (xs : List ℕ) (n : ℕ) → AllByRecursion (λ a. a < length marks) xs → get_or (with_marks marks xs) n false ≡ (has xs n || get_or marks n false)
with_marks-at marks [] n a = refl
with_marks-at marks (x ∷ xs) n a =
    with_marks-at (set marks x true) xs n (within-set marks x xs a.1)
    ∙ (ap (λ (b : Bool). has xs n || b) (set-at marks x n a.0) ∙ or-middle (has xs n) (x == n) (get_or marks n false))

pub marks-push : (n m : ℕ) (xs : List ℕ) (marks : List Bool) → m < n → AreMarks n xs marks → AreMarks n (xs ++ m ∷ []) (set marks m true)
marks-push n m xs marks l h = record {
  whole = length-set marks m true ∙ h.whole;
  each = λ i k.
      let w = h.whole in
      set-at marks m i (omega (arith, w)) ∙ (ap (λ (b : Bool). (m == i) || b) (h.each i k) ∙ (swap (m == i) (has xs i) ∙ sym (has-behind xs m i)));
}
  where
    swap : (a b : Bool) → (a || b) ≡ (b || a)
    swap true b = sym (or-true b)
    swap false b = sym (or-false b)

pub marks-later : (n m : ℕ) (xs ys : List ℕ) (marks later : List Bool) → m < n → ys ≡ xs ++ m ∷ [] → later ≡ set marks m true → AreMarks n xs marks → AreMarks n ys later
marks-later n m xs ys marks later l e f h =
    subst (λ (zs : List ℕ). AreMarks n zs later) (sym e) (subst (AreMarks n (xs ++ m ∷ [])) (sym f) (marks-push n m xs marks l h))
