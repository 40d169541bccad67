-- Recursion over the nets that a net reads, where none depends on itself: what each net is to have,
-- told by what those that it reads have, comes out after one step more than there are nets.
use Rattle.std.proofs.Common.{◌≡◌, ℕ, zero, suc, ◌<◌, true, false, eqb, List, [], ◌∷◌, length, refl, sym, ◌∙◌, ap, subst, arith, inl, inr, ◌⊎◌}
use Rattle.std.specs.List.{AllByRecursion, IsDistinct, list_any}
use Rattle.std.proofs.lemmas.Bool.Decides.{eqb_tells}
use Rattle.std.proofs.lemmas.List.Elements.{recursion_from_All, All-contains_itself}
use Rattle.std.proofs.lemmas.Map.Steps.{length-le_from_distinct_below}
use Rattle.bx_logic.specs.declared.driver.Driver.{Driver}
use Rattle.bx_logic.specs.Nets.{arguments_of, driver_at, Reads, DependsOn, directly, through, IsAcyclic}
use Rattle.bx_logic.specs.Cycles.{ReadsNetsOnly}
use Rattle.bx_logic.proofs.Lists.{all-weaker}

both : (P Q : ℕ → Type 0) (xs : List ℕ) → AllByRecursion P xs → AllByRecursion Q xs → AllByRecursion (λ x. P x × Q x) xs
both P Q [] a b = tt
both P Q (x ∷ xs) a b = ((a.0, b.0), both P Q xs a.1 b.1)

pub arguments-read : (drivers : List Driver) (n : ℕ) → AllByRecursion (λ m. Reads drivers n m) (arguments_of (driver_at drivers n))
arguments-read drivers n =
    recursion_from_All (λ m. Reads drivers n m) (arguments_of (driver_at drivers n)) (All-contains_itself (arguments_of (driver_at drivers n)))

-- what each net is to have after so many steps
pub unroll : {X : Type 0} → X → (ℕ → (ℕ → X) → X) → ℕ → ℕ → X
unroll x step zero n = x
unroll x step (suc k) n = step n (unroll x step k)

-- no chain of k nets, each read by the one before, begins below it
unfoldable pub IsShallow : List Driver → ℕ → ℕ → Type 0
IsShallow drivers zero n = ⊥
IsShallow drivers (suc k) n = AllByRecursion (λ m. IsShallow drivers k m) (arguments_of (driver_at drivers n))

-- the step reads nothing but what the net reads
unfoldable pub IsLocal : {X : Type 0} → List Driver → (ℕ → (ℕ → X) → X) → Type 0
IsLocal {X} drivers step =
    (n : ℕ) (f g : ℕ → X) → AllByRecursion (λ m. f m ≡ g m) (arguments_of (driver_at drivers n)) → step n f ≡ step n g

unroll-stable : {X : Type 0} (x : X) (step : ℕ → (ℕ → X) → X) (drivers : List Driver) → IsLocal drivers step →
    (k n : ℕ) → IsShallow drivers k n → unroll x step k n ≡ unroll x step (suc k) n
unfolding unroll IsShallow IsLocal
unroll-stable x step drivers local zero n h = absurd h
unroll-stable x step drivers local (suc k) n h =
    local n (unroll x step k) (unroll x step (suc k))
    (all-weaker (λ m. IsShallow drivers k m) (λ m. unroll x step k m ≡ unroll x step (suc k) m)
    (λ m s. unroll-stable x step drivers local k m s) (arguments_of (driver_at drivers n)) h)

-- k nets below a net, none of them twice
record Trail (drivers : List Driver) (k n : ℕ) : Type 0 where
  nets : List ℕ
  long : length nets ≡ k
  below : AllByRecursion (λ m. DependsOn drivers n m) nets
  apart : IsDistinct eqb nets
  within : AllByRecursion (λ m. m < length drivers) nets

all-at-member : (P : ℕ → Type 0) (xs : List ℕ) → AllByRecursion P xs → (q : ℕ) → list_any (eqb q) xs ≡ true → P q
all-at-member P [] a q h = cc
all-at-member P (x ∷ xs) a q h =
    elim (eqb_tells q x) [
      | inl same ↦ subst P (sym same.1) a.0
      | inr other ↦ all-at-member P xs a.1 q (rw other.0 at h)
    ]

all-apart : (drivers : List Driver) → IsAcyclic drivers → (m : ℕ) (xs : List ℕ) → AllByRecursion (λ y. DependsOn drivers m y) xs →
    AllByRecursion (λ y. eqb m y ≡ false) xs
all-apart drivers acyclic m [] a = tt
all-apart drivers acyclic m (x ∷ xs) a = (
  elim (eqb_tells m x) [
    | inl same ↦ absurd (acyclic m (subst (λ (y : ℕ). DependsOn drivers m y) (sym same.1) a.0))
    | inr other ↦ other.0
  ],
  all-apart drivers acyclic m xs a.1,
)

-- the trail of a net that is read, with that net before it
longer : (drivers : List Driver) → IsAcyclic drivers → ReadsNetsOnly drivers →
    (k n m : ℕ) → Reads drivers n m → Trail drivers k m → Trail drivers (suc k) n
unfolding IsDistinct
longer drivers acyclic within k n m reads trail = record {
  nets = m ∷ trail.nets;
  long = ap suc trail.long;
  below = (
    directly n m reads,
    all-weaker (λ y. DependsOn drivers m y) (λ y. DependsOn drivers n y) (λ y d. through n m y reads d) trail.nets trail.below,
  );
  apart = (all-apart drivers acyclic m trail.nets trail.below, trail.apart);
  within = (within n m reads, trail.within);
}

-- if each of these either has what it is to have or leads to G, all of them have or one leads to G
all_or : (P : ℕ → Type 0) (G : Type 0) (xs : List ℕ) → AllByRecursion (λ m. P m ⊎ G) xs → AllByRecursion P xs ⊎ G
all_or P G [] a = inl tt
all_or P G (x ∷ xs) a =
    elim a.0 [
      | inr g ↦ inr g
      | inl p ↦ elim (all_or P G xs a.1) [
        | inr g ↦ inr g
        | inl ps ↦ inl (p, ps)
      ]
    ]

shallow_or_trail : (drivers : List Driver) → IsAcyclic drivers → ReadsNetsOnly drivers →
    (k n : ℕ) → IsShallow drivers k n ⊎ Trail drivers k n
unfolding IsShallow IsDistinct
shallow_or_trail drivers acyclic within zero n = inr (record { nets = []; long = refl; below = tt; apart = tt; within = tt })
shallow_or_trail drivers acyclic within (suc k) n =
    all_or (λ m. IsShallow drivers k m) (Trail drivers (suc k) n) (arguments_of (driver_at drivers n))
    (all-weaker (λ m. Reads drivers n m) (λ m. IsShallow drivers k m ⊎ Trail drivers (suc k) n)
    (λ m reads. elim (shallow_or_trail drivers acyclic within k m) [
      | inl s ↦ inl s
      | inr trail ↦ inr (longer drivers acyclic within k n m reads trail)
    ])
    (arguments_of (driver_at drivers n))
    (arguments-read drivers n))

pub shallow : (drivers : List Driver) → IsAcyclic drivers → ReadsNetsOnly drivers →
    (n : ℕ) → IsShallow drivers (suc (length drivers)) n
shallow drivers acyclic within n =
    elim (shallow_or_trail drivers acyclic within (suc (length drivers)) n) [
      | inl s ↦ s
      | inr trail ↦
          let few = length-le_from_distinct_below trail.nets (length drivers) trail.apart
          (λ q h. all-at-member (λ m. m < length drivers) trail.nets trail.within q h) in
          absurd (omega (arith, few, trail.long))
    ]

-- what each net has in the end is what the step gives it of that
pub unrolled : {X : Type 0} (x : X) (step : ℕ → (ℕ → X) → X) (drivers : List Driver) → IsLocal drivers step → IsAcyclic drivers →
    ReadsNetsOnly drivers → (n : ℕ) →
    unroll x step (suc (length drivers)) n ≡ step n (unroll x step (suc (length drivers)))
unfolding unroll
unrolled x step drivers local acyclic within n =
    unroll-stable x step drivers local (suc (length drivers)) n (shallow drivers acyclic within n)

-- two functions that the step gives on each net are the same there
pub same_unrolled : {X : Type 0} (step : ℕ → (ℕ → X) → X) (drivers : List Driver) → IsLocal drivers step →
    ReadsNetsOnly drivers → (f g : ℕ → X) →
    ((n : ℕ) → n < length drivers → f n ≡ step n f) → ((n : ℕ) → n < length drivers → g n ≡ step n g) →
    (k n : ℕ) → n < length drivers → IsShallow drivers k n → f n ≡ g n
unfolding IsShallow IsLocal
same_unrolled step drivers local within f g is_f is_g zero n l h = absurd h
same_unrolled step drivers local within f g is_f is_g (suc k) n l h =
    is_f n l
    ∙ local n f g (all-weaker (λ m. Reads drivers n m × IsShallow drivers k m) (λ m. f m ≡ g m)
    (λ m s. same_unrolled step drivers local within f g is_f is_g k m (within n m s.0) s.1)
    (arguments_of (driver_at drivers n))
    (both (λ m. Reads drivers n m) (λ m. IsShallow drivers k m) (arguments_of (driver_at drivers n))
    (arguments-read drivers n) h))
    ∙ sym (is_g n l)
