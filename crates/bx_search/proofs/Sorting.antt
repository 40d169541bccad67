-- Literals in the order of their variables.
use Rattle.std.proofs.Common.{◌≡◌, ◌≢◌, ℕ, suc, ◌<◌, ◌≤◌, inl, Bool, false, ◌==◌, List, [], ◌∷◌, refl, subst, arith}
use Rattle.std.specs.Prelude.{All}
use Rattle.std.specs.List.{IsDistinct}
use Rattle.std.specs.List.Sorted.{IsNonDecreasingBy, IsPermutation}
use Rattle.std.proofs.lemmas.Bool.{eqb-false, ne_eqb}
use Rattle.std.proofs.lemmas.List.Elements.{All-contains}
use Rattle.std.proofs.lemmas.List.Sorted.{All-permutation}
use Rattle.std.proofs.lemmas.Map.Keys.{IsDistinct-IsPermutation}
use Rattle.bx_logic.proofs.Members.{Member, Contains-from_member, AllByRecursion-from_member, member_of_AllByRecursion}
use Rattle.bx_cnf.specs.Literals.{Literal}
use Rattle.bx_cnf.specs.Formulas.{AscendAbove}
use Rattle.bx_watch.specs.Watching.{AreApart}

abbrev same_variable : Literal → Literal → Bool
same_variable l m = l.var == m.var

pub apart-later : (l : Literal) (ls : List Literal) (m : Literal) → AreApart (l ∷ ls) → Member m ls → l.var ≢ m.var
apart-later l ls m apart h =
    let (k, below, at) = Contains-from_member m ls h in
    subst (λ (x : Literal). l.var ≢ x.var) at (apart 0 (suc k) m (omega arith) (omega (arith, below)))

pub apart-rest : (l : Literal) (ls : List Literal) → AreApart (l ∷ ls) → AreApart ls
apart-rest l ls apart i j d before below = apart (suc i) (suc j) d (omega (arith, before)) (omega (arith, below))

distinct-apart : (ls : List Literal) → AreApart ls → IsDistinct same_variable ls
unfolding IsDistinct
distinct-apart [] apart = tt
distinct-apart (l ∷ ls) apart = (
  AllByRecursion-from_member (λ m. same_variable l m ≡ false) ls (λ m h. ne_eqb l.var m.var (apart-later l ls m apart h)),
  distinct-apart ls (apart-rest l ls apart),
)

flips : (m n : ℕ) → (m == n) ≡ (n == m)
flips m n = grind arith

later-above : (l : Literal) (ls : List Literal) (m : Literal) → IsNonDecreasingBy (λ (x : Literal). x.var) (l ∷ ls) → Member m ls → l.var ≤ m.var
later-above l ls m up h =
    let (k, below, at) = Contains-from_member m ls h in
    subst (λ (x : Literal). l.var ≤ x.var) at (up 0 (suc k) m (omega arith) (omega (arith, below)))

ascend-sorted : (low : ℕ) (ls : List Literal) → IsNonDecreasingBy (λ (x : Literal). x.var) ls → IsDistinct same_variable ls → ((m : Literal) → Member m ls → low < m.var) → AscendAbove low ls
unfolding IsDistinct
ascend-sorted low [] up apart above = tt
ascend-sorted low (l ∷ ls) up apart above = (
  above l (inl refl),
  ascend-sorted l.var ls (λ i j d before below. up (suc i) (suc j) d (omega (arith, before)) (omega (arith, below))) apart.1
      (λ m h. let le = later-above l ls m up h in
      let ne : l.var ≢ m.var = eqb-false l.var m.var (member_of_AllByRecursion (λ x. same_variable l x ≡ false) m ls apart.0 h) in omega (arith, le, ne)),
)

-- what a sort by variable makes of literals over variables of their own
pub sorted-ascends : (before after : List Literal) → IsPermutation before after → IsNonDecreasingBy (λ (x : Literal). x.var) after → All (λ (l : Literal). 0 < l.var) before → AreApart before → AscendAbove 0 after
sorted-ascends before after moved up above apart =
    ascend-sorted 0 after up (IsDistinct-IsPermutation same_variable (λ x y. flips x.var y.var) before after moved (distinct-apart before apart))
    (λ m h. All-contains (λ (l : Literal). 0 < l.var) after m (All-permutation (λ (l : Literal). 0 < l.var) before after moved above) (Contains-from_member m after h))
