-- Literals whose variables rise strictly, from above one number to at most another.
use Rattle.std.proofs.Common.{◌≡◌, ℕ, zero, suc, ◌<◌, ◌≤◌, List, [], ◌∷◌, ◌++◌, length, get_or, drop, sym, subst, arith}
use Rattle.std.specs.Prelude.{All}
use Rattle.bx_cnf.specs.Literals.{Literal}
use Rattle.bx_cnf.specs.Formulas.{AscendAbove, IsClause}

abbrev pub Rises : ℕ → ℕ → List Literal → Type 0
Rises low high [] = low ≤ high
Rises low high (l ∷ ls) = (low < l.var) × Rises l.var high ls

pub rises-le : (low high : ℕ) (ls : List Literal) → Rises low high ls → low ≤ high
rises-le low high [] h = h
rises-le low high (l ∷ ls) (above, rest) = omega (arith, rises-le l.var high ls rest)

pub rises-from : (low lower high : ℕ) (ls : List Literal) → lower ≤ low → Rises low high ls → Rises lower high ls
rises-from low lower high [] le h = omega arith
rises-from low lower high (l ∷ ls) le (above, rest) = (omega arith, rest)

pub rises-to : (low high higher : ℕ) (ls : List Literal) → high ≤ higher → Rises low high ls → Rises low higher ls
rises-to low high higher [] le h = omega arith
rises-to low high higher (l ∷ ls) le (above, rest) = (above, rises-to l.var high higher ls le rest)

pub rises-append : (low middle high : ℕ) (xs ys : List Literal) → Rises low middle xs → Rises middle high ys → Rises low high (xs ++ ys)
rises-append low middle high [] ys le rises = rises-from middle low high ys le rises
rises-append low middle high (x ∷ xs) ys (above, rest) rises = (above, rises-append x.var middle high xs ys rest rises)

rises-ascend : (low high : ℕ) (ls : List Literal) → Rises low high ls → AscendAbove low ls
rises-ascend low high [] h = tt
rises-ascend low high (l ∷ ls) (above, rest) = (above, rises-ascend l.var high ls rest)

-- what is between the two
pub record IsBetween (low high n : ℕ) : Type 0 where
  pub above : low < n
  pub within : n ≤ high

pub rises-at : (low high : ℕ) (ls : List Literal) (k : ℕ) (d : Literal) → Rises low high ls → k < length ls → IsBetween low high (get_or ls k d).var
rises-at low high [] k d h inside = absurd (omega arith)
rises-at low high (l ∷ ls) zero d (above, rest) inside = record { above = above; within = rises-le l.var high ls rest }
rises-at low high (l ∷ ls) (suc k) d (above, rest) inside =
    let own = rises-at l.var high ls k d rest (omega arith) in
    record { above = omega (arith, own.above); within = own.within }

pub rises-clause : (vars : ℕ) (ls : List Literal) → Rises 0 vars ls → IsClause vars ls
rises-clause vars ls rises = record {
  ascending = rises-ascend 0 vars ls rises;
  within = λ k d inside. (rises-at 0 vars ls k d rises inside).within;
}

ascend-rises : (low vars : ℕ) (ls : List Literal) → low ≤ vars → AscendAbove low ls → All (λ l. l.var ≤ vars) ls → Rises low vars ls
ascend-rises low vars [] le ascends within = le
ascend-rises low vars (l ∷ ls) le (above, rest) within =
    (above, ascend-rises l.var vars ls (within 0 l (omega arith)) rest (λ k d inside. within (suc k) d (omega arith)))

pub clause-rises : (vars : ℕ) (ls : List Literal) → IsClause vars ls → Rises 0 vars ls
clause-rises vars ls clause = ascend-rises 0 vars ls (omega arith) clause.ascending clause.within

-- the first of a clause, and one that stands behind it
pub first-and : (vars : ℕ) (x : Literal) (ls : List Literal) (k : ℕ) (y : Literal) → IsClause vars (x ∷ ls) → k < length ls → y ≡ get_or ls k y → IsClause vars (x ∷ y ∷ [])
first-and vars x ls k y clause inside is =
    let (above, rest) = clause-rises vars (x ∷ ls) clause in
    let own = subst (λ (l : Literal). IsBetween x.var vars l.var) (sym is) (rises-at x.var vars ls k y rest inside) in
    rises-clause vars (x ∷ y ∷ []) (above, (own.above, own.within))

-- the literals from a place on are a clause too
rises-drop : (low high : ℕ) (ls : List Literal) (k : ℕ) → Rises low high ls → Rises low high (drop k ls)
rises-drop low high ls zero h = h
rises-drop low high [] (suc k) h = h
rises-drop low high (l ∷ ls) (suc k) (above, rest) = rises-from l.var low high (drop k ls) (omega arith) (rises-drop l.var high ls k rest)

pub clause-drop : (vars : ℕ) (ls : List Literal) (k : ℕ) → IsClause vars ls → IsClause vars (drop k ls)
clause-drop vars ls k clause = rises-clause vars (drop k ls) (rises-drop 0 vars ls k (clause-rises vars ls clause))
