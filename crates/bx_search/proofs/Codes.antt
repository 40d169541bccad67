-- There are at most 3 ^ v clauses over v variables: each is a number of v digits of base 3.
use Rattle.std.proofs.Common.{◌≡◌, ◌≢◌, ℕ, zero, suc, ◌+◌, ◌*◌, ◌^◌, ◌<◌, ◌≤◌, eqb, inl, inr, Bool, true, false, ◌==◌, ◌||◌, cond, List, [], ◌∷◌, length, map, refl, sym, ◌∙◌, ap, subst, arith}
use Rattle.std.specs.List.{list_any, IsDistinct}
use Rattle.std.proofs.Math.Nat.{pow-suc}
use Rattle.std.proofs.lemmas.Bool.{cases_eq, cases_Bool, eqb-true, eq-eqb, ne_eqb}
use Rattle.std.proofs.lemmas.List.{length-map}
use Rattle.std.proofs.lemmas.List.Elements.{All-contains}
use Rattle.std.proofs.lemmas.Map.Steps.{length-le_from_distinct_below}
use Rattle.bx_logic.specs.Lists.{AreDistinct}
use Rattle.bx_logic.proofs.Members.{Member, Member-map_cases, Contains-from_member, AllByRecursion-from_member, member_of_AllByRecursion}
use Rattle.bx_cnf.specs.Literals.{Literal}
use Rattle.bx_cnf.specs.Formulas.{AscendAbove, IsClause}
use Rattle.bx_search.proofs.OneEnd.{above, one-ascending}

-- 1 of a literal that isn't negated, 2 of one that is
sign : Bool → ℕ
sign true = 1
sign false = 2

-- the sign of the literal over a variable, and 0 where there is none
digit : List Literal → ℕ → ℕ
digit [] v = 0
digit (l ∷ ls) v = cond (l.var == v) (sign l.positive) (digit ls v)

digit-small : (ls : List Literal) (v : ℕ) → digit ls v < 3
unfolding digit sign
digit-small [] v = omega arith
digit-small (l ∷ ls) v = cases (l.var == v) l.positive (digit-small ls v) where
  cases : (b p : Bool) → digit ls v < 3 → cond b (sign p) (digit ls v) < 3
  cases true true h = omega arith
  cases true false h = omega arith
  cases false p h = h

-- the sign of a literal of the clause
digit-of : (low : ℕ) (ls : List Literal) (l : Literal) → AscendAbove low ls → Member l ls → digit ls l.var ≡ sign l.positive
unfolding digit
digit-of low [] l a h = absurd h
digit-of low (m ∷ ls) l a (inl e) = rw (eq-eqb m.var l.var (ap (λ (x : Literal). x.var) e)) (ap (λ (x : Literal). sign x.positive) e)
digit-of low (m ∷ ls) l a (inr h) =
    let behind = above m.var ls l a.1 h in
    rw (ne_eqb m.var l.var (λ e. omega (arith, behind, e))) (digit-of m.var ls l a.1 h)

sign-same : (p q : Bool) → sign p ≡ sign q → p ≡ q
unfolding sign
sign-same true true e = refl
sign-same true false e = absurd (omega (arith, e))
sign-same false true e = absurd (omega (arith, e))
sign-same false false e = refl

sign-some : (p : Bool) → 0 ≡ sign p → ⊥
unfolding sign
sign-some true e = omega (arith, e)
sign-some false e = omega (arith, e)

-- a clause has the literal whose sign its digit is
of-digit : (ls : List Literal) (v : ℕ) (p : Bool) → digit ls v ≡ sign p → Member (record { var = v; positive = p }) ls
unfolding digit
of-digit [] v p e = absurd (sign-some p e)
of-digit (l ∷ ls) v p e = elim (cases_Bool (l.var == v)) [
  | inl here ↦ inl (
      ap (λ (n : ℕ). record { var = n; positive = l.positive }) (eqb-true l.var v here)
      ∙ ap (λ (b : Bool). record { var = v; positive = b }) (sign-same l.positive p (taken (l.var == v) here e)))
  | inr other ↦ inr (of-digit ls v p (passed (l.var == v) other e))
] where
  taken : (b : Bool) → b ≡ true → cond b (sign l.positive) (digit ls v) ≡ sign p → sign l.positive ≡ sign p
  taken b t h = rw t at h

  passed : (b : Bool) → b ≡ false → cond b (sign l.positive) (digit ls v) ≡ sign p → digit ls v ≡ sign p
  passed b f h = rw f at h

-- the number of a clause over so many variables
code : ℕ → List Literal → ℕ
code zero ls = 0
code (suc vars) ls = digit ls (suc vars) + 3 * code vars ls

code-below : (vars : ℕ) (ls : List Literal) → code vars ls < 3 ^ vars
unfolding code
code-below zero ls = omega arith
code-below (suc vars) ls =
    let power : 3 ^ suc vars ≡ 3 ^ vars * 3 = pow-suc 3 vars in
    omega (arith, power, code-below vars ls, digit-small ls (suc vars))

code-digit : (vars : ℕ) (xs ys : List Literal) (v : ℕ) → code vars xs ≡ code vars ys → 0 < v → v ≤ vars → digit xs v ≡ digit ys v
unfolding code
code-digit zero xs ys v e low high = absurd (omega (arith, low, high))
code-digit (suc vars) xs ys v e low high =
    let x = digit-small xs (suc vars) in
    let y = digit-small ys (suc vars) in
    elim (cases_eq v (suc vars)) [
      | inl same ↦ subst (λ n. digit xs n ≡ digit ys n) (sym same) (omega (arith, e, x, y))
      | inr other ↦ code-digit vars xs ys v (omega (arith, e, x, y)) low (omega (arith, high, other))
    ]

-- a literal of one clause is one of the other
code-within : (vars : ℕ) (xs ys : List Literal) → IsClause vars xs → code vars xs ≡ code vars ys → (l : Literal) → Member l xs → Member l ys
code-within vars xs ys is e l h =
    let low = above 0 xs l is.ascending h in
    let high = All-contains (λ (m : Literal). m.var ≤ vars) xs l is.within (Contains-from_member l xs h) in
    of-digit ys l.var l.positive (sym (code-digit vars xs ys l.var e low high) ∙ digit-of 0 xs l is.ascending h)

code-same : (vars : ℕ) (xs ys : List Literal) → IsClause vars xs → IsClause vars ys → code vars xs ≡ code vars ys → xs ≡ ys
code-same vars xs ys a b e = one-ascending 0 xs ys a.ascending b.ascending (code-within vars xs ys a e, code-within vars ys xs b (sym e))

-- clauses of which no two are the same have numbers of which no two are
distinct-codes : (vars : ℕ) (clauses : List (List Literal)) → ((c : List Literal) → Member c clauses → IsClause vars c) → AreDistinct clauses → IsDistinct eqb (map (code vars) clauses)
unfolding IsDistinct
distinct-codes vars [] are distinct = tt
distinct-codes vars (c ∷ clauses) are distinct = (
  AllByRecursion-from_member (λ n. eqb (code vars c) n ≡ false) (map (code vars) clauses) (λ n h.
      let (d, on, is) = Member-map_cases (code vars) n clauses h in
      let other : d ≢ c = member_of_AllByRecursion (λ (x : List Literal). x ≢ c) d clauses distinct.0 on in
      ne_eqb (code vars c) n (λ e. other (code-same vars d c (are d (inr on)) (are c (inl refl)) (is ∙ sym e)))),
  distinct-codes vars clauses (λ d h. are d (inr h)) distinct.1,
)

codes-below : (vars : ℕ) (clauses : List (List Literal)) (q : ℕ) → list_any (eqb q) (map (code vars) clauses) ≡ true → q < 3 ^ vars
codes-below vars [] q e = absurd (no e) where
  no : false ≡ true → ⊥
  no h = cc
codes-below vars (c ∷ clauses) q e = elim (cases_Bool (eqb q (code vars c))) [
  | inl here ↦ (let same = eqb-true q (code vars c) here in let low = code-below vars c in omega (arith, same, low))
  | inr other ↦ codes-below vars clauses q (later (eqb q (code vars c)) other e)
] where
  later : (b : Bool) → b ≡ false → (b || list_any (eqb q) (map (code vars) clauses)) ≡ true → list_any (eqb q) (map (code vars) clauses) ≡ true
  later b f h = rw f at h

pub few-clauses : (vars : ℕ) (clauses : List (List Literal)) → ((c : List Literal) → Member c clauses → IsClause vars c) → AreDistinct clauses → length clauses ≤ 3 ^ vars
few-clauses vars clauses are distinct =
    let low = length-le_from_distinct_below (map (code vars) clauses) (3 ^ vars) (distinct-codes vars clauses are distinct) (codes-below vars clauses) in
    omega (arith, low, length-map clauses (code vars))
