-- Literals of a trail and of a clause: which are among them, and at which places.
use Rattle.std.proofs.Common.{◌≡◌, ◌≢◌, ℕ, zero, suc, ◌<◌, ◌≤◌, Bool, not, true, false, List, [], ◌∷◌, ◌++◌, length, get_or, take, slice_get, Some, refl, sym, ◌∙◌, ap, inl, inr, ◌⊎◌, arith, length-take}
use Rattle.std.specs.Prelude.{Contains}
use Rattle.std.proofs.lemmas.Bool.{cases_eq, cases_lt}
use Rattle.std.proofs.lemmas.Option.{slice_get-get_or, slice_get_within, get_or_from_slice_get}
use Rattle.std.proofs.lemmas.List.{get_or-take, take-append-le, take_all}
use Rattle.bx_cnf.specs.Literals.{Literal, negated}
use Rattle.bx_cnf.specs.Formulas.{IsClause}
use Rattle.bx_cnf.proofs.Propagation.{clause_pairs}
use Rattle.bx_watch.specs.declared.watches.Pair.{Pair}
use Rattle.bx_watch.specs.Watches.{IsOf}
use Rattle.bx_watch.proofs.Trails.{no_negation, literal-same, either}

pub lit-eq : (l m : Literal) → (l ≡ m) ⊎ (l ≢ m)
lit-eq l m = elim (cases_eq l.var m.var) [
  | inl v ↦ elim (either l.positive m.positive) [
    | inl p ↦ inl (literal-same l m v p)
    | inr n ↦ inr (λ e. no_negation m.positive (sym (ap (λ (x : Literal). x.positive) e) ∙ n))
  ]
  | inr d ↦ inr (λ e. d (ap (λ (x : Literal). x.var) e))
]

not-not : (b : Bool) → not (not b) ≡ b
not-not true = refl
not-not false = refl

pub negated-back : (l m : Literal) → l ≡ negated m → m ≡ negated l
negated-back l m e = literal-same m (negated l) (sym (ap (λ (x : Literal). x.var) e)) (sym (not-not m.positive) ∙ ap (λ (x : Literal). not x.positive) (sym e))

pub negated-same : (l m : Literal) → negated l ≡ negated m → l ≡ m
negated-same l m e = literal-same l m (ap (λ (x : Literal). x.var) e) (sym (not-not l.positive) ∙ (ap (λ (x : Literal). not x.positive) e ∙ not-not m.positive))

pub dec-contains : (trail : List Literal) (l : Literal) → Contains trail l ⊎ (Contains trail l → ⊥)
dec-contains [] l = inr (λ (k, below, is). omega (arith, below))
dec-contains (x ∷ xs) l = elim (lit-eq x l) [
  | inl e ↦ inl (0, omega arith, e)
  | inr d ↦ elim (dec-contains xs l) [
    | inl has ↦ inl (suc has.0, omega (arith, has.1), has.2)
    | inr none ↦ inr (λ (k, below, is). at k below is d none)
  ]
] where
  at : (k : ℕ) → k < length (x ∷ xs) → get_or (x ∷ xs) k l ≡ l → x ≢ l → (Contains xs l → ⊥) → ⊥
  at zero below is d none = d is
  at (suc k) below is d none = none (k, omega (arith, below), is)

pub place-of : (c : List Literal) (m : Literal) → Contains c m → (k : ℕ) × (slice_get c k ≡ Some m)
place-of c m (k, below, is) = (k, slice_get-get_or c k m below ∙ ap (λ (x : Literal). Some x) is)

pub dec-of : (pair : Pair) (l : Literal) → IsOf pair l ⊎ (IsOf pair l → ⊥)
dec-of pair l = elim (lit-eq l pair.first) [
  | inl e ↦ inl (inl e)
  | inr d ↦ elim (lit-eq l pair.second) [
    | inl e ↦ inl (inr e)
    | inr n ↦ inr (neither d n)
  ]
] where
  neither : l ≢ pair.first → l ≢ pair.second → IsOf pair l → ⊥
  neither d n (inl e) = d e
  neither d n (inr e) = n e

-- the front of a trail
pub take-has : (trail : List Literal) (i : ℕ) (m : Literal) → Contains (take i trail) m → Contains trail m
take-has trail i m (k, below, is) =
    let in_front : k < i = omega (arith, below, length-take i trail) in
    (k, omega (arith, below, length-take i trail), sym (get_or-take i trail k m in_front) ∙ is)

pub has-take : (trail : List Literal) (i j : ℕ) (m : Literal) → slice_get trail j ≡ Some m → j < i → Contains (take i trail) m
has-take trail i j m at before =
    let within : j < length trail = slice_get_within trail j m at in
    (j, omega (arith, before, within, length-take i trail), get_or-take i trail j m before ∙ get_or_from_slice_get trail j m m at)

pub take-push : (trail : List Literal) (l : Literal) (i : ℕ) → i ≤ length trail → take i (trail ++ l ∷ []) ≡ take i trail
take-push trail l i within = take-append-le i trail (l ∷ []) within

pub take-whole : (trail : List Literal) (l : Literal) (i : ℕ) → i ≡ length trail → take i (trail ++ l ∷ []) ≡ trail
take-whole trail l i e = take-push trail l i (omega (arith, e)) ∙ take_all i trail (omega (arith, e))

pub within-get : (xs : List Literal) (k : ℕ) (m : Literal) → slice_get xs k ≡ Some m → k < length xs
within-get xs k m at = slice_get_within xs k m at

-- a clause has a literal at one place
pub one-place : (vars : ℕ) (clause : List Literal) (j k : ℕ) (m : Literal) → IsClause vars clause → slice_get clause j ≡ Some m → slice_get clause k ≡ Some m → j ≢ k → ⊥
one-place vars clause j k m is at_j at_k apart =
    let below_j : j < length clause = slice_get_within clause j m at_j in
    let below_k : k < length clause = slice_get_within clause k m at_k in
    let is_j : get_or clause j m ≡ m = get_or_from_slice_get clause j m m at_j in
    let is_k : get_or clause k m ≡ m = get_or_from_slice_get clause k m m at_k in
    elim (order j k apart) [
      | inl before ↦
          let less = clause_pairs vars clause is j k m before below_k in
          omega (arith, less, ap (λ (x : Literal). x.var) is_j, ap (λ (x : Literal). x.var) is_k)
      | inr behind ↦
          let less = clause_pairs vars clause is k j m behind below_j in
          omega (arith, less, ap (λ (x : Literal). x.var) is_j, ap (λ (x : Literal). x.var) is_k)
    ] where
      order : (a b : ℕ) → a ≢ b → (a < b) ⊎ (b < a)
      order a b d = elim (cases_lt a b) [ inl l ↦ inl l | inr ge ↦ inr (omega (arith, ge, d)) ]
