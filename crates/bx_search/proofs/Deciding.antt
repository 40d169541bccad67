-- Which clause is active, and what is learned: both can be found.
use Rattle.std.proofs.Common.{◌≡◌, ◌≢◌, ◌⊎◌, ℕ, zero, suc, ◌<◌, nat_lt, inl, inr, Bool, true, false, List, [], ◌∷◌, get_or, take, cond, Some, None, slice_get, refl, sym, ◌∙◌, ap, subst, arith}
use Rattle.std.specs.Prelude.{◌↔◌, Contains}
use Rattle.std.proofs.lemmas.Bool.{cases_eq, cases_lt, lt-ltb, le-ltb}
use Rattle.std.proofs.lemmas.Option.{slice_get-get_or}
use Rattle.std.proofs.lemmas.List.Elements.{All-nil, All-cons, All-contains}
use Rattle.bx_logic.proofs.Members.{Member, Contains-from_member, Member-from_contains}
use Rattle.bx_cnf.specs.Literals.{Literal, negated}
use Rattle.bx_cnf.specs.Formulas.{AscendAbove}
use Rattle.bx_cnf.specs.Assignments.{IsFalse, IsClauseFalse, LeavesOne, IsUnit, IsActive}
use Rattle.bx_watch.specs.Watching.{AreApart, NoneActive}
use Rattle.bx_watch.proofs.ClauseReads.{left_or_false, contains-at}
use Rattle.bx_search.proofs.Values.{literal-same}
use Rattle.bx_search.proofs.Sorting.{apart-later, apart-rest}

-- a literal is among others, or not
same-sign : (a b : Bool) → (a ≡ b) ⊎ (a ≢ b)
same-sign true true = inl refl
same-sign true false = inr (λ e. cc)
same-sign false true = inr (λ e. cc)
same-sign false false = inl refl

same-or-not : (l m : Literal) → (l ≡ m) ⊎ (l ≢ m)
same-or-not l m = elim (cases_eq l.var m.var) [
  | inl v ↦ elim (same-sign l.positive m.positive) [
    | inl s ↦ inl (literal-same l m v s)
    | inr n ↦ inr (λ e. n (ap (λ (x : Literal). x.positive) e))
  ]
  | inr n ↦ inr (λ e. n (ap (λ (x : Literal). x.var) e))
]

among-or-not : (ls : List Literal) (l : Literal) → Contains ls l ⊎ (Contains ls l → ⊥)
among-or-not ls l = elim (by_member ls) [
  | inl h ↦ inl (Contains-from_member l ls h)
  | inr n ↦ inr (λ h. n (Member-from_contains l ls h))
] where
  by_member : (ms : List Literal) → Member l ms ⊎ (Member l ms → ⊥)
  by_member [] = inr (λ h. h)
  by_member (m ∷ ms) = elim (same-or-not m l) [
    | inl e ↦ inl (inl e)
    | inr n ↦ elim (by_member ms) [
      | inl h ↦ inl (inr h)
      | inr k ↦ inr (λ h. elim h [ inl e ↦ n e | inr x ↦ k x ])
    ]
  ]

-- all literals of a clause are false, or all but one, or two aren't
record HasTwo (trues clause : List Literal) : Type 0 where
  one : ℕ
  other : ℕ
  l : Literal
  m : Literal
  apart : one ≢ other
  here : slice_get clause one ≡ Some l
  there : slice_get clause other ≡ Some m
  isnt : IsFalse trues l → ⊥
  isnt_either : IsFalse trues m → ⊥

data Standing (trues clause : List Literal) : Type 0 where
  AllFalse : ((k : ℕ) (m : Literal) → slice_get clause k ≡ Some m → IsFalse trues m) → Standing trues clause
  OneLeft : (l : Literal) → LeavesOne trues clause l → Standing trues clause
  TwoLeft : HasTwo trues clause → Standing trues clause

none-some : (m : Literal) → None ≡ Some m → ⊥
none-some m e = cc

some-same : (a b : Literal) → Some a ≡ Some b → a ≡ b
some-same a b e = cc

false-more : (trues clause : List Literal) (x : Literal) → IsFalse trues x → ((k : ℕ) (m : Literal) → slice_get clause k ≡ Some m → IsFalse trues m) → (k : ℕ) (m : Literal) → slice_get (x ∷ clause) k ≡ Some m → IsFalse trues m
false-more trues clause x f all zero m e = subst (IsFalse trues) (some-same x m e) f
false-more trues clause x f all (suc k) m e = all k m e

one-later : (trues clause : List Literal) (x l : Literal) → IsFalse trues x → LeavesOne trues clause l → LeavesOne trues (x ∷ clause) l
one-later trues clause x l f r = record { place = suc r.place; stands = r.stands; this = r.this; others = others } where
  others : (k : ℕ) (m : Literal) → slice_get (x ∷ clause) k ≡ Some m → k ≢ suc r.place → IsFalse trues m
  others zero m e n = subst (IsFalse trues) (some-same x m e) f
  others (suc k) m e n = r.others k m e (λ s. n (ap (λ i. suc i) s))

one-here : (trues clause : List Literal) (x : Literal) → (IsFalse trues x → ⊥) → ((k : ℕ) (m : Literal) → slice_get clause k ≡ Some m → IsFalse trues m) → LeavesOne trues (x ∷ clause) x
one-here trues clause x holds all = record { place = zero; stands = refl; this = holds; others = others } where
  others : (k : ℕ) (m : Literal) → slice_get (x ∷ clause) k ≡ Some m → k ≢ zero → IsFalse trues m
  others zero m e n = absurd (n refl)
  others (suc k) m e n = all k m e

two-here : (trues clause : List Literal) (x l : Literal) → (IsFalse trues x → ⊥) → LeavesOne trues clause l → HasTwo trues (x ∷ clause)
two-here trues clause x l holds r = record { one = zero; other = suc r.place; l = x; m = l; apart = λ e. omega (arith, e); here = refl; there = r.stands; isnt = holds; isnt_either = r.this }

two-later : (trues clause : List Literal) (x : Literal) → HasTwo trues clause → HasTwo trues (x ∷ clause)
two-later trues clause x t = record { one = suc t.one; other = suc t.other; l = t.l; m = t.m; apart = λ e. t.apart (omega (arith, e)); here = t.here; there = t.there; isnt = t.isnt; isnt_either = t.isnt_either }

standing : (trues clause : List Literal) → Standing trues clause
standing trues [] = AllFalse (λ k m e. absurd (none-some m e))
standing trues (x ∷ clause) = elim (among-or-not trues (negated x)) [
  | inl f ↦ fails f (standing trues clause)
  | inr n ↦ holds n (standing trues clause)
] where
  fails : IsFalse trues x → Standing trues clause → Standing trues (x ∷ clause)
  fails f (AllFalse all) = AllFalse (false-more trues clause x f all)
  fails f (OneLeft l r) = OneLeft l (one-later trues clause x l f r)
  fails f (TwoLeft t) = TwoLeft (two-later trues clause x t)

  holds : (IsFalse trues x → ⊥) → Standing trues clause → Standing trues (x ∷ clause)
  holds n (AllFalse all) = OneLeft x (one-here trues clause x n all)
  holds n (OneLeft l r) = TwoLeft (two-here trues clause x l n r)
  holds n (TwoLeft t) = TwoLeft (two-later trues clause x t)

-- a clause is false, or unit, or neither
pub data Decided (trues clause : List Literal) : Type 0 where
  Fails : IsClauseFalse trues clause → Decided trues clause
  Leaves : (l : Literal) → IsUnit trues clause l → Decided trues clause
  Inactive : (IsActive trues clause → ⊥) → Decided trues clause

true-inactive : (trues clause : List Literal) (l : Literal) → LeavesOne trues clause l → Contains trues l → IsActive trues clause → ⊥
true-inactive trues clause l r has (inl fails) = r.this (All-contains (IsFalse trues) clause l fails (contains-at clause r.place l r.stands))
true-inactive trues clause l r has (inr (u, unit)) = elim (left_or_false trues clause u l unit.0 (contains-at clause r.place l r.stands)) [
  | inl same ↦ unit.1.0 (subst (Contains trues) (sym same) has)
  | inr fails ↦ r.this fails
]

two-inactive : (trues clause : List Literal) → HasTwo trues clause → IsActive trues clause → ⊥
two-inactive trues clause t (inl fails) = t.isnt (All-contains (IsFalse trues) clause t.l fails (contains-at clause t.one t.l t.here))
two-inactive trues clause t (inr (u, unit)) = elim (cases_eq t.one unit.0.place) [
  | inl same ↦ t.isnt_either (unit.0.others t.other t.m t.there (λ e. t.apart (same ∙ sym e)))
  | inr differ ↦ t.isnt (unit.0.others t.one t.l t.here differ)
]

decided : (trues clause : List Literal) → Decided trues clause
decided trues clause = by_standing (standing trues clause) where
  by_standing : Standing trues clause → Decided trues clause
  by_standing (AllFalse all) = Fails (λ k d below. all k (get_or clause k d) (slice_get-get_or clause k d below))
  by_standing (OneLeft l r) = elim (among-or-not trues l) [
    | inl has ↦ Inactive (true-inactive trues clause l r has)
    | inr free ↦ Leaves l (r, (free, r.this))
  ]
  by_standing (TwoLeft t) = Inactive (two-inactive trues clause t)

-- the first clause that is active, or none is
pub data Found (trues : List Literal) (clauses : List (List Literal)) : Type 0 where
  FirstFalse : (i : ℕ) (clause : List Literal) → slice_get clauses i ≡ Some clause → IsClauseFalse trues clause → NoneActive trues (take i clauses) → Found trues clauses
  FirstUnit : (i : ℕ) (clause : List Literal) (l : Literal) → slice_get clauses i ≡ Some clause → IsUnit trues clause l → NoneActive trues (take i clauses) → Found trues clauses
  Nothing : NoneActive trues clauses → Found trues clauses

abbrev Idle : List Literal → List Literal → Type 0
Idle trues clause = IsActive trues clause → ⊥

pub found : (trues : List Literal) (clauses : List (List Literal)) → Found trues clauses
found trues [] = Nothing (All-nil (Idle trues))
found trues (c ∷ cs) = first (decided trues c) (found trues cs) where
  later : Idle trues c → Found trues cs → Found trues (c ∷ cs)
  later idle (FirstFalse i clause stands so none) = FirstFalse (suc i) clause stands so (All-cons (Idle trues) c (take i cs) idle none)
  later idle (FirstUnit i clause l stands so none) = FirstUnit (suc i) clause l stands so (All-cons (Idle trues) c (take i cs) idle none)
  later idle (Nothing none) = Nothing (All-cons (Idle trues) c cs idle none)

  first : Decided trues c → Found trues cs → Found trues (c ∷ cs)
  first (Fails f) rest = FirstFalse zero c refl f (All-nil (Idle trues))
  first (Leaves l u) rest = FirstUnit zero c l refl u (All-nil (Idle trues))
  first (Inactive idle) rest = later idle rest

-- literals put in order
abbrev inserted : Literal → List Literal → List Literal
inserted l [] = l ∷ []
inserted l (m ∷ ms) = cond (nat_lt l.var m.var) (l ∷ m ∷ ms) (m ∷ inserted l ms)

abbrev pub in_order : List Literal → List Literal
in_order [] = []
in_order (l ∷ ls) = inserted l (in_order ls)

inserted-cases : (l x : Literal) (ms : List Literal) → Member x (inserted l ms) → (l ≡ x) ⊎ Member x ms
inserted-cases l x [] h = h
inserted-cases l x (m ∷ ms) h = by_test (nat_lt l.var m.var) (inserted-cases l x ms) h where
  by_test : (b : Bool) → (Member x (inserted l ms) → (l ≡ x) ⊎ Member x ms) → Member x (cond b (l ∷ m ∷ ms) (m ∷ inserted l ms)) → (l ≡ x) ⊎ Member x (m ∷ ms)
  by_test true again k = k
  by_test false again (inl e) = inr (inl e)
  by_test false again (inr k) = elim (again k) [ inl e ↦ inl e | inr on ↦ inr (inr on) ]

inserted-has : (l x : Literal) (ms : List Literal) → (l ≡ x) ⊎ Member x ms → Member x (inserted l ms)
inserted-has l x [] h = h
inserted-has l x (m ∷ ms) h = by_test (nat_lt l.var m.var) (inserted-has l x ms) h where
  by_test : (b : Bool) → ((l ≡ x) ⊎ Member x ms → Member x (inserted l ms)) → (l ≡ x) ⊎ Member x (m ∷ ms) → Member x (cond b (l ∷ m ∷ ms) (m ∷ inserted l ms))
  by_test true again k = k
  by_test false again (inl e) = inr (again (inl e))
  by_test false again (inr k) = elim k [ inl e ↦ inl e | inr on ↦ inr (again (inr on)) ]

inserted-ascends : (low : ℕ) (l : Literal) (ms : List Literal) → low < l.var → AscendAbove low ms → ((m : Literal) → Member m ms → l.var ≢ m.var) → AscendAbove low (inserted l ms)
inserted-ascends low l [] above up apart = (above, tt)
inserted-ascends low l (m ∷ ms) above up apart = elim (cases_lt l.var m.var) [
  | inl before ↦ rw (lt-ltb l.var m.var before) (above, (before, up.1))
  | inr behind ↦ (let differ : l.var ≢ m.var = apart m (inl refl) in
      rw (le-ltb l.var m.var behind) (up.0, inserted-ascends m.var l ms (omega (arith, behind, differ)) up.1 (λ x h. apart x (inr h))))
]

pub in_order-members : (ls : List Literal) (x : Literal) → Member x (in_order ls) ↔ Member x ls
in_order-members [] x = (λ h. h, λ h. h)
in_order-members (l ∷ ls) x = (
  λ h. elim (inserted-cases l x (in_order ls) h) [ inl e ↦ inl e | inr on ↦ inr ((in_order-members ls x).0 on) ],
  λ h. inserted-has l x (in_order ls) (elim h [ inl e ↦ inl e | inr on ↦ inr ((in_order-members ls x).1 on) ]),
)

pub in_order-ascends : (ls : List Literal) → ((l : Literal) → Member l ls → 0 < l.var) → AreApart ls → AscendAbove 0 (in_order ls)
in_order-ascends [] above apart = tt
in_order-ascends (l ∷ ls) above apart =
    inserted-ascends 0 l (in_order ls) (above l (inl refl)) (in_order-ascends ls (λ m h. above m (inr h)) (apart-rest l ls apart))
    (λ m h. apart-later l ls m apart ((in_order-members ls m).0 h))
