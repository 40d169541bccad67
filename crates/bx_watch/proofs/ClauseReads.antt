-- What is read of a clause, literal by literal.
use Rattle.std.proofs.lemmas.Bool.{cases_eq}
use Rattle.std.proofs.lemmas.Option.{get_or_from_slice_get, slice_get-get_or}
use Rattle.std.proofs.Common.{Some, None, true, false, slice_get, ◌≡◌, ℕ, zero, suc, ◌<◌, ◌≤◌, List, [], ◌∷◌, ◌++◌, length, get_or, take, drop, length-take, ◌+◌, refl, sym, ◌∙◌, ap, subst, inl, inr, ◌⊎◌, arith}
use Rattle.std.specs.Prelude.{All, Contains}
use Rattle.std.proofs.lemmas.List.Elements.{All-contains, All-from_get_or, All-get_or, All-push, Contains-push, Contains-append_left}
use Rattle.std.proofs.lemmas.List.{take_more, take-append-drop, get_or-take}
use Rattle.bx_cnf.specs.Formulas.{AscendAbove, IsClause}
use Rattle.bx_cnf.proofs.Propagation.{clause_pairs}
use Rattle.bx_cnf.specs.Literals.{Literal}
use Rattle.bx_cnf.specs.Assignments.{IsFalse, IsClauseFalse, LeavesOne, IsActive}
use Rattle.bx_watch.specs.declared.reading.Reading.{Reading}
use Rattle.bx_watch.specs.declared.reading.Reading.TheVariants.{False, Unit, Met, Other}
use Rattle.bx_watch.specs.Watching.{IsOver, AreApart}
use Rattle.bx_watch.specs.Readings.{LeavesTwo, IsBlocked, IsRead, is_open}
use Rattle.bx_watch.proofs.Trails.{never_both}

none_some : (m : Literal) → None ≡ Some m → ⊥
none_some m e = cc

true_false : true ≡ false → ⊥
true_false e = cc

some-same : (a b : Literal) → Some a ≡ Some b → a ≡ b
some-same a b e = cc

-- what stands at a place is one of the list
pub contains-at : (c : List Literal) (k : ℕ) (m : Literal) → slice_get c k ≡ Some m → Contains c m
contains-at c k m e = (k, within c k m e, get_or_from_slice_get c k m m e) where
  within : (ls : List Literal) (n : ℕ) (l : Literal) → slice_get ls n ≡ Some l → n < length ls
  within [] n l h = absurd (none_some l h)
  within (x ∷ xs) zero l h = omega arith
  within (x ∷ xs) (suc n) l h = omega (arith, within xs n l h)

-- what stands at a place of a list that one item was put behind
pub get-front : (c : List Literal) (k : ℕ) (m x : Literal) → slice_get c k ≡ Some m → slice_get (c ++ x ∷ []) k ≡ Some m
get-front [] k m x e = absurd (none_some m e)
get-front (d ∷ ds) zero m x e = e
get-front (d ∷ ds) (suc k) m x e = get-front ds k m x e

pub get-last : (c : List Literal) (x : Literal) → slice_get (c ++ x ∷ []) (length c) ≡ Some x
get-last [] x = refl
get-last (d ∷ ds) x = get-last ds x

pub get-push : (c : List Literal) (x : Literal) (k : ℕ) (m : Literal) → slice_get (c ++ x ∷ []) k ≡ Some m → (slice_get c k ≡ Some m) ⊎ ((k ≡ length c) × (x ≡ m))
get-push [] x zero m e = inr (refl, some-same x m e)
get-push [] x (suc k) m e = absurd (none_some m e)
get-push (d ∷ ds) x zero m e = inl e
get-push (d ∷ ds) x (suc k) m e = elim (get-push ds x k m e) [
  | inl front ↦ inl front
  | inr last ↦ inr (omega (arith, last.0), last.1)
]

-- of a clause that leaves one literal each other one is false
pub left_or_false : (trail clause : List Literal) (l m : Literal) → LeavesOne trail clause l → Contains clause m → (l ≡ m) ⊎ IsFalse trail m
left_or_false trail clause l m leaves (k, below, is) =
    let at : slice_get clause k ≡ Some m = slice_get-get_or clause k m below ∙ ap (λ (x : Literal). Some x) is in
    elim (cases_eq k leaves.place) [
      | inl same ↦ inl (some-same l m (sym leaves.stands ∙ (ap (slice_get clause) (sym same) ∙ at)))
      | inr other ↦ inr (leaves.others k m at other)
    ]

pub blocked-inactive : (trail clause : List Literal) → AreApart trail → IsBlocked trail clause → IsActive trail clause → ⊥
blocked-inactive trail clause apart (inl (l, has, holds)) (inl fails) = never_both trail l apart holds (All-contains (IsFalse trail) clause l fails has)
blocked-inactive trail clause apart (inl (l, has, holds)) (inr (u, unit)) = elim (left_or_false trail clause u l unit.0 has) [
  | inl same ↦ unit.1.0 (subst (Contains trail) (sym same) holds)
  | inr fails ↦ never_both trail l apart holds fails
]
blocked-inactive trail clause apart (inr (l, m, has_l, has_m, differ, isnt_l, isnt_m)) (inl fails) = isnt_l (All-contains (IsFalse trail) clause l fails has_l)
blocked-inactive trail clause apart (inr (l, m, has_l, has_m, differ, isnt_l, isnt_m)) (inr (u, unit)) =
    elim (left_or_false trail clause u l unit.0 has_l) [
      | inl same_l ↦ elim (left_or_false trail clause u m unit.0 has_m) [
        | inl same_m ↦ differ (sym same_l ∙ same_m)
        | inr fails ↦ isnt_m fails
      ]
      | inr fails ↦ isnt_l fails
    ]

pub two-more : (trail clause rest : List Literal) → LeavesTwo trail clause → LeavesTwo trail (clause ++ rest)
two-more trail clause rest (l, m, has_l, has_m, differ, isnt_l, isnt_m) =
    (l, m, Contains-append_left clause rest l has_l, Contains-append_left clause rest m has_m, differ, isnt_l, isnt_m)

-- one literal more that is false
leaves-false : (trail clause : List Literal) (u l : Literal) → LeavesOne trail clause u → IsFalse trail l → LeavesOne trail (clause ++ l ∷ []) u
leaves-false trail clause u l leaves fails = record {
  place = leaves.place;
  stands = get-front clause leaves.place u l leaves.stands;
  this = leaves.this;
  others = λ k m at other. elim (get-push clause l k m at) [
    | inl front ↦ leaves.others k m front other
    | inr last ↦ subst (IsFalse trail) last.1 fails
  ];
}

pub read-false : (trail clause : List Literal) (l : Literal) (reading : Reading) → IsRead trail clause reading → IsFalse trail l → IsRead trail (clause ++ l ∷ []) reading
read-false trail clause l False is fails = All-push (IsFalse trail) clause l is fails
read-false trail clause l (Unit u) is fails = (leaves-false trail clause u l is.0 fails, is.1)
read-false trail clause l (Met u) is fails = (leaves-false trail clause u l is.0 fails, is.1)
read-false trail clause l Other is fails = two-more trail clause (l ∷ []) is

-- one literal more that isn't false, behind false ones
pub read-first : (trail clause : List Literal) (l : Literal) → IsClauseFalse trail clause → (IsFalse trail l → ⊥) → LeavesOne trail (clause ++ l ∷ []) l
read-first trail clause l fails isnt = record {
  place = length clause;
  stands = get-last clause l;
  this = isnt;
  others = λ k m at other. elim (get-push clause l k m at) [
    | inl front ↦ All-contains (IsFalse trail) clause m fails (contains-at clause k m front)
    | inr last ↦ absurd (other last.0)
  ];
}

-- one more that isn't false, behind another one
pub read-second : (trail clause : List Literal) (u l : Literal) → LeavesOne trail clause u → (IsFalse trail l → ⊥) → All (λ m. m.var < l.var) clause → LeavesTwo trail (clause ++ l ∷ [])
read-second trail clause u l leaves isnt below =
    let has : Contains clause u = contains-at clause leaves.place u leaves.stands in
    let smaller : u.var < l.var = All-contains (λ m. m.var < l.var) clause u below has in
    (u, l, Contains-append_left clause (l ∷ []) u has, Contains-push clause l, (λ e. omega (arith, smaller, ap (λ (x : Literal). x.var) e)), leaves.this, isnt)

-- one literal more of a clause
pub read-more : (vars : ℕ) (trail clause : List Literal) (k : ℕ) (l : Literal) (reading more : Reading)
    → IsClause vars clause → k < length clause → l ≡ get_or clause k l → IsRead trail (take k clause) reading
    → (IsRead trail (take k clause) reading → All (λ m. m.var < l.var) (take k clause) → IsRead trail (take k clause ++ l ∷ []) more)
    → IsRead trail (take (k + 1) clause) more
read-more vars trail clause k l reading more is below at read step =
    let smaller : All (λ m. m.var < l.var) (take k clause) = All-from_get_or (λ m. m.var < l.var) (take k clause) l (λ i within.
    let before : i < k = omega (arith, within, length-take k clause) in
    let same : get_or (take k clause) i l ≡ get_or clause i l = get_or-take k clause i l before in
    subst (λ (m : Literal). m.var < l.var) (sym same) (subst (λ (m : Literal). (get_or clause i l).var < m.var) (sym at) (clause_pairs vars clause is i k l before below))) in
    subst (λ (c : List Literal). IsRead trail c more) (ap (λ (m : Literal). take k clause ++ m ∷ []) at ∙ sym (take_more clause k l below)) (step read smaller)

-- what a front of a clause leaves the clause leaves
pub two-whole : (trail clause : List Literal) (k : ℕ) → LeavesTwo trail (take k clause) → LeavesTwo trail clause
two-whole trail clause k is = subst (LeavesTwo trail) (take-append-drop k clause) (two-more trail (take k clause) (drop k clause) is)

-- a clause isn't active in which one literal is true, or of which two aren't false
pub read-blocked : (trail clause : List Literal) (reading : Reading) → IsRead trail clause reading → is_open reading ≡ false → IsBlocked trail clause
read-blocked trail clause False is closed = absurd (true_false closed)
read-blocked trail clause (Unit l) is closed = absurd (true_false closed)
read-blocked trail clause (Met l) is closed = inl (l, contains-at clause is.0.place l is.0.stands, is.1)
read-blocked trail clause Other is closed = inr is

-- each literal of a clause is over a variable
pub literal-over : (vars : ℕ) (clause : List Literal) (k : ℕ) (l : Literal) → IsClause vars clause → k < length clause → l ≡ get_or clause k l → IsOver vars l
literal-over vars clause k l is below at = subst (IsOver vars) (sym at)
    (above 0 clause k l is.ascending below, All-get_or (λ m. m.var ≤ vars) clause k l below is.within) where
      above : (var : ℕ) (ls : List Literal) (n : ℕ) (d : Literal) → AscendAbove var ls → n < length ls → var < (get_or ls n d).var
      above var [] n d h within = absurd (omega (arith, within))
      above var (m ∷ ls) zero d h within = h.0
      above var (m ∷ ls) (suc n) d h within = omega (arith, h.0, above m.var ls n d h.1 (omega (arith, within)))
