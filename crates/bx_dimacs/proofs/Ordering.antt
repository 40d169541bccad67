-- Literals in the order of their variables, each once: they ascend strictly unless two of them are opposite.
use Rattle.std.proofs.Common.{◌≡◌, ℕ, zero, suc, ◌<◌, ◌≤◌, Bool, true, false, cond, List, [], ◌∷◌, length, get_or, refl, sym, ◌∙◌, ap, subst, inl, inr, arith}
use Rattle.std.specs.Ordering.{MatchOrdering, int_cmp, int_eq, is_eq}
use Rattle.std.specs.declared.cmp.Ordering.{Ordering}
use Rattle.std.specs.declared.cmp.Ordering.TheVariants.{Less, Equal, Greater}
use Rattle.std.specs.Int.Signed.{lt_z}
use Rattle.std.proofs.lemmas.Cmp.{int_ranked}
use Rattle.std.specs.Prelude.{ℤ, pos, negsuc, neg_ℤ, ◌<ℤ◌, ◌==◌, ◌&&◌, ◌||◌, not, All, Any, Contains, ◌↔◌, ⊤, if◌then◌else◌}
use Rattle.std.specs.List.{list_any, dedup}
use Rattle.std.specs.List.Sorted.{IsNonDecreasingBy, IsPermutation}
use Rattle.std.proofs.lemmas.Bool.{cases_lt, eq-eqb, eqb-true, le-ltb}
use Rattle.std.proofs.lemmas.List.Folds.{Any-from_list_any}
use Rattle.std.proofs.lemmas.List.Kept.{Contains-from_dedup}
use Rattle.std.proofs.lemmas.List.Elements.{All-contains}
use Rattle.bx_cnf.specs.Literals.{Literal, number_of}
use Rattle.bx_cnf.specs.Formulas.{AscendAbove}
use Rattle.bx_dimacs.specs.FormulaTexts.{are_opposite, is_tautology}

-- literals of one variable are opposite, or the same
signs : (v w : ℕ) (p q : Bool) → v ≡ w → ((p ≡ q) → ⊥) → ((v == w) && (if p then not q else q)) ≡ true
signs v w true true same apart = absurd (apart refl)
signs v w true false same apart = ap (λ t. t && true) (eq-eqb v w same)
signs v w false true same apart = ap (λ t. t && true) (eq-eqb v w same)
signs v w false false same apart = absurd (apart refl)

is_same : (l m : Literal) → l.var ≡ m.var → l.positive ≡ m.positive → l ≡ m
is_same l m e f = ap (λ v. let x : Literal = record { var = v; positive = l.positive } in x) e ∙ ap (λ p. let x : Literal = record { var = m.var; positive = p } in x) f

opposite : (l m : Literal) → l.var ≡ m.var → (l ≡ m → ⊥) → are_opposite l m ≡ true
opposite l m same apart = signs l.var m.var l.positive m.positive same (λ e. apart (is_same l m same e))

-- opposite literals have one variable, and differ
front_true : (a b : Bool) → (a && b) ≡ true → a ≡ true
front_true true b h = refl
front_true false b h = h

not_itself : (n : ℕ) (p : Bool) → ((n == n) && (if p then not p else p)) ≡ true → ⊥
not_itself n true h = never (n == n) h where
  never : (t : Bool) → (t && false) ≡ true → ⊥
  never true h = cc
  never false h = cc
not_itself n false h = never (n == n) h where
  never : (t : Bool) → (t && false) ≡ true → ⊥
  never true h = cc
  never false h = cc

pub one_variable : (l m : Literal) → are_opposite l m ≡ true → l.var ≡ m.var
one_variable l m h = eqb-true l.var m.var (front_true _ _ h)

they_differ : (l m : Literal) → are_opposite l m ≡ true → l ≡ m → ⊥
they_differ l m h e = not_itself m.var m.positive (subst (λ x. are_opposite x m ≡ true) e h)

-- a test finds what stands in a list
pub any_has : {X : Type 0} (p : X → Bool) (xs : List X) (k : ℕ) (x : X) → k < length xs → get_or xs k x ≡ x → p x ≡ true → list_any p xs ≡ true
any_has p [] k x within at good = absurd (omega (arith, within))
any_has p (y ∷ ys) zero x within at good = ap (λ t. t || list_any p ys) (ap p at ∙ good)
any_has p (y ∷ ys) (suc k) x within at good = behind (p y) (any_has p ys k x (omega (arith, within)) at good) where
  behind : (t : Bool) → list_any p ys ≡ true → (t || list_any p ys) ≡ true
  behind true h = refl
  behind false h = h

-- two opposite literals of a tautology, and that there are none in another clause
pub record HasOpposites (clause : List Literal) : Type 0 where
  pub one : Literal
  pub other : Literal
  pub has_one : Contains clause one
  pub has_other : Contains clause other
  pub are : are_opposite one other ≡ true

pub opposites : (clause : List Literal) → is_tautology clause ≡ true → HasOpposites clause
opposites clause is =
    let (i, l, l_in, l_at, l_is) = Any-from_list_any (λ l. list_any (are_opposite l) clause) clause is in
    let (j, m, m_in, m_at, m_is) = Any-from_list_any (are_opposite l) clause l_is in
    record { one = l; other = m; has_one = (i, l_in, l_at); has_other = (j, m_in, m_at); are = m_is }

pub is_tautology_by : (clause : List Literal) → HasOpposites clause → is_tautology clause ≡ true
is_tautology_by clause h =
    let l = h.has_one in
    let m = h.has_other in
    any_has (λ x. list_any (are_opposite x) clause) clause l.0 h.one l.1 l.2 (any_has (are_opposite h.one) clause m.0 h.other m.1 m.2 h.are)

-- from a literal on no later one has a variable below
abbrev Rises : Literal → List Literal → Type 0
Rises k [] = ⊤
Rises k (x ∷ xs) = (k.var ≤ x.var) × Rises x xs

rises : (k : Literal) (xs : List Literal) → IsNonDecreasingBy (λ (l : Literal). l.var) (k ∷ xs) → Rises k xs
rises k [] h = tt
rises k (x ∷ xs) h = (h 0 1 k (omega arith) (omega arith), rises x xs (λ i j d le lt. h (suc i) (suc j) d (omega (arith, le)) (omega (arith, lt))))

skip : (k x : Literal) (xs : List Literal) (i : ℕ) (l : Literal) → i < length (k ∷ xs) → get_or (k ∷ xs) i l ≡ l → Contains (k ∷ x ∷ xs) l
skip k x xs zero l within at = (zero, omega arith, at)
skip k x xs (suc i) l within at = (suc (suc i), omega (arith, within), at)

-- equality as a test: that of the signed numbers, of which each variable from 1 on has two
abbrev pub IsSameTest : (Literal → Literal → Bool) → Type 0
IsSameTest same = (l m : Literal) → same l m ≡ int_eq (number_of l) (number_of m)

equal_numbers : (x y : ℤ) → int_eq x y ≡ true → x ≡ y
equal_numbers x y h = go (int_cmp x y) (int_ranked x y (int_cmp x y) refl) h where
  go : (r : Ordering) → MatchOrdering r (x <ℤ y) (x ≡ y) (y <ℤ x) → is_eq r ≡ true → x ≡ y
  go Less m e = cc
  go Equal m e = m
  go Greater m e = cc

less_than_itself : (x : ℤ) → lt_z x x ≡ false
less_than_itself (pos n) = le-ltb n n (omega arith)
less_than_itself (negsuc n) = le-ltb n n (omega arith)

equal_to_itself : (x : ℤ) → int_eq x x ≡ true
equal_to_itself x = ap (λ t. is_eq (cond t Less (cond t Greater Equal))) (less_than_itself x)

numbers : (v w : ℕ) (p q : Bool) → 0 < v → 0 < w → (if p then pos v else neg_ℤ (pos v)) ≡ (if q then pos w else neg_ℤ (pos w)) → (v ≡ w) × (p ≡ q)
numbers zero w p q v_up w_up e = absurd (omega (arith, v_up))
numbers (suc v) zero p q v_up w_up e = absurd (omega (arith, w_up))
numbers (suc v) (suc w) true true v_up w_up e = ((cc), refl)
numbers (suc v) (suc w) true false v_up w_up e = let never : pos (suc v) ≡ negsuc w = e in absurd (cc)
numbers (suc v) (suc w) false true v_up w_up e = let never : negsuc v ≡ pos (suc w) = e in absurd (cc)
numbers (suc v) (suc w) false false v_up w_up e = let same : negsuc v ≡ negsuc w = e in ((cc), refl)

is_yes : (same : Literal → Literal → Bool) → IsSameTest same → (l m : Literal) → 0 < l.var → 0 < m.var → same l m ≡ true → l ≡ m
is_yes same is l m l_up m_up h =
    let both = numbers l.var m.var l.positive m.positive l_up m_up (equal_numbers (number_of l) (number_of m) (sym (is l m) ∙ h)) in
    is_same l m both.0 both.1

is_no : (same : Literal → Literal → Bool) → IsSameTest same → (l m : Literal) → same l m ≡ false → l ≡ m → ⊥
is_no same is l m h e =
    let clash : false ≡ true = sym h ∙ is l m ∙ ap (λ (x : Literal). int_eq (number_of x) (number_of m)) e ∙ equal_to_itself (number_of m) in
    (cc)

-- each literal's variable is one
abbrev ArePositive : List Literal → Type 0
ArePositive ls = All (λ l. 0 < l.var) ls

without_second : (k x : Literal) (xs : List Literal) → ArePositive (k ∷ x ∷ xs) → ArePositive (k ∷ xs)
without_second k x xs all zero d within = all zero d (omega arith)
without_second k x xs all (suc i) d within = all (suc (suc i)) d (omega (arith, within))

without_first : (k : Literal) (xs : List Literal) → ArePositive (k ∷ xs) → ArePositive xs
without_first k xs all i d within = all (suc i) d (omega (arith, within))

ascend_from : (same : Literal → Literal → Bool) → IsSameTest same → (low : ℕ) (k : Literal) (xs : List Literal) → low < k.var → Rises k xs → (HasOpposites (k ∷ xs) → ⊥) → AscendAbove low (dedup same (k ∷ xs))
ascend_from same is low k [] above rise none = (above, tt)
ascend_from same is low k (x ∷ xs) above rise none = at (same x k) refl
    (λ e. ascend_from same is low k xs above (subst (λ (y : Literal). Rises y xs) e rise.1) (λ h. none (record {
      one = h.one;
      other = h.other;
      are = h.are;
      has_one = skip k x xs h.has_one.0 h.one h.has_one.1 h.has_one.2;
      has_other = skip k x xs h.has_other.0 h.other h.has_other.1 h.has_other.2;
    })))
    (λ up. ascend_from same is k.var x xs up rise.1 (λ h. none (record {
      one = h.one;
      other = h.other;
      are = h.are;
      has_one = (suc h.has_one.0, omega (arith, h.has_one.1), h.has_one.2);
      has_other = (suc h.has_other.0, omega (arith, h.has_other.1), h.has_other.2);
    }))) where
      up_or_opposite : (x ≡ k → ⊥) → k.var < x.var
      up_or_opposite apart = elim (cases_lt k.var x.var) [
        | inl lt ↦ lt
        | inr ge ↦
            let equal : k.var ≡ x.var = omega (arith, ge, rise.0) in
            absurd (none (record { one = k; other = x; are = opposite k x equal (λ e. apart (sym e)); has_one = (0, omega arith, refl); has_other = (1, omega arith, refl) }))
      ]

      at : (t : Bool) → same x k ≡ t → (x ≡ k → AscendAbove low (dedup same (k ∷ xs))) → (k.var < x.var → AscendAbove k.var (dedup same (x ∷ xs))) → AscendAbove low (cond t (dedup same (k ∷ xs)) (k ∷ dedup same (x ∷ xs)))
      at true h one two = one (is_yes same is x k (omega (arith, above, rise.0)) (omega (arith, above)) h)
      at false h one two = (above, two (up_or_opposite (is_no same is x k h)))

pub ascend_all : (same : Literal → Literal → Bool) → IsSameTest same → (sorted : List Literal) → IsNonDecreasingBy (λ (l : Literal). l.var) sorted → All (λ l. 0 < l.var) sorted → (HasOpposites sorted → ⊥) → AscendAbove 0 (dedup same sorted)
ascend_all same is [] rise positive none = tt
ascend_all same is (k ∷ xs) rise positive none = ascend_from same is 0 k xs (positive 0 k (omega arith)) (rises k xs rise) none

-- of literals that ascend there is one for each variable
above_low : (low : ℕ) (ls : List Literal) (i : ℕ) (l : Literal) → AscendAbove low ls → i < length ls → get_or ls i l ≡ l → low < l.var
above_low low [] i l up within at = absurd (omega (arith, within))
above_low low (x ∷ xs) zero l up within at = subst (λ (y : Literal). low < y.var) at up.0
above_low low (x ∷ xs) (suc i) l up within at = let more = above_low x.var xs i l up.1 (omega (arith, within)) at in omega (arith, more, up.0)

one_each : (low : ℕ) (ls : List Literal) (i j : ℕ) (l m : Literal) → AscendAbove low ls → i < length ls → get_or ls i l ≡ l → j < length ls → get_or ls j m ≡ m → l.var ≡ m.var → l ≡ m
one_each low [] i j l m up i_in i_at j_in j_at same = absurd (omega (arith, i_in))
one_each low (x ∷ xs) zero zero l m up i_in i_at j_in j_at same = sym i_at ∙ j_at
one_each low (x ∷ xs) zero (suc j) l m up i_in i_at j_in j_at same = let more = above_low x.var xs j m up.1 (omega (arith, j_in)) j_at in let e = ap (λ (y : Literal). y.var) i_at in absurd (omega (arith, more, e, same))
one_each low (x ∷ xs) (suc i) zero l m up i_in i_at j_in j_at same = let more = above_low x.var xs i l up.1 (omega (arith, i_in)) i_at in let e = ap (λ (y : Literal). y.var) j_at in absurd (omega (arith, more, e, same))
one_each low (x ∷ xs) (suc i) (suc j) l m up i_in i_at j_in j_at same = one_each x.var xs i j l m up.1 (omega (arith, i_in)) i_at (omega (arith, j_in)) j_at same

pub no_opposites : (ls : List Literal) → AscendAbove 0 ls → HasOpposites ls → ⊥
no_opposites ls up h =
    let l = h.has_one in
    let m = h.has_other in
    they_differ h.one h.other h.are (one_each 0 ls l.0 m.0 h.one h.other up l.1 l.2 m.1 m.2 (one_variable h.one h.other h.are))

-- the same literals have the same opposites
pub opposites_move : (xs ys : List Literal) → ((l : Literal) → Contains xs l → Contains ys l) → HasOpposites xs → HasOpposites ys
opposites_move xs ys move h = record { one = h.one; other = h.other; are = h.are; has_one = move h.one h.has_one; has_other = move h.other h.has_other }

-- nothing is lost where only what is the same goes
from_front : (same : Literal → Literal → Bool) → IsSameTest same → (k : Literal) (xs : List Literal) (i : ℕ) (l : Literal) → ArePositive (k ∷ xs) → i < length (k ∷ xs) → get_or (k ∷ xs) i l ≡ l → Contains (dedup same (k ∷ xs)) l
from_front same is k [] i l up within at = (i, within, at)
from_front same is k (x ∷ xs) zero l up within at = go (same x k) (from_front same is k xs zero l (without_second k x xs up) (omega arith) at) where
  go : (t : Bool) → Contains (dedup same (k ∷ xs)) l → Contains (cond t (dedup same (k ∷ xs)) (k ∷ dedup same (x ∷ xs))) l
  go true rest = rest
  go false rest = (zero, omega arith, at)
from_front same is k (x ∷ xs) (suc zero) l up within at = go (same x k) refl
    (λ e. from_front same is k xs zero l (without_second k x xs up) (omega arith) (sym e ∙ at)) (from_front same is x xs zero l (without_first k (x ∷ xs) up) (omega arith) at) where
      go : (t : Bool) → same x k ≡ t → (x ≡ k → Contains (dedup same (k ∷ xs)) l) → Contains (dedup same (x ∷ xs)) l → Contains (cond t (dedup same (k ∷ xs)) (k ∷ dedup same (x ∷ xs))) l
      go true h one two = one (is_yes same is x k (up 1 k (omega arith)) (up 0 k (omega arith)) h)
      go false h one two = (suc two.0, omega (arith, two.1), two.2)
from_front same is k (x ∷ xs) (suc (suc i)) l up within at = go (same x k)
    (from_front same is k xs (suc i) l (without_second k x xs up) (omega (arith, within)) at) (from_front same is x xs (suc i) l (without_first k (x ∷ xs) up) (omega (arith, within)) at) where
      go : (t : Bool) → Contains (dedup same (k ∷ xs)) l → Contains (dedup same (x ∷ xs)) l → Contains (cond t (dedup same (k ∷ xs)) (k ∷ dedup same (x ∷ xs))) l
      go true one two = one
      go false one two = (suc two.0, omega (arith, two.1), two.2)

pub Contains-all_dedup : (same : Literal → Literal → Bool) → IsSameTest same → (xs : List Literal) (l : Literal) → ArePositive xs → Contains xs l → Contains (dedup same xs) l
Contains-all_dedup same is [] l up h = h
Contains-all_dedup same is (k ∷ xs) l up h = from_front same is k xs h.0 l up h.1 h.2
