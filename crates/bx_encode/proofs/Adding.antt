-- Clauses that are added one after the other.
use Rattle.std.proofs.Common.{◌≡◌, ℕ, zero, suc, ◌+◌, ◌<◌, Bool, true, false, cond, ◌-◌, ◌≤◌, List, [], ◌∷◌, ◌++◌, map, filter, flat_map, length, get_or, take, drop, refl, sym, ap, ◌∙◌, subst, arith, append_assoc}
use Rattle.std.proofs.Math.Seq.{drop-cons, take-append_seam}
use Rattle.std.proofs.Math.ListN.{drop_of_length-le}
use Rattle.std.proofs.lemmas.List.{append-nil, map_more, take_all, length-drop, get_or_default, map-append}
use Rattle.std.proofs.lemmas.List.Elements.{filter-append}
use Rattle.std.specs.Prelude.{Contains}
use Rattle.bx_cnf.specs.Literals.{Literal}
use Rattle.bx_encode.proofs.Rising.{clause-drop}
use Rattle.std.proofs.lemmas.List.FromFn.{map-range_with_len_more}
use Rattle.std.proofs.lemmas.List.Concat.{flat_map-append}
use Rattle.std.specs.List.{range_with_len}
use Rattle.bx_cnf.specs.Formulas.{Formula, IsClause}
use Rattle.bx_forms.specs.declared.side.Side.{Side}
use Rattle.bx_forms.specs.declared.side.Side.TheVariants.{Left, Right}
use Rattle.bx_encode.specs.Families.{Clause, each, pairs}
use Rattle.bx_encode.specs.Sizes.{Adds}

pub adds-none : (a b : Formula) → a ≡ b → Adds a b []
adds-none a b e = record { vars = ap (λ (f : Formula). f.vars) (sym e); behind = ap (λ (f : Formula). f.clauses) (sym e) ∙ sym (append-nil a.clauses) }

pub adds-more : (a b c : Formula) (xs ys : List Clause) → Adds a b xs → Adds b c ys → Adds a c (xs ++ ys)
adds-more a b c xs ys one other = record {
  vars = other.vars ∙ one.vars;
  behind = other.behind ∙ ap (λ cs. cs ++ ys) one.behind ∙ append_assoc a.clauses xs ys;
}

pub adds-by : (a b : Formula) (xs ys : List Clause) → xs ≡ ys → Adds a b xs → Adds a b ys
adds-by a b xs ys e adds = subst (Adds a b) e adds

pub range-more : (a n : ℕ) → range_with_len a (n + 1) ≡ range_with_len a n ++ (a + n) ∷ []
range-more a zero = let e : a ≡ a + 0 = omega arith in ap (λ m. m ∷ []) e
range-more a (suc n) =
    let more : suc n + 1 ≡ suc (n + 1) = omega arith in
    let last : a + 1 + n ≡ a + suc n = omega arith in
    ap (range_with_len a) more ∙ ap (λ ms. a ∷ ms) (range-more (a + 1) n ∙ ap (λ m. range_with_len (a + 1) n ++ m ∷ []) last)

range-next : (n : ℕ) → range_with_len 0 (n + 1) ≡ range_with_len 0 n ++ n ∷ []
range-next n = let e : 0 + n ≡ n = omega arith in range-more 0 n ∙ ap (λ m. range_with_len 0 n ++ m ∷ []) e

-- one step more of a list that is made number by number
pub adds-each : (f : ℕ → List Clause) (a b c : Formula) (i : ℕ) → Adds a b (flat_map f (range_with_len 0 i)) → Adds b c (f i) → Adds a c (flat_map f (range_with_len 0 (i + 1)))
adds-each f a b c i before step =
    let own : flat_map f (i ∷ []) ≡ f i = append-nil (f i) in
    let e : flat_map f (range_with_len 0 i) ++ f i ≡ flat_map f (range_with_len 0 (i + 1)) =
    ap (λ cs. flat_map f (range_with_len 0 i) ++ cs) (sym own) ∙ sym (flat_map-append f (range_with_len 0 i) (i ∷ [])) ∙ ap (flat_map f) (sym (range-next i)) in
    adds-by a c _ _ e (adds-more a b c _ _ before step)

pub adds-map : (f : ℕ → Clause) (a b c : Formula) (i : ℕ) → Adds a b (map f (range_with_len 0 i)) → Adds b c (f i ∷ []) → Adds a c (map f (range_with_len 0 (i + 1)))
adds-map f a b c i before step = adds-by a c _ _ (sym (map-range_with_len_more f 0 i i (omega arith))) (adds-more a b c _ _ before step)

-- and of a list that is made item by item
pub adds-item : {X : Type 0} (f : X → Clause) (xs : List X) (x : X) (a b c : Formula) (k : ℕ) → k < length xs → x ≡ get_or xs k x → Adds a b (map f (take k xs)) → Adds b c (f x ∷ []) → Adds a c (map f (take (k + 1) xs))
adds-item f xs x a b c k inside is before step =
    let e : map f (take k xs) ++ f x ∷ [] ≡ map f (take (k + 1) xs) = ap (λ y. map f (take k xs) ++ f y ∷ []) is ∙ sym (map_more f xs k x inside) in
    adds-by a c _ _ e (adds-more a b c _ _ before step)

-- where one step leaves those that are left: what is there and what is left make up the same
pub record Leaves (before now : Formula) (all left : List Clause) : Type 0 where
  pub vars : now.vars ≡ before.vars
  pub same : now.clauses ++ left ≡ before.clauses ++ all

pub leaves-all : (a b : Formula) (cs : List Clause) → a ≡ b → Leaves a b cs cs
leaves-all a b cs e = record { vars = ap (λ (f : Formula). f.vars) (sym e); same = ap (λ (f : Formula). f.clauses ++ cs) (sym e) }

pub leaves-less : (a b c : Formula) (all step left : List Clause) → Leaves a b all (step ++ left) → Adds b c step → Leaves a c all left
leaves-less a b c all step left leaves adds = record {
  vars = adds.vars ∙ leaves.vars;
  same = ap (λ cs. cs ++ left) adds.behind ∙ append_assoc b.clauses step left ∙ leaves.same;
}

pub leaves-none : (a b : Formula) (all : List Clause) → Leaves a b all [] → Adds a b all
leaves-none a b all leaves = record { vars = leaves.vars; behind = sym (append-nil b.clauses) ∙ leaves.same }

-- of pairs, those of one item and the later ones
pub pairs-drop : {X : Type 0} (xs : List X) (k : ℕ) (x : X) → k < length xs → x ≡ get_or xs k x → pairs (drop k xs) ≡ map (λ y. x ∷ y ∷ []) (drop (k + 1) xs) ++ pairs (drop (k + 1) xs)
pairs-drop xs k x inside is =
    let next : suc k ≡ k + 1 = omega arith in
    let first : drop k xs ≡ x ∷ drop (k + 1) xs = drop-cons xs k x inside ∙ ap (λ y. y ∷ drop (suc k) xs) (sym is) ∙ ap (λ n. x ∷ drop n xs) next in
    ap pairs first

-- what stands behind a place
tail-is : {X : Type 0} (xs : List X) (n : ℕ) → take (length xs - n) (drop n xs) ≡ drop n xs
tail-is xs n = take_all (length xs - n) (drop n xs) (omega (arith, length-drop n xs))

pub pairs-next : (xs : List Literal) (k : ℕ) (x : Literal) (a b c : Formula) → k < length xs → x ≡ get_or xs k x → Leaves a b (pairs xs) (pairs (drop k xs)) →
    Adds b c (map (λ y. x ∷ y ∷ []) (take (length xs - (k + 1)) (drop (k + 1) xs))) → Leaves a c (pairs xs) (pairs (drop (k + 1) xs))
pairs-next xs k x a b c inside is leaves adds =
    leaves-less a b c (pairs xs) (map (λ y. x ∷ y ∷ []) (drop (k + 1) xs)) (pairs (drop (k + 1) xs))
    (subst (Leaves a b (pairs xs)) (pairs-drop xs k x inside is) leaves)
    (adds-by b c _ _ (ap (map (λ y. x ∷ y ∷ [])) (tail-is xs (k + 1))) adds)

pub pairs-end : (xs : List Literal) (k : ℕ) (a b : Formula) → length xs ≤ k → Leaves a b (pairs xs) (pairs (drop k xs)) → Adds a b (pairs xs)
pairs-end xs k a b all leaves = leaves-none a b (pairs xs) (subst (Leaves a b (pairs xs)) (ap pairs (drop_of_length-le xs {i = k} all)) leaves)

-- a literal of a clause and those behind it
pub rest-clause : (vars now : ℕ) (xs : List Literal) (k : ℕ) (x : Literal) → now ≡ vars → IsClause vars xs → k < length xs → x ≡ get_or xs k x → IsClause now (x ∷ take (length xs - (k + 1)) (drop (k + 1) xs))
rest-clause vars now xs k x same clause inside is =
    let next : suc k ≡ k + 1 = omega arith in
    let first : drop k xs ≡ x ∷ drop (k + 1) xs = drop-cons xs k x inside ∙ ap (λ y. y ∷ drop (suc k) xs) (sym is) ∙ ap (λ n. x ∷ drop n xs) next in
    subst (λ n. IsClause n (x ∷ take (length xs - (k + 1)) (drop (k + 1) xs))) (sym same)
    (subst (λ ys. IsClause vars (x ∷ ys)) (sym (tail-is xs (k + 1))) (subst (IsClause vars) first (clause-drop vars xs k clause)))

-- what stands at a place is there
pub item-in : (xs : List ℕ) (k d : ℕ) → k < length xs → Contains xs (get_or xs k d)
item-in xs k d inside = (k, inside, get_or_default xs k (get_or xs k d) d inside)

-- one clause more, which stands for the next of a list
pub adds-map-as : (f : ℕ → Clause) (a b c : Formula) (i : ℕ) (x : Clause) → x ≡ f i → Adds a b (map f (range_with_len 0 i)) → Adds b c (x ∷ []) → Adds a c (map f (range_with_len 0 (i + 1)))
adds-map-as f a b c i x is before step = adds-map f a b c i before (subst (λ y. Adds b c (y ∷ [])) is step)

-- some more, which stand for the next of a list
pub adds-each-as : (f : ℕ → List Clause) (a b c : Formula) (i : ℕ) (xs : List Clause) → xs ≡ f i → Adds a b (flat_map f (range_with_len 0 i)) → Adds b c xs → Adds a c (flat_map f (range_with_len 0 (i + 1)))
adds-each-as f a b c i xs is before step = adds-each f a b c i before (subst (Adds b c) is step)

-- a list that is made number by number is whole when all numbers are through
adds-all : (F : ℕ → List Clause) (a b : Formula) (k n m : ℕ) → k ≤ n → n ≤ k → n ≡ m → Adds a b (F k) → Adds a b (F m)
adds-all F a b k n m low high same adds = let e : k ≡ m = omega arith in subst (λ j. Adds a b (F j)) e adds

pub each-done : (f : ℕ → List Clause) (a b : Formula) (k n m : ℕ) → k ≤ n → n ≤ k → n ≡ m → Adds a b (flat_map f (range_with_len 0 k)) → Adds a b (flat_map f (range_with_len 0 m))
each-done f = adds-all (λ k. flat_map f (range_with_len 0 k))

pub map-done : (f : ℕ → Clause) (a b : Formula) (k n m : ℕ) → k ≤ n → n ≤ k → n ≡ m → Adds a b (map f (range_with_len 0 k)) → Adds a b (map f (range_with_len 0 m))
map-done f = adds-all (λ k. map f (range_with_len 0 k))

-- a clause as it was written
pub clause-as : (vars now : ℕ) (xs ys : Clause) → now ≡ vars → xs ≡ ys → IsClause vars ys → IsClause now xs
clause-as vars now xs ys same is clause = subst (λ n. IsClause n xs) (sym same) (subst (IsClause vars) (sym is) clause)

-- what is put into an empty list
pub cleared : (put old more : List Literal) → put ≡ old ++ more → old ≡ [] → put ≡ more
cleared put old more added none = added ∙ ap (λ ls. ls ++ more) none

pub one-as : (a x : Literal) → a ≡ x → a ∷ [] ≡ x ∷ []
one-as a x e = ap (λ l. l ∷ []) e

pub two-as : (a b x y : Literal) → a ≡ x → b ≡ y → a ∷ b ∷ [] ≡ x ∷ y ∷ []
two-as a b x y e f = ap (λ l. l ∷ b ∷ []) e ∙ ap (λ l. x ∷ l ∷ []) f

-- one number more passes, or doesn't
filter-next : (p : ℕ → Bool) (i : ℕ) → filter p (range_with_len 0 (i + 1)) ≡ filter p (range_with_len 0 i) ++ filter p (i ∷ [])
filter-next p i = ap (filter p) (range-next i) ∙ filter-append p (range_with_len 0 i) (i ∷ [])

pub adds-filtered : (f : ℕ → Clause) (p : ℕ → Bool) (a b c : Formula) (i : ℕ) → Adds a b (map f (filter p (range_with_len 0 i))) → Adds b c (cond (p i) (f i ∷ []) []) → Adds a c (map f (filter p (range_with_len 0 (i + 1))))
adds-filtered f p a b c i before step = adds-by a c _ _ e (adds-more a b c _ _ before step)
  where
    one : (q : Bool) → cond q (f i ∷ []) [] ≡ map f (cond q (i ∷ []) [])
    one true = refl
    one false = refl

    e : map f (filter p (range_with_len 0 i)) ++ cond (p i) (f i ∷ []) [] ≡ map f (filter p (range_with_len 0 (i + 1)))
    e = ap (λ cs. map f (filter p (range_with_len 0 i)) ++ cs) (one (p i)) ∙ sym (map-append f (filter p (range_with_len 0 i)) (filter p (i ∷ []))) ∙ ap (map f) (sym (filter-next p i))

-- those of the two sides that pass
of-sides : (p : Side → Bool) (f : Side → List Clause) → cond (p Left) (f Left) [] ++ cond (p Right) (f Right) [] ≡ each (filter p (Left ∷ Right ∷ [])) f
of-sides p f = by (p Left) (p Right)
  where
    by : (a b : Bool) → cond a (f Left) [] ++ cond b (f Right) [] ≡ each (cond a (Left ∷ cond b (Right ∷ []) []) (cond b (Right ∷ []) [])) f
    by true true = ap (λ cs. f Left ++ cs) (sym (append-nil (f Right)))
    by true false = refl
    by false true = sym (append-nil (f Right))
    by false false = refl

pub adds-sides : (p : Side → Bool) (f : Side → List Clause) (a b c : Formula) → Adds a b (cond (p Left) (f Left) []) → Adds b c (cond (p Right) (f Right) []) → Adds a c (each (filter p (Left ∷ Right ∷ [])) f)
adds-sides p f a b c left right = adds-by a c _ _ (of-sides p f) (adds-more a b c _ _ left right)

-- a list that is made of what stood before, one literal, and what stands behind
pub made : (now extended pushed here before behind : List Literal) (a x : Literal) → now ≡ extended → extended ≡ pushed ++ behind → pushed ≡ here ++ a ∷ [] → here ≡ before → a ≡ x → now ≡ before ++ x ∷ behind
made now extended pushed here before behind a x read put one same is =
    read ∙ put ∙ ap (λ ls. ls ++ behind) (one ∙ ap (λ ls. ls ++ a ∷ []) same ∙ ap (λ l. before ++ l ∷ []) is) ∙ append_assoc before (x ∷ []) behind

pub headed : (added pushed old more : List Literal) (a x : Literal) → added ≡ pushed ++ more → pushed ≡ old ++ a ∷ [] → old ≡ [] → a ≡ x → added ≡ x ∷ more
headed added pushed old more a x put one none is =
    put ∙ ap (λ ls. ls ++ more) (one ∙ ap (λ ls. ls ++ a ∷ []) none ∙ ap (λ l. l ∷ []) is)

-- what is left of it when all behind a place is taken off
pub taken-off : (now extended before : List Literal) (rest : List Literal) (n : ℕ) → now ≡ take n extended → extended ≡ before ++ rest → n ≡ length before → now ≡ before
taken-off now extended before rest n cut is all = cut ∙ ap (take n) is ∙ ap (λ m. take m (before ++ rest)) all ∙ take-append_seam before rest

pub three-as : (a b c x y z : Literal) → a ≡ x → b ≡ y → c ≡ z → a ∷ b ∷ c ∷ [] ≡ x ∷ y ∷ z ∷ []
three-as a b c x y z e f g = ap (λ l. l ∷ b ∷ c ∷ []) e ∙ ap (λ l. x ∷ l ∷ c ∷ []) f ∙ ap (λ l. x ∷ y ∷ l ∷ []) g

-- those of one number more, if it passes
pub adds-each-filtered : (f : ℕ → List Clause) (p : ℕ → Bool) (a b c : Formula) (i : ℕ) → Adds a b (each (filter p (range_with_len 0 i)) f) → Adds b c (cond (p i) (f i) []) → Adds a c (each (filter p (range_with_len 0 (i + 1))) f)
adds-each-filtered f p a b c i before step = adds-by a c _ _ e (adds-more a b c _ _ before step)
  where
    one : (q : Bool) → cond q (f i) [] ≡ flat_map f (cond q (i ∷ []) [])
    one true = sym (append-nil (f i))
    one false = refl

    e : flat_map f (filter p (range_with_len 0 i)) ++ cond (p i) (f i) [] ≡ flat_map f (filter p (range_with_len 0 (i + 1)))
    e = ap (λ cs. flat_map f (filter p (range_with_len 0 i)) ++ cs) (one (p i)) ∙ sym (flat_map-append f (filter p (range_with_len 0 i)) (filter p (i ∷ []))) ∙ ap (flat_map f) (sym (filter-next p i))
