-- Lists of dots in order, and the sets that a sorted set of dots is.
use Rattle.std.proofs.Common.{Ordering, Less, Equal, Greater, is_eq, ◌≡◌, ℕ, ◌+◌, ◌⊎◌, inl, inr, Bool, true, false, cond, not, List, [], ◌∷◌, ◌++◌, get_or, refl, sym, ◌∙◌, subst, arith}
use Rattle.std.proofs.lemmas.Cmp.{nat_cmp_total, on_total, then_total}
use Rattle.std.proofs.lemmas.List.Elements.{Contains-push, Contains-push_cases, Contains-append_left}
use Rattle.std.proofs.lemmas.Map.Keys.{Less-from_sorted, sorted_from_all_adjacent}
use Rattle.std.proofs.lemmas.Map.Lookups.{CmpEqualImpliesEq, btree_set_from_contains}
use Rattle.std.proofs.lemmas.Map.Views.{btree_set_contains_iff}
use Rattle.std.specs.BTreeSet.{BTreeSet, contains, Updates}
use Rattle.std.specs.BTreeMap.{is_at}
use Rattle.std.specs.Cmp.{IsTotalOrder}
use Rattle.std.specs.List.Sorted.{IsStrictlySortedBy}
use Rattle.std.specs.Prelude.{Contains}
use Rattle.bx_library.specs.declared.dot.Dot.{Dot}
use Rattle.bx_library.specs.Dots.{IsAscending, HaveSameDots, dot_cmp}
use Rattle.bx_library.proofs.DotOrder.{before_from_cmp, cmp_from_before, equal_from_cmp, dot_cmp_itself}

pub dots_total : IsTotalOrder dot_cmp
dots_total = then_total (on_total (λ d. d.m) nat_cmp_total) (then_total (on_total (λ d. d.l) nat_cmp_total) (on_total (λ d. d.n) nat_cmp_total))

pub dots_exact : CmpEqualImpliesEq dot_cmp
dots_exact = equal_from_cmp

abbrev pub no_dot : Dot
no_dot = record { m = 0; l = 0; n = 0 }

pub ascending_from_sorted : (dots : List Dot) → IsStrictlySortedBy dot_cmp dots → IsAscending dots
ascending_from_sorted dots sorted = λ i j d h l. before_from_cmp (get_or dots i d) (get_or dots j d) (Less-from_sorted dot_cmp dots i j d sorted h l)

pub sorted_from_ascending : (dots : List Dot) → IsAscending dots → IsStrictlySortedBy dot_cmp dots
sorted_from_ascending dots up =
    sorted_from_all_adjacent dots_total dots no_dot (λ k h. cmp_from_before (get_or dots k no_dot) (get_or dots (k + 1) no_dot) (up k (k + 1) no_dot (omega arith) h))

abbrev set_of : List Dot → BTreeSet Dot
set_of dots = record { keys = dots }

same_test : (a b : Bool) → (a ≡ true → b ≡ true) → (b ≡ true → a ≡ true) → a ≡ b
same_test true b to from = sym (to refl)
same_test false true to from = from refl
same_test false false to from = refl

pub in_set : (s : BTreeSet Dot) (q : Dot) → contains dot_cmp s q ≡ true → Contains s.keys q
in_set s q h = (btree_set_contains_iff dots_total dots_exact s q).0 h

pub to_set : (s : BTreeSet Dot) (q : Dot) → Contains s.keys q → contains dot_cmp s q ≡ true
to_set s q h = (btree_set_contains_iff dots_total dots_exact s q).1 h

-- lists in order that have the same dots are one
pub one_ascending : (xs ys : List Dot) → IsAscending xs → IsAscending ys → HaveSameDots xs ys → xs ≡ ys
one_ascending xs ys up up' same =
    btree_set_from_contains dots_total (set_of xs) (set_of ys) (sorted_from_ascending xs up) (sorted_from_ascending ys up')
    (λ q. same_test (contains dot_cmp (set_of xs) q) (contains dot_cmp (set_of ys) q)
    (λ h. to_set (set_of ys) q ((same q).0 (in_set (set_of xs) q h)))
    (λ h. to_set (set_of xs) q ((same q).1 (in_set (set_of ys) q h))))
    dots_exact

is_at_itself : (d : Dot) → is_at (dot_cmp d) d ≡ true
is_at_itself d = rw (dot_cmp_itself d) refl

still : (b : Bool) (o : Bool) → o ≡ true → cond b true o ≡ true
still true o h = refl
still false o h = h

same_from_at : (d q : Dot) (o : Ordering) → dot_cmp d q ≡ o → is_eq o ≡ true → d ≡ q
same_from_at d q Less e h = absurd (cc)
same_from_at d q Equal e h = equal_from_cmp d q e
same_from_at d q Greater e h = absurd (cc)

at_or_before : (d q : Dot) (b : Bool) (o : Bool) → is_at (dot_cmp d) q ≡ b → cond b true o ≡ true → (d ≡ q) ⊎ (o ≡ true)
at_or_before d q true o at h = inl (same_from_at d q (dot_cmp d q) refl at)
at_or_before d q false o at h = inr h

-- the dots so far and one more, and the set of them
pub seen_more : (xs : List Dot) (d : Dot) (old new : BTreeSet Dot) → HaveSameDots xs old.keys → Updates dot_cmp old new d true → HaveSameDots (xs ++ d ∷ []) new.keys
seen_more xs d old new same updates = λ q. (
  (λ h. in_set new q (updates.0 q ∙ elim (Contains-push_cases xs d q h) [
    | inl before ↦ still (is_at (dot_cmp d) q) (contains dot_cmp old q) (to_set old q ((same q).0 before))
    | inr here ↦ rw (← here, is_at_itself d) refl
  ])),
  (λ h. elim (at_or_before d q (is_at (dot_cmp d) q) (contains dot_cmp old q) refl (sym (updates.0 q) ∙ to_set new q h)) [
    | inl here ↦ subst (λ x. Contains (xs ++ d ∷ []) x) here (Contains-push xs d)
    | inr before ↦ Contains-append_left xs (d ∷ []) q ((same q).1 (in_set old q before))
  ]),
)

pub not_false : (b : Bool) → false ≡ not b → b ≡ true
not_false true e = refl
not_false false e = absurd (cc)

pub not_true : (b : Bool) → true ≡ not b → b ≡ false
not_true true e = absurd (cc)
not_true false e = refl

-- a dot that isn't in the set is none of its keys
pub fresh : (s : BTreeSet Dot) (dot : Dot) → contains dot_cmp s dot ≡ false → Contains s.keys dot → ⊥
fresh s dot e h = let here : contains dot_cmp s dot ≡ true = to_set s dot h in cc

pub count_more : (n m : ℕ) (b : Bool) → b ≡ true → m ≡ n + cond b 1 0 → m ≡ n + 1
count_more n m b e h = rw e at h
