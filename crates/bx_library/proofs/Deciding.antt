-- Dots, and lists of them: whether they are the same, and a list in order of the same dots.
use Rattle.std.proofs.Common.{◌≡◌, List, [], ◌∷◌, Ordering, Less, Equal, Greater, inl, inr, refl, sym, ap, ◌∙◌, subst}
use Rattle.std.proofs.lemmas.Bool.{cases_eq}
use Rattle.std.specs.Prelude.{Contains}
use Rattle.std.specs.List.{AllByRecursion}
use Rattle.std.specs.List.Sorted.{IsStrictlySortedBy}
use Rattle.std.specs.Ordering.{ordering_reverse}
use Rattle.bx_logic.proofs.Members.{Member, Member-from_contains, Contains-from_member, Contains-here, Contains-there, AllByRecursion-from_member, member_of_AllByRecursion}
use Rattle.bx_grid.proofs.Decided.{Decided, both, either, same}
use Rattle.bx_library.specs.declared.dot.Dot.{Dot}
use Rattle.bx_library.specs.declared.group.Group.{Group}
use Rattle.bx_library.specs.declared.group.Group.TheVariants.{Inputs, Outputs, Others}
use Rattle.bx_library.specs.Dots.{IsAscending, HaveSameDots, dot_cmp}
use Rattle.bx_library.proofs.DotOrder.{same_dot, equal_from_cmp}
use Rattle.bx_library.proofs.DotSets.{dots_total, ascending_from_sorted}
use Rattle.bx_library.proofs.Pairs.{joined}

pub same-group : (a b : Group) → Decided (a ≡ b)
same-group Inputs Inputs = inl refl
same-group Inputs Outputs = inr (λ e. cc)
same-group Inputs Others = inr (λ e. cc)
same-group Outputs Inputs = inr (λ e. cc)
same-group Outputs Outputs = inl refl
same-group Outputs Others = inr (λ e. cc)
same-group Others Inputs = inr (λ e. cc)
same-group Others Outputs = inr (λ e. cc)
same-group Others Others = inl refl

pub dots-equal : (a b : Dot) → Decided (a ≡ b)
dots-equal a b =
    same ((a.m ≡ b.m) × ((a.l ≡ b.l) × (a.n ≡ b.n))) (a ≡ b)
    ((λ h. same_dot a b h.0 h.1.0 h.1.1), (λ e. (ap (λ (d : Dot). d.m) e, (ap (λ (d : Dot). d.l) e, ap (λ (d : Dot). d.n) e))))
    (both _ _ (cases_eq a.m b.m) (both _ _ (cases_eq a.l b.l) (cases_eq a.n b.n)))

member-decided : (d : Dot) (xs : List Dot) → Decided (Member d xs)
member-decided d [] = inr (λ h. h)
member-decided d (x ∷ xs) = either _ _ (dots-equal x d) (member-decided d xs)

pub contains-decided : (xs : List Dot) (d : Dot) → Decided (Contains xs d)
contains-decided xs d = same (Member d xs) (Contains xs d) (Contains-from_member d xs, Member-from_contains d xs) (member-decided d xs)

-- each dot of a list is one of another
all-among : (xs ys : List Dot) → Decided (AllByRecursion (Contains ys) xs)
all-among [] ys = inl tt
all-among (x ∷ xs) ys = both _ _ (contains-decided ys x) (all-among xs ys)

pub same-dots-decided : (xs ys : List Dot) → Decided (HaveSameDots xs ys)
same-dots-decided xs ys =
    same (AllByRecursion (Contains ys) xs × AllByRecursion (Contains xs) ys) (HaveSameDots xs ys) (
      (λ h dot. (
        (λ c. member_of_AllByRecursion (Contains ys) dot xs h.0 (Member-from_contains dot xs c)),
        (λ c. member_of_AllByRecursion (Contains xs) dot ys h.1 (Member-from_contains dot ys c)),
      )),
      (λ h. (
        AllByRecursion-from_member (Contains ys) xs (λ dot m. (h dot).0 (Contains-from_member dot xs m)),
        AllByRecursion-from_member (Contains xs) ys (λ dot m. (h dot).1 (Contains-from_member dot ys m)),
      )),
    )
    (both _ _ (all-among xs ys) (all-among ys xs))

-- ---- a list in order

same_dots : (xs : List Dot) → HaveSameDots xs xs
same_dots xs = λ dot. ((λ h. h), (λ h. h))

cons_step : (x dot : Dot) (xs ys : List Dot) → (Contains xs dot → Contains ys dot) → Contains (x ∷ xs) dot → Contains (x ∷ ys) dot
cons_step x dot xs ys keeps h = elim (Member-from_contains dot (x ∷ xs) h) [
  | inl here ↦ Contains-from_member dot (x ∷ ys) (inl here)
  | inr there ↦ Contains-there x ys dot (keeps (Contains-from_member dot xs there))
]

same_behind : (x : Dot) (xs ys : List Dot) → HaveSameDots xs ys → HaveSameDots (x ∷ xs) (x ∷ ys)
same_behind x xs ys keeps = λ dot. (cons_step x dot xs ys (keeps dot).0, cons_step x dot ys xs (keeps dot).1)

swap_step : (x y dot : Dot) (xs : List Dot) → Contains (x ∷ y ∷ xs) dot → Contains (y ∷ x ∷ xs) dot
swap_step x y dot xs h = Contains-from_member dot (y ∷ x ∷ xs) (elim (Member-from_contains dot (x ∷ y ∷ xs) h) [
  | inl first ↦ inr (inl first)
  | inr behind ↦ elim behind [ inl second ↦ inl second | inr there ↦ inr (inr there) ]
])

same_swapped : (x y : Dot) (xs : List Dot) → HaveSameDots (x ∷ y ∷ xs) (y ∷ x ∷ xs)
same_swapped x y xs = λ dot. (swap_step x y dot xs, swap_step y x dot xs)

same_twice : (x y : Dot) (xs : List Dot) → x ≡ y → HaveSameDots (x ∷ y ∷ xs) (y ∷ xs)
same_twice x y xs e = λ dot. (
  (λ h. elim (Member-from_contains dot (x ∷ y ∷ xs) h) [
    | inl here ↦ subst (Contains (y ∷ xs)) (sym e ∙ here) (Contains-here y xs)
    | inr there ↦ Contains-from_member dot (y ∷ xs) there
  ]),
  Contains-there x (y ∷ xs) dot,
)

-- a list in order that has the dots of another
abbrev InOrder : List Dot → Type 0
InOrder dots = (ys : List Dot) × IsStrictlySortedBy dot_cmp ys × HaveSameDots dots ys

abbrev Below : Dot → List Dot → Type 0
Below x dots = AllByRecursion (λ y. dot_cmp x y ≡ Less) dots

below_all : (x : Dot) (ys : List Dot) → ((y : Dot) → Contains ys y → dot_cmp x y ≡ Less) → Below x ys
below_all x ys less = AllByRecursion-from_member (λ y. dot_cmp x y ≡ Less) ys (λ y m. less y (Contains-from_member y ys m))

below_one : (x : Dot) (ys : List Dot) → Below x ys → (y : Dot) → Contains ys y → dot_cmp x y ≡ Less
below_one x ys below y c = member_of_AllByRecursion (λ y. dot_cmp x y ≡ Less) y ys below (Member-from_contains y ys c)

-- a dot put in its place
placed : (d : Dot) (xs : List Dot) → IsStrictlySortedBy dot_cmp xs → InOrder (d ∷ xs)
unfolding IsStrictlySortedBy
placed d [] sorted = (d ∷ [], (tt, tt), same_dots (d ∷ []))
placed d (x ∷ xs) sorted = by (dot_cmp d x) refl (placed d xs sorted.1)
  where
    by : (o : Ordering) → dot_cmp d x ≡ o → InOrder (d ∷ xs) → InOrder (d ∷ x ∷ xs)
    by Less is inner =
        let past : Below d xs = below_all d xs (λ y c. dots_total.trans d x y is (below_one x xs sorted.0 y c)) in
        (d ∷ x ∷ xs, ((is, past), sorted), same_dots (d ∷ x ∷ xs))
    by Equal is inner = (x ∷ xs, sorted, same_twice d x xs (equal_from_cmp d x is))
    by Greater is (ys, up, keeps) =
        let after : dot_cmp x d ≡ Less = dots_total.antisymm x d ∙ ap ordering_reverse is in
        let past : Below x ys = below_all x ys (λ y c. elim (Member-from_contains y (d ∷ xs) ((keeps y).1 c)) [
          | inl here ↦ subst (λ z. dot_cmp x z ≡ Less) here after
          | inr there ↦ below_one x xs sorted.0 y (Contains-from_member y xs there)
        ]) in
        (x ∷ ys, (past, up), joined (d ∷ x ∷ xs) (x ∷ d ∷ xs) (x ∷ ys) (same_swapped d x xs) (same_behind x (d ∷ xs) ys keeps))

in_order : (dots : List Dot) → InOrder dots
unfolding IsStrictlySortedBy
in_order [] = ([], tt, same_dots [])
in_order (d ∷ dots) =
    let (xs, sorted, keeps) = in_order dots in
    let (ys, up, also) = placed d xs sorted in
    (ys, up, joined (d ∷ dots) (d ∷ xs) ys (same_behind d dots xs keeps) also)

pub listed_in_order : (dots : List Dot) → (ys : List Dot) × HaveSameDots dots ys × IsAscending ys
listed_in_order dots = let (ys, up, keeps) = in_order dots in (ys, keeps, ascending_from_sorted ys up)
