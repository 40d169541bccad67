-- The dots of a grid, tile by tile: none is there twice, so a sort puts them in strict order.
use Rattle.std.proofs.Common.{Ordering, Less, Equal, Greater, is_eq, is_lt, ◌≡◌, ℕ, suc, ◌+◌, ◌<◌, true, false, List, [], ◌∷◌, ◌++◌, length, get_or, map, flat_map, AllPairs, Option, Some, None, refl, sym, ap, ◌∙◌, subst, arith}
use Rattle.std.proofs.lemmas.Cmp.{eq_by_cmp_equiv}
use Rattle.std.proofs.lemmas.List.{flat_map_more, append-nil, map-id}
use Rattle.std.proofs.lemmas.List.FromFn.{map-range_with_len_more}
use Rattle.std.proofs.lemmas.List.Sorted.{Contains-permutation, IsPermutation-sym, length_permutation}
use Rattle.std.proofs.lemmas.Map.Keys.{IsDistinct-IsPermutation, sorted_from_all_adjacent}
use Rattle.std.proofs.lemmas.Map.Made.{AllPairs-from_IsDistinct, IsDistinct-from_AllPairs}
use Rattle.std.specs.Bool.{Decides}
use Rattle.std.specs.List.{range_with_len}
use Rattle.std.specs.List.Sorted.{IsPermutation, IsSorted}
use Rattle.std.specs.Ordering.{eq_by_cmp, ordering_reverse}
use Rattle.std.specs.Prelude.{◌≢◌, Contains}
use Rattle.bx_logic.proofs.Members.{Member, Contains-from_member, Member-from_contains, Member-map, Member-map_cases, Member-flat_map, Member-flat_map_cases, AllByRecursion-from_member}
use Rattle.bx_logic.proofs.Ordered.{Ascends, Ascends-map, Ascends-flat_map, Ascends-range, Member-range, Member-range_bounds, AllPairs-from_ascends}
use Rattle.bx_grid.specs.declared.ratio.Ratio.{Ratio}
use Rattle.bx_grid.specs.Tiles.{tile_count}
use Rattle.bx_layout.specs.Grids.{FormGrid, form_at}
use Rattle.bx_library.specs.declared.dot.Dot.{Dot}
use Rattle.bx_library.specs.Dots.{IsBefore, IsAscending, dot_cmp}
use Rattle.bx_library.specs.Tiles.{Tiles, IsLibrary, IsInside, form_dots}
use Rattle.bx_library.proofs.DotOrder.{not_before_itself, equal_from_cmp, cmp_from_equal}
use Rattle.bx_library.proofs.DotSets.{dots_total, no_dot, ascending_from_sorted}
use Rattle.bx_dots.specs.Places.{left, top, moved_by, moved_dot, LiesIn}
use Rattle.bx_dots.specs.GridDots.{dots_in, IsDotOf, AreDotsOf, tile_dots, dots_below, grid_dots}
use Rattle.bx_dots.proofs.Geometry.{one_tile, moved_lies, moved_one}
use Rattle.bx_dots.proofs.Cutting.{inside_form}

-- ---- one tile more

range_more : (n : ℕ) → range_with_len 0 (n + 1) ≡ range_with_len 0 n ++ n ∷ []
range_more n =
    sym (map-id (range_with_len 0 (n + 1)))
    ∙ map-range_with_len_more (λ (k : ℕ). k) 0 n n (omega arith)
    ∙ ap (λ (ks : List ℕ). ks ++ n ∷ []) (map-id (range_with_len 0 n))

pub listed_more : (lib : Tiles) (g : FormGrid) (n : ℕ) → dots_below lib g (n + 1) ≡ dots_below lib g n ++ tile_dots lib g n
listed_more lib g n = ap (flat_map (tile_dots lib g)) (range_more n) ∙ sym (flat_map_more (tile_dots lib g) [] (range_with_len 0 n) n)

pub listed_form : (lib : Tiles) (g : FormGrid) (n form : ℕ) (xs ys : List Dot) → form_at g n ≡ Some form → xs ≡ dots_below lib g n → ys ≡ xs ++ map (moved_dot lib g.ratio n) (form_dots lib form) → ys ≡ dots_below lib g (n + 1)
listed_form lib g n form xs ys at before added =
    let here : tile_dots lib g n ≡ map (moved_dot lib g.ratio n) (form_dots lib form) = ap (λ o. map (moved_dot lib g.ratio n) (dots_in lib o)) at in
    added ∙ ap (λ (zs : List Dot). zs ++ map (moved_dot lib g.ratio n) (form_dots lib form)) before ∙ ap (λ (zs : List Dot). dots_below lib g n ++ zs) (sym here) ∙ sym (listed_more lib g n)

-- the same by the numbers that are at hand
pub pushed_form : (lib : Tiles) (g : FormGrid) (n form : ℕ) (xs ys owns : List Dot) (r : Ratio) (a b : ℕ) → r ≡ g.ratio → a ≡ left lib r n → b ≡ top lib r n → owns ≡ form_dots lib form → form_at g n ≡ Some form → xs ≡ dots_below lib g n
    → ys ≡ xs ++ map (moved_by a b) owns → ys ≡ dots_below lib g (n + 1)
pushed_form lib g n form xs ys owns r a b ratio from_left from_top dots at before added =
    listed_form lib g n form xs ys at before
    (added ∙ ap (λ k. xs ++ map (moved_by k b) owns) (from_left ∙ ap (λ q. left lib q n) ratio) ∙ ap (λ k. xs ++ map (moved_by (left lib g.ratio n) k) owns) (from_top ∙ ap (λ q. top lib q n) ratio)
    ∙ ap (λ (zs : List Dot). xs ++ map (moved_dot lib g.ratio n) zs) dots)

pub listed_empty : (lib : Tiles) (g : FormGrid) (n : ℕ) (xs : List Dot) → form_at g n ≡ None → xs ≡ dots_below lib g n → xs ≡ dots_below lib g (n + 1)
listed_empty lib g n xs at before =
    let here : tile_dots lib g n ≡ [] = ap (λ o. map (moved_dot lib g.ratio n) (dots_in lib o)) at in
    before ∙ sym (append-nil (dots_below lib g n)) ∙ ap (λ (zs : List Dot). dots_below lib g n ++ zs) (sym here) ∙ sym (listed_more lib g n)

-- ---- none is there twice

ascends_from_pairs : {X : Type 0} (R : X → X → Type 0) (xs : List X) → AllPairs R xs → Ascends R xs
ascends_from_pairs R [] pairs = tt
ascends_from_pairs {X} R (x ∷ xs) pairs = (AllByRecursion-from_member (R x) xs later, ascends_from_pairs R xs (λ i j d l inside. pairs (suc i) (suc j) d (omega arith) (omega arith)))
  where
    later : (y : X) → Member y xs → R x y
    later y m =
        let (k, below, is) = Contains-from_member y xs m in
        subst (R x) is (pairs 0 (suc k) y (omega arith) (omega arith))

before_differs : (a b : Dot) → IsBefore a b → a ≢ b
before_differs a b h e = not_before_itself a (subst (IsBefore a) (sym e) h)

none_ascends : IsAscending []
none_ascends i j d l below = absurd (omega arith)

form_ascends : (lib : Tiles) (o : Option ℕ) → IsLibrary lib → IsAscending (dots_in lib o)
form_ascends lib None kept = none_ascends
form_ascends lib (Some form) kept = kept.ascending form

one_tile_differs : (lib : Tiles) (g : FormGrid) (t : ℕ) → IsLibrary lib → Ascends {X = Dot} ◌≢◌ (tile_dots lib g t)
one_tile_differs lib g t kept =
    Ascends-map IsBefore ◌≢◌ (moved_dot lib g.ratio t) (dots_in lib (form_at g t))
    (λ a b m n before e. before_differs a b before (moved_one lib g.ratio t a b e))
    (ascends_from_pairs IsBefore (dots_in lib (form_at g t)) (form_ascends lib (form_at g t) kept))

member_lies : (lib : Tiles) (g : FormGrid) (t : ℕ) (dot : Dot) → IsLibrary lib → Member dot (tile_dots lib g t) → LiesIn lib g.ratio t dot
member_lies lib g t dot kept m =
    let (own, has, e) = Member-map_cases (moved_dot lib g.ratio t) dot (dots_in lib (form_at g t)) m in
    let within : IsInside lib.width lib.height own = inside_form lib (form_at g t) own kept (Contains-from_member own (dots_in lib (form_at g t)) has) in
    subst (LiesIn lib g.ratio t) e (moved_lies lib g.ratio t own within.n within.m)

two_tiles_differ : (lib : Tiles) (g : FormGrid) (t u : ℕ) → IsLibrary lib → t < u → (a b : Dot) → Member a (tile_dots lib g t) → Member b (tile_dots lib g u) → a ≢ b
two_tiles_differ lib g t u kept less a b m n e =
    let same : t ≡ u = one_tile lib g.ratio t u b (subst (LiesIn lib g.ratio t) e (member_lies lib g t a kept m)) (member_lies lib g u b kept n) in
    omega arith

listed_differ : (lib : Tiles) (g : FormGrid) (n : ℕ) → IsLibrary lib → AllPairs {X = Dot} ◌≢◌ (dots_below lib g n)
listed_differ lib g n kept =
    AllPairs-from_ascends ◌≢◌ (dots_below lib g n)
    (Ascends-flat_map ◌<◌ ◌≢◌ (tile_dots lib g) (range_with_len 0 n)
    (λ t m. one_tile_differs lib g t kept)
    (λ t u m k less a b h l. two_tiles_differ lib g t u kept less a b h l)
    (Ascends-range 0 n))

-- ---- they are the dots of the grid

listed_is : (lib : Tiles) (g : FormGrid) → AreDotsOf lib g (grid_dots lib g)
listed_is lib g dot = (to, from)
  where
    to : Contains (grid_dots lib g) dot → IsDotOf lib g dot
    to h =
        let (t, at, m) = Member-flat_map_cases (tile_dots lib g) dot (range_with_len 0 (tile_count g.ratio)) (Member-from_contains dot (grid_dots lib g) h) in
        let (own, has, e) = Member-map_cases (moved_dot lib g.ratio t) dot (dots_in lib (form_at g t)) m in
        let bounds = Member-range_bounds 0 (tile_count g.ratio) t at in
        record {
          tile = t;
          inside = omega arith;
          own = own;
          has = Contains-from_member own (dots_in lib (form_at g t)) has;
          is = sym e;
        }

    from : IsDotOf lib g dot → Contains (grid_dots lib g) dot
    from of =
        let inside : of.tile < tile_count g.ratio = of.inside in
        let m : Member (moved_dot lib g.ratio of.tile of.own) (tile_dots lib g of.tile) =
        Member-map (moved_dot lib g.ratio of.tile) of.own (dots_in lib (form_at g of.tile)) (Member-from_contains of.own (dots_in lib (form_at g of.tile)) of.has) in
        Contains-from_member dot (grid_dots lib g)
        (Member-flat_map (tile_dots lib g) of.tile dot (range_with_len 0 (tile_count g.ratio))
        (Member-range 0 (tile_count g.ratio) of.tile (omega arith) (omega arith))
        (subst (λ (d : Dot). Member d (tile_dots lib g of.tile)) (sym of.is) m))

pub sorted_is : (lib : Tiles) (g : FormGrid) (xs ys : List Dot) → xs ≡ grid_dots lib g → IsPermutation xs ys → AreDotsOf lib g ys
sorted_is lib g xs ys same moves dot =
    let are = subst (AreDotsOf lib g) (sym same) (listed_is lib g) dot in (
      (λ h. are.0 (Contains-permutation ys xs dot (IsPermutation-sym xs ys moves) h)),
      (λ h. Contains-permutation xs ys dot moves (are.1 h)),
    )

-- ---- in strict order

decides : (o : Ordering) (a b : Dot) → dot_cmp a b ≡ o → Decides (is_eq o) (a ≡ b)
decides Less a b e = ((λ h. absurd (cc)), (λ same. let no : Less ≡ Equal = sym e ∙ cmp_from_equal a b same in absurd (cc)))
decides Equal a b e = ((λ h. equal_from_cmp a b e), (λ same. refl))
decides Greater a b e = ((λ h. absurd (cc)), (λ same. let no : Greater ≡ Equal = sym e ∙ cmp_from_equal a b same in absurd (cc)))

adjacent : (o : Ordering) (a b : Dot) → dot_cmp a b ≡ o → is_lt (dot_cmp b a) ≡ false → a ≢ b → o ≡ Less
adjacent Less a b e up differ = refl
adjacent Equal a b e up differ = absurd (differ (equal_from_cmp a b e))
adjacent Greater a b e up differ =
    let other : dot_cmp b a ≡ Less = dots_total.antisymm b a ∙ ap ordering_reverse e in
    let no : true ≡ false = sym (ap is_lt other) ∙ up in
    absurd (cc)

pub sorted_ascends : (lib : Tiles) (g : FormGrid) (xs ys : List Dot) → (0 < length xs → IsLibrary lib) → xs ≡ grid_dots lib g → IsPermutation xs ys → IsSorted dot_cmp ys → IsAscending ys
sorted_ascends lib g [] ys kept same moves sorted = λ i j d l below.
    let long = length_permutation {X = Dot} [] ys moves in
    absurd (omega (arith, long))
sorted_ascends lib g (x ∷ xs) ys kept same moves sorted =
    let differ : AllPairs ◌≢◌ (x ∷ xs) = subst (AllPairs ◌≢◌) (sym same) (listed_differ lib g (tile_count g.ratio) (kept (omega arith))) in
    let test = λ (a b : Dot). decides (dot_cmp a b) a b refl in
    let still : AllPairs ◌≢◌ ys =
    AllPairs-from_IsDistinct test ys
    (IsDistinct-IsPermutation (eq_by_cmp dot_cmp) (eq_by_cmp_equiv dots_total).symm (x ∷ xs) ys moves (IsDistinct-from_AllPairs test (x ∷ xs) differ)) in
    ascending_from_sorted ys
    (sorted_from_all_adjacent dots_total ys no_dot
    (λ k below. let a = get_or ys k no_dot in let b = get_or ys (k + 1) no_dot in adjacent (dot_cmp a b) a b refl (sorted k no_dot (omega arith) below) (still k (k + 1) no_dot (omega arith) below)))
