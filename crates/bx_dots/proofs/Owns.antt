-- The dots that lie in a tile, as a form of that tile would have them.
use Rattle.std.proofs.Common.{◌≡◌, ℕ, ◌+◌, ◌-◌, ◌<◌, ◌≤◌, leb, ltb, leb-true, le-leb, ltb-true, lt-ltb, true, inl, inr, List, [], length, get_or, map, filter, Some, None, refl, sym, ap, ◌∙◌, subst, arith}
use Rattle.std.proofs.lemmas.Bool.{and_parts}
use Rattle.std.proofs.lemmas.List.{get_or-map, length-map}
use Rattle.std.proofs.lemmas.List.Elements.{All-filter, filter_passes}
use Rattle.std.proofs.lemmas.List.Kept.{AllPairs-filter}
use Rattle.std.specs.Prelude.{◌↔◌, All, Contains}
use Rattle.bx_logic.proofs.Members.{Member, Contains-from_member, Member-from_contains, Member-filter, Member-filter_cases, Member-map, Member-map_cases}
use Rattle.bx_grid.specs.declared.ratio.Ratio.{Ratio}
use Rattle.bx_grid.specs.Tiles.{y_of}
use Rattle.bx_library.specs.declared.dot.Dot.{Dot}
use Rattle.bx_library.specs.declared.group.Group.{Group}
use Rattle.bx_library.specs.Dots.{IsBefore, IsAscending}
use Rattle.bx_library.specs.Tiles.{Tiles, IsLibrary, form_dots}
use Rattle.bx_library.proofs.DotSets.{one_ascending}
use Rattle.bx_dots.specs.Places.{left, top, moved_dot, moved_by}
use Rattle.bx_dots.specs.Cuts.{group_of_row, AreOwn, ReadsAs, IsStrange}
use Rattle.bx_dots.specs.Reading.{moved_back, is_among, IsFormWith}
use Rattle.bx_library.proofs.DotOrder.{same_dot}
use Rattle.bx_dots.proofs.Cutting.{same_own, some_dot}

-- where a tile stands and how large it is, by the numbers that are at hand
pub record Stands (lib : Tiles) (r : Ratio) (t n m w h : ℕ) : Type 0 where
  pub left_is : n ≡ left lib r t
  pub top_is : m ≡ top lib r t
  pub width_is : w ≡ lib.width
  pub height_is : h ≡ lib.height

there : (n m : ℕ) (dot : Dot) → n ≤ dot.n → m ≤ dot.m → moved_by n m (moved_back n m dot) ≡ dot
there n m dot from below = same_dot (moved_by n m (moved_back n m dot)) dot (whole m dot.m below) refl (whole n dot.n from)
  where
    whole : (a b : ℕ) → a ≤ b → a + (b - a) ≡ b
    whole a b h = omega arith

back : (n m : ℕ) (own : Dot) → moved_back n m (moved_by n m own) ≡ own
back n m own = same_dot (moved_back n m (moved_by n m own)) own (rest m own.m) refl (rest n own.n)
  where
    rest : (a b : ℕ) → a + b - a ≡ b
    rest a b = omega arith

among : (n w : ℕ) (dot : Dot) → is_among n w dot ≡ true → (n ≤ dot.n) × (dot.n < n + w)
among n w dot e =
    let tests = and_parts (leb n dot.n) (ltb dot.n (n + w)) e in
    (leb-true n dot.n tests.0, ltb-true dot.n (n + w) tests.1)

is_among-true : (n w : ℕ) (dot : Dot) → n ≤ dot.n → dot.n < n + w → is_among n w dot ≡ true
is_among-true n w dot from to = rw (le-leb n dot.n from, lt-ltb dot.n (n + w) to) refl

less : (a b c : ℕ) → a ≤ b → b < a + c → b - a < c
less a b c low high = omega arith

low : (a b : ℕ) → a ≤ a + b
low a b = omega arith

high : (a b c : ℕ) → b < c → a + b < a + c
high a b c h = omega arith

-- what is found among the dots of a tile's rows is what lies in the tile
pub owns_are : (lib : Tiles) (r : Ratio) (t : ℕ) (dots rows : List Dot) (n m w h : ℕ) → Stands lib r t n m w h
    → ((dot : Dot) → Contains rows dot ↔ (Contains dots dot × (m ≤ dot.m) × (dot.m < m + h)))
    → AreOwn lib r dots t (map (moved_back n m) (filter (is_among n w) rows))
owns_are lib r t dots rows n m w h stands same own = (to, from)
  where
    found : (dot : Dot) → Member dot (filter (is_among n w) rows) → (moved_back n m dot ≡ own) → (own.n < lib.width) × (own.m < lib.height) × Contains dots (moved_dot lib r t own)
    found dot member e =
        let cases = Member-filter_cases (is_among n w) dot rows member in
        let columns = among n w dot cases.1 in
        let inside = (same dot).0 (Contains-from_member dot rows cases.0) in
        let place : dot ≡ moved_dot lib r t own =
        sym (there n m dot columns.0 inside.1) ∙ ap (moved_by n m) e ∙ ap (λ a. moved_by a m own) stands.left_is ∙ ap (λ b. moved_by (left lib r t) b own) stands.top_is in (
          subst (λ x. own.n < x) stands.width_is (subst (λ (d : Dot). d.n < w) e (less n dot.n w columns.0 columns.1)),
          subst (λ x. own.m < x) stands.height_is (subst (λ (d : Dot). d.m < h) e (less m dot.m h inside.1 inside.2)),
          subst (Contains dots) place inside.0,
        )

    to : Contains (map (moved_back n m) (filter (is_among n w) rows)) own → (own.n < lib.width) × (own.m < lib.height) × Contains dots (moved_dot lib r t own)
    to h =
        let (dot, member, e) = Member-map_cases (moved_back n m) own (filter (is_among n w) rows) (Member-from_contains own (map (moved_back n m) (filter (is_among n w) rows)) h) in
        found dot member e

    from : (own.n < lib.width) × (own.m < lib.height) × Contains dots (moved_dot lib r t own) → Contains (map (moved_back n m) (filter (is_among n w) rows)) own
    from (inside_n, inside_m, has) =
        let dot = moved_by n m own in
        let place : moved_dot lib r t own ≡ dot = sym (ap (λ a. moved_by a m own) stands.left_is ∙ ap (λ b. moved_by (left lib r t) b own) stands.top_is) in
        let row : Contains rows dot = (same dot).1 (subst (Contains dots) place has, low m own.m, high m own.m h (subst (λ x. own.m < x) (sym stands.height_is) inside_m)) in
        let test : is_among n w dot ≡ true = is_among-true n w dot (low n own.n) (high n own.n w (subst (λ x. own.n < x) (sym stands.width_is) inside_n)) in
        let member = Member-map (moved_back n m) dot (filter (is_among n w) rows) (Member-filter (is_among n w) dot rows test (Member-from_contains dot rows row)) in
        subst (Contains (map (moved_back n m) (filter (is_among n w) rows))) (back n m own) (Contains-from_member (moved_back n m dot) (map (moved_back n m) (filter (is_among n w) rows)) member)

-- ---- they are in order

back_before : (n m : ℕ) (a b : Dot) → n ≤ a.n → n ≤ b.n → m ≤ a.m → m ≤ b.m → IsBefore a b → IsBefore (moved_back n m a) (moved_back n m b)
back_before n m a b an bn am bm (inl less) = inl (omega arith)
back_before n m a b an bn am bm (inr (tie, inl less)) = inr (ap (λ x. x - m) tie, inl less)
back_before n m a b an bn am bm (inr (tie, inr (same, less))) = inr (ap (λ x. x - m) tie, inr (same, omega arith))

pub owns_ascend : (rows : List Dot) (n m w : ℕ) → IsAscending rows → All (λ (d : Dot). m ≤ d.m) rows → IsAscending (map (moved_back n m) (filter (is_among n w) rows))
owns_ascend rows n m w up below i j d l inside =
    let xs = filter (is_among n w) rows in
    let long : length (map (moved_back n m) xs) ≡ length xs = length-map xs (moved_back n m) in
    let at_j : j < length xs = omega (arith, long) in
    let at_i : i < length xs = omega arith in
    let passes = filter_passes (is_among n w) rows in
    let rises = All-filter (is_among n w) (λ (x : Dot). m ≤ x.m) rows below in
    let order = AllPairs-filter IsBefore (is_among n w) rows up in
    subst (λ x. IsBefore x (get_or (map (moved_back n m) xs) j d)) (sym (get_or-map (moved_back n m) xs i d d at_i))
    (subst (IsBefore (moved_back n m (get_or xs i d))) (sym (get_or-map (moved_back n m) xs j d d at_j))
    (back_before n m (get_or xs i d) (get_or xs j d)
    (among n w (get_or xs i d) (passes i d at_i)).0 (among n w (get_or xs j d) (passes j d at_j)).0
    (rises i d at_i) (rises j d at_j) (order i j d l at_j)))

-- ---- what they are read as

pub reads_empty : (lib : Tiles) (r : Ratio) (dots : List Dot) (t : ℕ) (owns : List Dot) → owns ≡ [] → AreOwn lib r dots t owns → ReadsAs lib r dots t None
reads_empty lib r dots t owns none are = record { stands = tt; own = subst (AreOwn lib r dots t) none are }

pub reads_form : (lib : Tiles) (r : Ratio) (dots : List Dot) (t : ℕ) (owns : List Dot) (group : Group) (form : ℕ) → group ≡ group_of_row r (y_of r t) → IsFormWith lib group owns form → AreOwn lib r dots t owns → ReadsAs lib r dots t (Some form)
reads_form lib r dots t owns group form here is are = record {
  stands = (is.offered, is.group ∙ here);
  own = subst (AreOwn lib r dots t) (sym is.same) are;
}

pub reads_none : (lib : Tiles) (r : Ratio) (dots : List Dot) (t : ℕ) (owns : List Dot) (group : Group) → IsLibrary lib → group ≡ group_of_row r (y_of r t) → IsAscending owns → 0 < length owns → AreOwn lib r dots t owns
    → ((form : ℕ) → IsFormWith lib group owns form → ⊥) → IsStrange lib r dots t
reads_none lib r dots t owns group kept here up some are none None reads = some_dot owns some (same_own lib r dots t owns [] are reads.own)
reads_none lib r dots t owns group kept here up some are none (Some form) reads =
    none form (record {
      offered = reads.stands.0;
      group = reads.stands.1 ∙ sym here;
      same = one_ascending (form_dots lib form) owns (kept.ascending form) up (same_own lib r dots t (form_dots lib form) owns reads.own are);
    })
