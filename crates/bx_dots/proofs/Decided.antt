-- A set of dots is cut into a form grid, or something is in the way of one: each of these is decided.
use Rattle.std.proofs.Common.{◌≡◌, ◌⊎◌, ◌↔◌, ℕ, zero, suc, ◌+◌, ◌-◌, ◌/◌, ◌<◌, ◌≤◌, leb, ltb, leb-true, le-leb, ltb-true, lt-ltb, Bool, true, List, [], ◌∷◌, length, get_or, map, filter, Option, Some, None, Result, Ok, Err, inl, inr, refl, sym, ap, ◌∙◌, subst, arith}
use Rattle.std.specs.Prelude.{◌&&◌, nat_le, nat_lt, All, Contains}
use Rattle.std.specs.List.{range_with_len}
use Rattle.std.proofs.lemmas.Bool.{cases_lt, and_parts}
use Rattle.std.proofs.lemmas.List.Elements.{filter_passes}
use Rattle.std.proofs.lemmas.List.Kept.{AllPairs-filter}
use Rattle.std.proofs.lemmas.List.FromFn.{length-map-range_with_len, get_or-map-range_with_len}
use Rattle.bx_logic.proofs.Members.{Contains-from_member, Member-from_contains, Member-filter, Member-filter_cases}
use Rattle.bx_grid.specs.declared.ratio.Ratio.{Ratio}
use Rattle.bx_grid.specs.Tiles.{tile_count, IsGrid, y_of}
use Rattle.bx_grid.proofs.Decided.{Decided, both, same, less, find}
use Rattle.bx_layout.specs.Grids.{FormGrid}
use Rattle.bx_library.specs.declared.dot.Dot.{Dot}
use Rattle.bx_library.specs.declared.group.Group.{Group}
use Rattle.bx_library.specs.Dots.{IsBefore, IsAscending}
use Rattle.bx_library.specs.Groups.{group_of}
use Rattle.bx_library.specs.Tiles.{Tiles, IsLibrary, form_dots, IsOffered}
use Rattle.bx_library.proofs.Deciding.{same-group, dots-equal}
use Rattle.bx_dots.specs.declared.fault.CutFault.{CutFault}
use Rattle.bx_dots.specs.declared.fault.CutFault.TheVariants.{StrayDot, StrangeTile}
use Rattle.bx_dots.specs.Cuts.{group_of_row, AreOwn, ReadsAs, IsStrange, NoneStray, CutsTo}
use Rattle.bx_dots.specs.Places.{left, top, shift, IsStray}
use Rattle.bx_dots.specs.Reading.{moved_back, is_among, IsFormWith}
use Rattle.bx_dots.proofs.Firsts.{NoneStrayTo, none_stray_more, none_stray_all, first_stray}
use Rattle.bx_dots.proofs.Geometry.{sized, stray_below, stray_before, stray_behind, in_tile}
use Rattle.bx_dots.proofs.Owns.{owns_are, owns_ascend, reads_empty, reads_form, reads_none}

-- ---- stray dots

is-stray : (lib : Tiles) (r : Ratio) (dot : Dot) → IsLibrary lib → IsGrid r → Decided (IsStray lib r dot)
is-stray lib r dot kept grid =
    let row = dot.m / lib.height in
    elim (cases_lt row r.h) [
      | inr below ↦ inl (stray_below lib r dot grid below)
      | inl inside ↦ elim (cases_lt dot.n (shift lib row)) [
        | inl before ↦ inl (stray_before lib r dot before)
        | inr behind ↦ elim (cases_lt ((dot.n - shift lib row) / lib.width) r.w) [
          | inl within ↦ inr (λ stray. let there = in_tile lib r dot (sized lib kept) inside behind within in stray there.tile there.inside there.lies)
          | inr far ↦ inl (stray_behind lib r dot grid far)
        ]
      ]
    ]

-- up to a place of the list none is stray, or a dot before it is the first that is
strays : (lib : Tiles) (r : Ratio) (dots : List Dot) (e : Dot) → IsLibrary lib → IsGrid r → IsAscending dots → (n : ℕ) → n ≤ length dots →
    ((fault : CutFault) × CutsTo lib r dots (Err fault)) ⊎ NoneStrayTo lib r dots n
strays lib r dots e kept grid up zero high = inr (λ k d low. absurd (omega arith))
strays lib r dots e kept grid up (suc n) high =
    let next : n + 1 ≡ suc n = omega arith in
    elim (strays lib r dots e kept grid up n (omega arith)) [
      | inl found ↦ inl found
      | inr none ↦ elim (is-stray lib r (get_or dots n e) kept grid) [
        | inl stray ↦ inl (StrayDot (get_or dots n e), first_stray lib r dots n e up (omega arith) none stray)
        | inr lies ↦ inr (subst (NoneStrayTo lib r dots) next (none_stray_more lib r dots n e (omega arith) none lies))
      ]
    ]

-- ---- what a tile is read as

head-of : (x : Dot) (xs : List Dot) (y : Dot) (ys : List Dot) → x ∷ xs ≡ y ∷ ys → (x ≡ y) × (xs ≡ ys)
head-of x xs y ys e = (cc, cc)

lists-equal : (xs ys : List Dot) → Decided (xs ≡ ys)
lists-equal [] [] = inl refl
lists-equal [] (y ∷ ys) = inr (λ e. cc)
lists-equal (x ∷ xs) [] = inr (λ e. cc)
lists-equal (x ∷ xs) (y ∷ ys) =
    same ((x ≡ y) × (xs ≡ ys)) (x ∷ xs ≡ y ∷ ys)
    ((λ h. ap (λ d. d ∷ xs) h.0 ∙ ap (λ ds. y ∷ ds) h.1), head-of x xs y ys)
    (both _ _ (dots-equal x y) (lists-equal xs ys))

is-form : (lib : Tiles) (group : Group) (owns : List Dot) (form : ℕ) → Decided (IsFormWith lib group owns form)
is-form lib group owns form =
    same (IsOffered lib form × ((group_of form ≡ group) × (form_dots lib form ≡ owns))) (IsFormWith lib group owns form)
    ((λ h. record { offered = h.0; group = h.1.0; same = h.1.1 }), (λ h. (h.offered, (h.group, h.same))))
    (both _ _ (less 0 (length (form_dots lib form))) (both _ _ (same-group (group_of form) group) (lists-equal (form_dots lib form) owns)))

past-end : (all : List (List Dot)) (form : ℕ) → length all ≤ form → get_or all form [] ≡ []
past-end [] form high = refl
past-end (ds ∷ all) zero high = absurd (omega arith)
past-end (ds ∷ all) (suc form) high = past-end all form (omega arith)

offered-within : (lib : Tiles) (form : ℕ) → IsOffered lib form → form < length lib.dots
offered-within lib form some = elim (cases_lt form (length lib.dots)) [
  | inl low ↦ low
  | inr high ↦ (let none : length (form_dots lib form) ≡ 0 = ap length (past-end lib.dots form high) in absurd (omega arith))
]

none-or-some : (xs : List Dot) → (xs ≡ []) ⊎ (0 < length xs)
none-or-some [] = inl refl
none-or-some (x ∷ xs) = inr (omega arith)

in_rows : ℕ → ℕ → Dot → Bool
in_rows m h dot = nat_le m dot.m && nat_lt dot.m (m + h)

rows-say : (m h : ℕ) (dot : Dot) → in_rows m h dot ≡ true → (m ≤ dot.m) × (dot.m < m + h)
unfolding in_rows
rows-say m h dot e =
    let tests = and_parts (leb m dot.m) (ltb dot.m (m + h)) e in
    (leb-true m dot.m tests.0, ltb-true dot.m (m + h) tests.1)

rows-test : (m h : ℕ) (dot : Dot) → m ≤ dot.m → dot.m < m + h → in_rows m h dot ≡ true
unfolding in_rows
rows-test m h dot from to = rw (le-leb m dot.m from, lt-ltb dot.m (m + h) to) refl

module _ (lib : Tiles) (r : Ratio) (dots : List Dot) (kept : IsLibrary lib) (grid : IsGrid r) (up : IsAscending dots) where
  Read : ℕ → Type 0
  Read t = ((form : Option ℕ) × ReadsAs lib r dots t form) ⊎ IsStrange lib r dots t

  -- a tile is read, or it can't be
  read : (t : ℕ) → Read t
  unfolding Read
  read t =
      let n = left lib r t in
      let m = top lib r t in
      let rows = filter (in_rows m lib.height) dots in
      let owns = map (moved_back n m) (filter (is_among n lib.width) rows) in
      let group = group_of_row r (y_of r t) in
      let in_row : (dot : Dot) → Contains rows dot ↔ (Contains dots dot × (m ≤ dot.m) × (dot.m < m + lib.height)) = λ dot. (
        (λ c.
            let found = Member-filter_cases (in_rows m lib.height) dot dots (Member-from_contains dot rows c) in
            let says = rows-say m lib.height dot found.1 in
            (Contains-from_member dot dots found.0, says.0, says.1)),
        (λ h. Contains-from_member dot rows (Member-filter (in_rows m lib.height) dot dots (rows-test m lib.height dot h.1 h.2) (Member-from_contains dot dots h.0))),
      ) in
      let are : AreOwn lib r dots t owns = owns_are lib r t dots rows n m lib.width lib.height (record { left_is = refl; top_is = refl; width_is = refl; height_is = refl }) in_row in
      let below : All (λ (d : Dot). m ≤ d.m) rows = λ i d low. (rows-say m lib.height (get_or rows i d) (filter_passes (in_rows m lib.height) dots i d low)).0 in
      let rise : IsAscending owns = owns_ascend rows n m lib.width (AllPairs-filter IsBefore (in_rows m lib.height) dots up) below in
      elim (none-or-some owns) [
        | inl none ↦ inl (None, reads_empty lib r dots t owns none are)
        | inr some ↦ elim (find (IsFormWith lib group owns) (is-form lib group owns) (length lib.dots)) [
          | inl (form, is, first) ↦ inl (Some form, reads_form lib r dots t owns group form refl is are)
          | inr none ↦ inr (reads_none lib r dots t owns group kept refl rise some are (λ form is. none form (offered-within lib form is.offered) is))
        ]
      ]

  form_of : (t : ℕ) → Read t → Option ℕ
  unfolding Read
  form_of t (inl (form, reads)) = form
  form_of t (inr strange) = None

  strange-decided : (t : ℕ) → Read t → Decided (IsStrange lib r dots t)
  unfolding Read
  strange-decided t (inl (form, reads)) = inr (λ strange. strange form reads)
  strange-decided t (inr strange) = inl strange

  form-read : (t : ℕ) (found : Read t) → (IsStrange lib r dots t → ⊥) → ReadsAs lib r dots t (form_of t found)
  unfolding Read form_of
  form-read t (inl (form, reads)) fine = reads
  form-read t (inr strange) fine = absurd (fine strange)

  tiles : (inside : NoneStray lib r dots) → (result : Result FormGrid CutFault) × CutsTo lib r dots result
  tiles inside =
      let n = tile_count r in
      let P : ℕ → Type 0 = λ t. (t < n) × IsStrange lib r dots t in
      elim (find P (λ t. both _ _ (less t n) (strange-decided t (read t))) n) [
        | inl (t, (low, strange), before) ↦ (
          Err (StrangeTile t),
          record { inside = inside; tile = low; strange = strange; first = λ u lower h. before u lower (omega arith, h) },
        )
        | inr fine ↦ (
            let pick : ℕ → Option ℕ = λ t. form_of t (read t) in
            let forms = map pick (range_with_len 0 n) in (
              Ok (record { ratio = r; tiles = forms }),
              record {
                ratio = refl;
                whole = length-map-range_with_len pick 0 n;
                inside = inside;
                tiles = λ t low.
                    subst (ReadsAs lib r dots t) (sym (get_or-map-range_with_len pick 0 n t t None low (omega arith)))
                    (form-read t (read t) (λ strange. fine t low (low, strange)));
              },
            ))
      ]

pub some-cut : (lib : Tiles) (r : Ratio) (dots : List Dot) → IsLibrary lib → IsGrid r → IsAscending dots → (result : Result FormGrid CutFault) × CutsTo lib r dots result
some-cut lib r dots kept grid up = elim (strays lib r dots (record { m = 0; l = 0; n = 0 }) kept grid up (length dots) (omega arith)) [
  | inl (fault, first) ↦ (Err fault, first)
  | inr none ↦ tiles lib r dots kept grid up (none_stray_all lib r dots (length dots) (omega arith) none)
]
