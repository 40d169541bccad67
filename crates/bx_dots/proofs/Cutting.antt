-- A set of dots has one cut, and the dots of a sound grid are cut into it.
use Rattle.std.proofs.Common.{◌≡◌, ℕ, ◌+◌, ◌<◌, ◌≤◌, ◌⊎◌, inl, inr, List, [], length, get_or, Option, Some, None, Result, Ok, Err, refl, sym, ap, ap₂, ◌∙◌, subst, arith}
use Rattle.std.proofs.lemmas.Bool.{cases_order, cases_eq, eq-eqb, ne_eqb}
use Rattle.std.proofs.lemmas.List.{ext_get_or}
use Rattle.std.proofs.lemmas.List.Elements.{Contains-get_or, All-contains}
use Rattle.std.specs.Prelude.{◌≢◌, IfOk, IfErr, Contains}
use Rattle.bx_forms.specs.declared.kind.Kind.{Kind}
use Rattle.bx_forms.specs.declared.kind.Kind.TheVariants as kind
use Rattle.bx_forms.specs.Forms.{form_node}
use Rattle.bx_grid.specs.declared.ratio.Ratio.{Ratio}
use Rattle.bx_grid.specs.Tiles.{tile_count, IsTile, y_of}
use Rattle.bx_layout.specs.Grids.{FormGrid, form_at, node_in, IsSound, StandsInItsRow}
use Rattle.bx_library.specs.declared.dot.Dot.{Dot}
use Rattle.bx_library.specs.Dots.{HaveSameDots}
use Rattle.bx_library.specs.Groups.{group_of, group_with}
use Rattle.bx_library.specs.Tiles.{Tiles, IsLibrary, IsOffered, IsInside, form_dots}
use Rattle.bx_library.proofs.DotOrder.{before_goes_on, not_before_itself}
use Rattle.bx_library.proofs.DotSets.{one_ascending, no_dot}
use Rattle.bx_dots.specs.declared.fault.CutFault.{CutFault}
use Rattle.bx_dots.specs.declared.fault.CutFault.TheVariants.{StrayDot, StrangeTile, NoMemory}
use Rattle.bx_dots.specs.Places.{moved_dot, LiesIn}
use Rattle.bx_dots.specs.GridDots.{dots_in, AreOffered, AreDotsOf}
use Rattle.bx_dots.specs.Cuts.{group_of_row, AreOwn, MayStand, ReadsAs, NoneStray, IsCut, IsFirstStray, IsFirstStrange, CutsTo}
use Rattle.bx_dots.specs.Reading.{IsStrangeFault}
use Rattle.bx_dots.proofs.Geometry.{one_tile, moved_lies, moved_one}

-- ---- one reading of a tile

pub same_own : (lib : Tiles) (r : Ratio) (dots : List Dot) (t : ℕ) (xs ys : List Dot) → AreOwn lib r dots t xs → AreOwn lib r dots t ys → HaveSameDots xs ys
same_own lib r dots t xs ys a b = λ own. ((λ h. (b own).1 ((a own).0 h)), (λ h. (a own).1 ((b own).0 h)))

none_contained : (dot : Dot) → Contains {X = Dot} [] dot → ⊥
none_contained dot (k, below, is) = absurd (omega arith)

-- a form that is offered has a dot
pub some_dot : (xs : List Dot) → 0 < length xs → HaveSameDots xs [] → ⊥
some_dot xs some same = none_contained (get_or xs 0 no_dot) ((same (get_or xs 0 no_dot)).0 (Contains-get_or xs 0 no_dot some))

turned : (xs ys : List Dot) → HaveSameDots xs ys → HaveSameDots ys xs
turned xs ys same = λ dot. ((same dot).1, (same dot).0)

one_form : (lib : Tiles) (f g : ℕ) → IsLibrary lib → IsOffered lib f → IsOffered lib g → group_of f ≡ group_of g → HaveSameDots (form_dots lib f) (form_dots lib g) → f ≡ g
one_form lib f g kept f_some g_some groups same =
    let e : form_dots lib f ≡ form_dots lib g = one_ascending (form_dots lib f) (form_dots lib g) (kept.ascending f) (kept.ascending g) same in
    elim (cases_order f g) [
      | inl equal ↦ equal
      | inr other ↦ elim other [
        | inl below ↦ absurd (kept.apart f g below f_some groups e)
        | inr above ↦ absurd (kept.apart g f above g_some (sym groups) (sym e))
      ]
    ]

pub one_reading : (lib : Tiles) (r : Ratio) (dots : List Dot) (t : ℕ) (f g : Option ℕ) → IsLibrary lib → ReadsAs lib r dots t f → ReadsAs lib r dots t g → f ≡ g
one_reading lib r dots t None None kept a b = refl
one_reading lib r dots t None (Some g) kept a b =
    absurd (some_dot (form_dots lib g) b.stands.0 (same_own lib r dots t (form_dots lib g) [] b.own a.own))
one_reading lib r dots t (Some f) None kept a b =
    absurd (some_dot (form_dots lib f) a.stands.0 (same_own lib r dots t (form_dots lib f) [] a.own b.own))
one_reading lib r dots t (Some f) (Some g) kept a b =
    ap Some (one_form lib f g kept a.stands.0 b.stands.0 (a.stands.1 ∙ sym b.stands.1) (same_own lib r dots t (form_dots lib f) (form_dots lib g) a.own b.own))

-- ---- one cut

grid : Ratio → List (Option ℕ) → FormGrid
grid ratio tiles = record { ratio = ratio; tiles = tiles }

same_grid : (g h : FormGrid) → g.ratio ≡ h.ratio → g.tiles ≡ h.tiles → g ≡ h
unfolding grid
same_grid g h ratio tiles = ap₂ grid ratio tiles

one_cut : (lib : Tiles) (r : Ratio) (dots : List Dot) (g h : FormGrid) → IsLibrary lib → IsCut lib r dots g → IsCut lib r dots h → g ≡ h
one_cut lib r dots g h kept a b =
    same_grid g h (a.ratio ∙ sym b.ratio)
    (ext_get_or None g.tiles h.tiles (a.whole ∙ sym b.whole)
    (λ t below. let inside : IsTile r t = subst (λ n. t < n) a.whole below in one_reading lib r dots t (form_at g t) (form_at h t) kept (a.tiles t inside) (b.tiles t inside)))

one_stray : (lib : Tiles) (r : Ratio) (dots : List Dot) (a b : Dot) → IsFirstStray lib r dots a → IsFirstStray lib r dots b → a ≡ b
one_stray lib r dots a b x y = elim (y.first a x.has x.stray) [
  | inl same ↦ same
  | inr behind ↦ elim (x.first b y.has y.stray) [
    | inl same ↦ sym same
    | inr ahead ↦ absurd (not_before_itself a (before_goes_on a b a ahead behind))
  ]
]

one_strange : (lib : Tiles) (r : Ratio) (dots : List Dot) (t u : ℕ) → IsFirstStrange lib r dots t → IsFirstStrange lib r dots u → t ≡ u
one_strange lib r dots t u a b = elim (cases_order t u) [
  | inl same ↦ same
  | inr other ↦ elim other [
    | inl below ↦ absurd (b.first t below a.strange)
    | inr above ↦ absurd (a.first u above b.strange)
  ]
]

pub one_gift : (lib : Tiles) (r : Ratio) (dots : List Dot) (a b : Result FormGrid CutFault) → IsLibrary lib → CutsTo lib r dots a → CutsTo lib r dots b → a ≡ b
one_gift lib r dots (Ok g) (Ok h) kept a b = ap Ok (one_cut lib r dots g h kept a b)
one_gift lib r dots (Ok g) (Err (StrayDot d)) kept a b = absurd (a.inside d b.has b.stray)
one_gift lib r dots (Ok g) (Err (StrangeTile t)) kept a b = absurd (b.strange (form_at g t) (a.tiles t b.tile))
one_gift lib r dots (Ok g) (Err NoMemory) kept a b = absurd b
one_gift lib r dots (Err (StrayDot d)) (Ok h) kept a b = absurd (b.inside d a.has a.stray)
one_gift lib r dots (Err (StrayDot d)) (Err (StrayDot e)) kept a b = ap (λ x. Err (StrayDot x)) (one_stray lib r dots d e a b)
one_gift lib r dots (Err (StrayDot d)) (Err (StrangeTile t)) kept a b = absurd (b.inside d a.has a.stray)
one_gift lib r dots (Err (StrayDot d)) (Err NoMemory) kept a b = absurd b
one_gift lib r dots (Err (StrangeTile t)) (Ok h) kept a b = absurd (a.strange (form_at h t) (b.tiles t a.tile))
one_gift lib r dots (Err (StrangeTile t)) (Err (StrayDot e)) kept a b = absurd (a.inside e b.has b.stray)
one_gift lib r dots (Err (StrangeTile t)) (Err (StrangeTile u)) kept a b = ap (λ x. Err (StrangeTile x)) (one_strange lib r dots t u a b)
one_gift lib r dots (Err (StrangeTile t)) (Err NoMemory) kept a b = absurd b
one_gift lib r dots (Err NoMemory) b kept a c = absurd a

-- ---- there and back

stand_group : (r : Ratio) (y : ℕ) (node : Option Kind) → (node ≡ Some kind.Input → y ≡ 0) → (node ≡ Some kind.Output → y + 1 ≡ r.h) → (y ≡ 0 → node ≡ Some kind.Input) → (y + 1 ≡ r.h → node ≡ Some kind.Output)
    → group_with node ≡ group_of_row r y
stand_group r y node input output first last = elim (cases_eq y 0) [
  | inl top ↦ ap group_with (first top) ∙ sym (rw (eq-eqb y 0 top) refl)
  | inr lower ↦ elim (cases_eq (y + 1) r.h) [
    | inl bottom ↦ ap group_with (last bottom) ∙ sym (rw (ne_eqb y 0 lower, eq-eqb (y + 1) r.h bottom) refl)
    | inr upper ↦ between node (λ e. lower (input e)) (λ e. upper (output e)) ∙ sym (rw (ne_eqb y 0 lower, ne_eqb (y + 1) r.h upper) refl)
  ]
]
  where
    between : (n : Option Kind) → (n ≡ Some kind.Input → ⊥) → (n ≡ Some kind.Output → ⊥) → group_with n ≡ group_with None
    between None a b = refl
    between (Some kind.Input) a b = absurd (a refl)
    between (Some kind.Output) a b = absurd (b refl)
    between (Some kind.Not) a b = refl
    between (Some kind.Fan) a b = refl
    between (Some kind.And) a b = refl
    between (Some kind.Or) a b = refl
    between (Some kind.Nand) a b = refl
    between (Some kind.Nor) a b = refl
    between (Some kind.Xor) a b = refl
    between (Some kind.Xnor) a b = refl

held : (o : Option ℕ) (form : ℕ) (k : Kind) → o ≡ Some form → (o ≡ None) ⊎ (node_in o ≡ Some k) → form_node form ≡ Some k
held o form k e (inl none) = cc
held o form k e (inr holds) = sym (ap node_in e) ∙ holds

stands : (lib : Tiles) (g : FormGrid) (t : ℕ) → IsTile g.ratio t → StandsInItsRow g t → AreOffered lib g → (o : Option ℕ) → form_at g t ≡ o → MayStand lib g.ratio t o
stands lib g t inside row offered None e = tt
stands lib g t inside row offered (Some form) e = (
  offered t form inside e,
  stand_group g.ratio (y_of g.ratio t) (form_node form)
      (λ n. row.input (ap node_in e ∙ n))
      (λ n. row.output (ap node_in e ∙ n))
      (λ y. held (form_at g t) form kind.Input e (row.first y))
      (λ y. held (form_at g t) form kind.Output e (row.last y)),
)

pub inside_form : (lib : Tiles) (o : Option ℕ) (own : Dot) → IsLibrary lib → Contains (dots_in lib o) own → IsInside lib.width lib.height own
inside_form lib None own kept h = absurd (none_contained own h)
inside_form lib (Some form) own kept h = All-contains (IsInside lib.width lib.height) (form_dots lib form) own (kept.inside form) h

owns_of_dots : (lib : Tiles) (g : FormGrid) (dots : List Dot) → IsLibrary lib → AreDotsOf lib g dots → (t : ℕ) → IsTile g.ratio t → AreOwn lib g.ratio dots t (dots_in lib (form_at g t))
owns_of_dots lib g dots kept are t inside own = (to, from)
  where
    to : Contains (dots_in lib (form_at g t)) own → (own.n < lib.width) × (own.m < lib.height) × Contains dots (moved_dot lib g.ratio t own)
    to h =
        let within : IsInside lib.width lib.height own = inside_form lib (form_at g t) own kept h in (
          within.n,
          within.m,
          (are (moved_dot lib g.ratio t own)).1 (record { tile = t; inside = inside; own = own; has = h; is = refl }),
        )

    from : (own.n < lib.width) × (own.m < lib.height) × Contains dots (moved_dot lib g.ratio t own) → Contains (dots_in lib (form_at g t)) own
    from (n, m, h) =
        let of = (are (moved_dot lib g.ratio t own)).0 h in
        let within : IsInside lib.width lib.height of.own = inside_form lib (form_at g of.tile) of.own kept of.has in
        let there : LiesIn lib g.ratio of.tile (moved_dot lib g.ratio t own) = subst (LiesIn lib g.ratio of.tile) (sym of.is) (moved_lies lib g.ratio of.tile of.own within.n within.m) in
        let same : of.tile ≡ t = one_tile lib g.ratio of.tile t (moved_dot lib g.ratio t own) there (moved_lies lib g.ratio t own n m) in
        let one : of.own ≡ own = sym (moved_one lib g.ratio t own of.own (of.is ∙ ap (λ u. moved_dot lib g.ratio u of.own) same)) in
        subst (Contains (dots_in lib (form_at g t))) one (subst (λ u. Contains (dots_in lib (form_at g u)) of.own) same of.has)

none_stray : (lib : Tiles) (g : FormGrid) (dots : List Dot) → IsLibrary lib → AreDotsOf lib g dots → NoneStray lib g.ratio dots
none_stray lib g dots kept are dot h stray =
    let of = (are dot).0 h in
    let within : IsInside lib.width lib.height of.own = inside_form lib (form_at g of.tile) of.own kept of.has in
    stray of.tile of.inside (subst (LiesIn lib g.ratio of.tile) (sym of.is) (moved_lies lib g.ratio of.tile of.own within.n within.m))

pub cut_of_dots : (lib : Tiles) (g : FormGrid) (dots : List Dot) → IsLibrary lib → length g.tiles ≡ tile_count g.ratio → IsSound g → AreOffered lib g → AreDotsOf lib g dots → IsCut lib g.ratio dots g
cut_of_dots lib g dots kept whole sound offered are = record {
  ratio = refl;
  whole = whole;
  inside = none_stray lib g dots kept are;
  tiles = λ t inside. record {
    stands = stands lib g t inside (sound t inside).row offered (form_at g t) refl;
    own = owns_of_dots lib g dots kept are t inside;
  };
}

-- ---- what a call answers

pub exact : (lib : Tiles) (r : Ratio) (dots : List Dot) (answer s : Result FormGrid CutFault) → (answer ≢ Err NoMemory → IsLibrary lib)
    → IfOk answer (λ g. CutsTo lib r dots (Ok g)) → IfErr answer (λ fault. fault ≢ NoMemory → CutsTo lib r dots (Err fault))
    → CutsTo lib r dots s → answer ≢ Err NoMemory → answer ≡ s
exact lib r dots (Ok g) s kept found faults gives other = one_gift lib r dots (Ok g) s (kept other) found gives
exact lib r dots (Err fault) s kept found faults gives other = one_gift lib r dots (Err fault) s (kept other) (faults (λ e. other (ap (λ x. Err x) e))) gives

pub exact_back : (lib : Tiles) (r : Ratio) (dots : List Dot) (answer : Result FormGrid CutFault) → (answer ≢ Err NoMemory → IsLibrary lib)
    → ((s : Result FormGrid CutFault) → CutsTo lib r dots s → answer ≢ Err NoMemory → answer ≡ s)
    → (g : FormGrid) → g.ratio ≡ r → length g.tiles ≡ tile_count r → IsSound g → AreOffered lib g → AreDotsOf lib g dots → answer ≢ Err NoMemory → answer ≡ Ok g
exact_back lib r dots answer kept answers g ratio whole sound offered are other =
    answers (Ok g)
    (subst (λ (q : Ratio). IsCut lib q dots g) ratio
    (cut_of_dots lib g dots (kept other) (whole ∙ ap tile_count (sym ratio)) sound offered are))
    other

pub strange_gives : (lib : Tiles) (r : Ratio) (dots : List Dot) (fault : CutFault) → NoneStray lib r dots → IsStrangeFault lib r dots fault → CutsTo lib r dots (Err fault)
strange_gives lib r dots fault none s = subst (λ f. CutsTo lib r dots (Err f)) (sym s.is) (record { inside = none; tile = s.inside; strange = s.strange; first = s.first })

pub exact_fault : (lib : Tiles) (r : Ratio) (dots : List Dot) (answer s : Result FormGrid CutFault) (fault : CutFault) → answer ≡ Err fault → (answer ≢ Err NoMemory → IsLibrary lib) → (fault ≢ NoMemory → CutsTo lib r dots (Err fault))
    → CutsTo lib r dots s → answer ≢ Err NoMemory → answer ≡ s
exact_fault lib r dots answer s fault is kept told gives other = is ∙ one_gift lib r dots (Err fault) s (kept other) (told (λ e. other (is ∙ ap (λ x. Err x) e))) gives
