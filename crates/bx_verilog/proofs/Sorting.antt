-- Names in the order of their bytes, each once: how one is found, and that its place stands for it.
use Rattle.std.proofs.Common.{◌≡◌, ◌≢◌, ◌||◌, ◌++◌, Bor, ℕ, zero, suc, ◌+◌, ◌<◌, false, not, cond, eqb, List, [], ◌∷◌, length, map, get_or, take, refl, sym, subst, ap, ap₂, ◌∙◌, inl, inr, Some, arith, add-one, eq-eqb}
use Rattle.std.specs.Prelude.{slice_get, Result, Ok, Err}
use Rattle.std.specs.Str.{bytes_eq}
use Rattle.std.specs.List.{All, AllByRecursion, Contains, HoldsAt, dedup, list_any, position_or_len}
use Rattle.std.specs.List.Sorted.{IsStrictlySortedBy, IsSortedBy, IsBinarySearchResult, IsSearchInRange, IsPartitionPoint, IsPermutation}
use Rattle.std.specs.Result.{result_unwrap_or}
use Rattle.std.specs.Ordering.{nat_cmp, is_lt, is_eq, ordering_reverse}
use Rattle.std.specs.declared.cmp.Ordering.{Ordering}
use Rattle.std.specs.declared.cmp.Ordering.TheVariants.{Less, Equal, Greater}
use Rattle.std.specs.Cmp.{IsTotalOrder}
use Rattle.std.specs.Cmp.Lexicographic.{slice_cmp, nat_list_cmp_total, on_texts, on_texts_equal, texts_ties}
use Rattle.std.proofs.lemmas.Bool.{cases_lt, cases_Bool, false_from_ne_true, true≢false, cond_both, eqb-true}
use Rattle.std.proofs.lemmas.List.{length-map, get_or-map, take_more, map_push}
use Rattle.std.proofs.lemmas.List.Elements.{recursion_from_All, All-push, Contains-get_or}
use Rattle.std.proofs.lemmas.List.Kept.{Any-dedup}
use Rattle.std.proofs.lemmas.List.Sorted.{searchable_from_sorted, Contains-permutation}
use Rattle.std.proofs.lemmas.Option.{slice_get-get_or, slice_get_within, get_or_from_slice_get}
use Rattle.bx_logic.specs.Lists.{AreDistinct}
use Rattle.bx_verilog.specs.declared.mentions.Mention.{Mention}
use Rattle.bx_verilog.specs.Formulas.{Text}
use Rattle.bx_verilog.specs.Mentions.{firsts}
use Rattle.bx_verilog.specs.Shown.{number_among}
use Rattle.bx_verilog.proofs.Firsts.{same_texts, same_bytes, place-of, text-at, firsts-push, with_text, with_text-shown}
use Rattle.bx_verilog.proofs.Membership.{Contains-nil, Contains-map}
use Rattle.bx_verilog.proofs.Places.{position_or_len-map, passes-at, none-passes}

-- the order of the names that the code has
abbrev pub by_bytes : Bor Text → Bor Text → Ordering
by_bytes x y = slice_cmp nat_cmp x.now y.now

abbrev pub text_of : Bor Text → Text
text_of x = x.now

equal-texts : (a b : Text) → slice_cmp nat_cmp a b ≡ Equal → a ≡ b
equal-texts a b e = same_texts a b (texts_ties a b ∙ ap is_eq e)

less-texts : (a b : Text) → slice_cmp nat_cmp a b ≡ Less → bytes_eq a b ≡ false
less-texts a b e = texts_ties a b ∙ ap is_eq e

greater-texts : (a b : Text) → slice_cmp nat_cmp a b ≡ Greater → bytes_eq a b ≡ false
greater-texts a b e = texts_ties a b ∙ ap is_eq e

above-others : (x : Bor Text) (ys : List (Bor Text)) → AllByRecursion (λ y. by_bytes x y ≡ Less) ys → AllByRecursion (λ n. n ≢ x.now) (map text_of ys)
above-others x [] h = tt
above-others x (y ∷ ys) h = (
  λ e. true≢false (sym (same_bytes x.now y.now (sym e)) ∙ less-texts x.now y.now h.0),
  above-others x ys h.1,
)

pub sorted-distinct : (xs : List (Bor Text)) → IsStrictlySortedBy by_bytes xs → AreDistinct (map text_of xs)
unfolding IsStrictlySortedBy
sorted-distinct [] h = tt
sorted-distinct (x ∷ xs) h = (above-others x xs h.0, sorted-distinct xs h.1)

module _ {K : Type 0} (c : K → K → Ordering) (o : IsTotalOrder c) where
  rises : (xs : List K) → IsStrictlySortedBy c xs → (k : ℕ) (d : K) → suc k < length xs → is_lt (c (get_or xs (suc k) d) (get_or xs k d)) ≡ false
  unfolding IsStrictlySortedBy
  rises [] h k d l = absurd (omega arith)
  rises (x ∷ []) h k d l = absurd (omega arith)
  rises (x ∷ (y ∷ ys)) h zero d l = ap is_lt (o.antisymm y x) ∙ ap (λ r. is_lt (ordering_reverse r)) h.0.0
  rises (x ∷ (y ∷ ys)) h (suc k) d l = rises (y ∷ ys) h.1 k d (omega arith)

  pub sorted_from_strictly : (xs : List K) → IsStrictlySortedBy c xs → IsSortedBy (λ x y. is_lt (c x y)) xs
  sorted_from_strictly xs h k d a l = rw add-one (rises xs h k d (omega arith))

found-at : (xs : List (Bor Text)) (i : ℕ) (n : Text) → AreDistinct (map text_of xs) → i < length xs →
    HoldsAt (λ y. slice_cmp nat_cmp y.now n ≡ Equal) xs i → i ≡ number_among (map text_of xs) n
found-at [] i n apart l h = absurd (omega arith)
found-at (x ∷ xs) i n apart l h =
    let ys = x ∷ xs in
    let is : get_or (map text_of ys) i [] ≡ n = get_or-map text_of ys i x [] l ∙ equal-texts (get_or ys i x).now n (h x) in
    let within : i < length (map text_of ys) = omega (arith, length-map ys text_of) in
    sym (place-of (map text_of ys) i n apart (slice_get-get_or (map text_of ys) i [] within ∙ ap Some is))

missing : (xs : List (Bor Text)) (i : ℕ) (n : Text) →
    IsPartitionPoint (λ y. slice_cmp nat_cmp y.now n ≡ Less) (λ y. slice_cmp nat_cmp y.now n ≡ Greater) xs i →
    length xs ≡ number_among (map text_of xs) n
missing xs i n (less, greater) =
    let differs : (y : Bor Text) → bytes_eq y.now n ≡ false → bytes_eq n y.now ≡ false =
    λ y e. false_from_ne_true (bytes_eq n y.now) (λ t. true≢false (sym (same_bytes y.now n (sym (same_texts n y.now t))) ∙ e)) in
    let none : All (λ y. bytes_eq n y.now ≡ false) xs = λ k d l. elim (cases_lt k i) [
      | inl before ↦ differs (get_or xs k d) (less-texts (get_or xs k d).now n (less k d (omega arith) before))
      | inr behind ↦ differs (get_or xs k d) (greater-texts (get_or xs k d).now n (greater k d behind l))
    ] in
    sym (position_or_len-map text_of (bytes_eq n) xs ∙ none-passes (λ (y : Bor Text). bytes_eq n y.now) xs (recursion_from_All (λ y. bytes_eq n y.now ≡ false) xs none))

-- what a search among sorted names answers
pub searched-place : (xs : List (Bor Text)) (n : Text) (r : Result ℕ ℕ) → IsStrictlySortedBy by_bytes xs → IsSearchInRange r (length xs) →
    IsBinarySearchResult (λ y. slice_cmp nat_cmp y.now n) xs r → result_unwrap_or r (length xs) ≡ number_among (map text_of xs) n
searched-place xs n (Ok i) sorted l h = found-at xs i n (sorted-distinct xs sorted) l h
searched-place xs n (Err i) sorted l h =
    missing xs i n (h (searchable_from_sorted nat_list_cmp_total text_of xs n (sorted_from_strictly by_bytes (on_texts text_of) xs sorted)))

-- a place within distinct names is that of the name there, and of no other
place-stands : (names : List Text) (n : Text) (k : ℕ) → AreDistinct names → k < length names → eqb (number_among names n) k ≡ bytes_eq n (get_or names k [])
place-stands names n k apart l = elim (cases_Bool (bytes_eq n (get_or names k []))) [
  | inl same ↦
      let is : get_or names k [] ≡ n = sym (same_texts n (get_or names k []) same) in
      eq-eqb (number_among names n) k (place-of names k n apart (slice_get-get_or names k [] l ∙ ap Some is)) ∙ sym same
  | inr other ↦
      false_from_ne_true (eqb (number_among names n) k)
      (λ t. true≢false (sym (passes-at (bytes_eq n) names k [] (eqb-true (number_among names n) k t) l) ∙ other))
      ∙ sym other
]

-- where the places of names stand, a name is looked for as among the names
found-among : (names : List Text) (n : Text) (ks : List ℕ) → AreDistinct names → AllByRecursion (λ k. k < length names) ks →
    list_any (λ k. eqb (number_among names n) k) ks ≡ list_any (λ k. bytes_eq n (get_or names k [])) ks
found-among names n [] apart h = refl
found-among names n (k ∷ ks) apart h = ap₂ (λ a b. a || b) (place-stands names n k apart h.0) (found-among names n ks apart h.1)

placed-among : (names : List Text) (n : Text) (ks : List ℕ) → AreDistinct names → AllByRecursion (λ k. k < length names) ks →
    position_or_len (λ k. eqb (number_among names n) k) ks ≡ position_or_len (λ k. bytes_eq n (get_or names k [])) ks
placed-among names n [] apart h = refl
placed-among names n (k ∷ ks) apart h =
    ap₂ (λ a m. cond (not a) (1 + m) 0) (place-stands names n k apart h.0) (placed-among names n ks apart h.1)

-- the names at places among sorted ones
abbrev pub names_at : List Text → List ℕ → List Text
names_at names ks = map (λ k. get_or names k []) ks

-- the number of a name by the place of its place
pub number-by_place : (names : List Text) (n : Text) (ks : List ℕ) → AreDistinct names → All (λ k. k < length names) ks →
    position_or_len (λ k. eqb (number_among names n) k) ks ≡ number_among (names_at names ks) n
number-by_place names n ks apart within =
    placed-among names n ks apart (recursion_from_All (λ k. k < length names) ks within)
    ∙ sym (position_or_len-map (λ k. get_or names k []) (bytes_eq n) ks)

-- the places with that of one name more
names-with_place : (names : List Text) (n : Text) (place : ℕ) (old new : List ℕ) → AreDistinct names → Contains names n → place ≡ number_among names n →
    All (λ k. k < length names) old → new ≡ cond (list_any (λ k. eqb place k) old) old (old ++ place ∷ []) →
    All (λ k. k < length names) new × (names_at names new ≡ with_text (names_at names old) n)
names-with_place names n place old new apart among is_place within added =
    let at : slice_get names place ≡ Some n = ap (slice_get names) is_place ∙ text-at names n among in
    let is : get_or names place [] ≡ n = get_or_from_slice_get names place n [] at in
    let below : place < length names = slice_get_within names place n at in
    let f : ℕ → Text = λ k. get_or names k [] in
    let found = found-among names n old apart (recursion_from_All (λ k. k < length names) old within) in
    let same_test : list_any (λ k. eqb place k) old ≡ list_any (λ k. bytes_eq (f place) (f k)) old =
    ap (λ p. list_any (λ k. eqb p k) old) is_place ∙ found ∙ ap (λ m. list_any (λ k. bytes_eq m (f k)) old) (sym is) in (
      subst (All (λ k. k < length names)) (sym added)
          (cond_both (list_any (λ k. eqb place k) old) old (old ++ place ∷ []) (All (λ k. k < length names))
          (λ e. within) (λ e. All-push (λ k. k < length names) old place within below)),
      ap (map f) (added ∙ ap (λ b. cond b old (old ++ place ∷ [])) same_test) ∙ with_text-shown f old place ∙ ap (with_text (map f old)) is,
    )

abbrev pub name_of : Mention → Text
name_of x = x.name.now

-- the places of the names of one mention more, among names that are seen as these
pub mention-more : (found : List Mention) (names seen : List Text) (i place : ℕ) (d : Mention) (old new : List ℕ) → seen ≡ names → AreDistinct seen →
    ((n : Text) → Contains (map name_of found) n → Contains seen n) → i < length found → place ≡ number_among seen (get_or found i d).name.now →
    All (λ k. k < length names) old → names_at names old ≡ firsts (map name_of (take i found)) →
    new ≡ cond (list_any (λ k. eqb place k) old) old (old ++ place ∷ []) →
    All (λ k. k < length names) new × (names_at names new ≡ firsts (map name_of (take (i + 1) found)))
mention-more found names seen i place d old new same apart all l is_place within named added =
    let x = get_or found i d in
    let among = all (name_of x) (Contains-map name_of found x (Contains-get_or found i d l)) in
    let (kept, with) = names-with_place names (name_of x) place old new (subst AreDistinct same apart)
    (subst (λ (ns : List Text). Contains ns (name_of x)) same among) (is_place ∙ ap (λ (ns : List Text). number_among ns (name_of x)) same) within added in
    let taken = ap (map name_of) (take_more found i d l) ∙ map_push name_of (take i found) x in (
      kept,
      with ∙ ap (λ ns. with_text ns (name_of x)) named ∙ sym (firsts-push (map name_of (take i found)) (name_of x)) ∙ ap firsts (sym taken),
    )

-- a sort and the removal of repetitions keep each name
pub names-kept : (pushed sorted : List (Bor Text)) (names : List Text) → map text_of pushed ≡ names → IsPermutation pushed sorted →
    (n : Text) → Contains names n → Contains (map text_of (dedup (λ x y. bytes_eq x.now y.now) sorted)) n
names-kept [] sorted names is moved n c = absurd (Contains-nil n (subst (λ (ns : List Text). Contains ns n) (sym is) c))
names-kept (y ∷ ys) sorted names is moved n c =
    let xs = y ∷ ys in
    let (k, l, e) = subst (λ (ns : List Text). Contains ns n) (sym is) c in
    let within : k < length xs = omega (arith, l, length-map xs text_of) in
    let x = get_or xs k y in
    let is_n : x.now ≡ n = sym (get_or-map text_of xs k y n within) ∙ e in
    let (j, z, at, stands, same) = Any-dedup (on_texts_equal text_of) sorted x (Contains-permutation xs sorted x moved (Contains-get_or xs k y within)) in
    let kept = dedup (λ a b. bytes_eq (text_of a) (text_of b)) sorted in
    let here : j < length (map text_of kept) = omega (arith, at, length-map kept text_of) in
    (j, here, get_or-map text_of kept j z n at ∙ ap text_of stands ∙ sym (same_texts x.now z.now same) ∙ is_n)
