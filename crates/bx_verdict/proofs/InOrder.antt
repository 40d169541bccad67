-- Ratios in order: one refutation more, where they end, and that they end in one way.
use Rattle.std.proofs.Common.{◌≡◌, ℕ, zero, suc, ◌+◌, ◌*◌, ◌<◌, ◌≤◌, List, [], ◌∷◌, ◌++◌, length, Some, inl, inr, refl, sym, ap, ap₂, ◌∙◌, subst, arith, length-append}
use Rattle.std.proofs.lemmas.Bool.{cases_lt}
use Rattle.std.proofs.lemmas.Option.{same_Some, none-some, get_or_from_slice_get, slice_get_cases, slice_get_within}
use Rattle.std.specs.Prelude.{slice_get}
use Rattle.bx_grid.specs.declared.ratio.Ratio.{Ratio}
use Rattle.bx_grid.specs.Orders.{IsWithin, order}
use Rattle.bx_grid.specs.Tiles.{tile_count, IsGrid}
use Rattle.bx_grid.proofs.Orders.{order_is_exact}
use Rattle.bx_layout.specs.Legal.{LacksLayout}
use Rattle.bx_layout.specs.Permits.{PermitTest}
use Rattle.bx_network.specs.Networks.{Network}
use Rattle.bx_proof.specs.declared.refutation.Refutation.{Refutation}
use Rattle.bx_search.proofs.Following.{get-last}
use Rattle.bx_verdict.specs.Verdicts.{IsVerdict, Shows}
use Rattle.bx_verdict.specs.Settling.{AreInOrder, HasVerdict, AreRefuted, IsLastAt, AreSettled, AreTrueAt, ShowInOrder}
use Rattle.bx_verdict.specs.declared.settled.Last.{Last}
use Rattle.bx_verdict.specs.declared.settled.Last.TheVariants.{Found, Undecided, NoneWithin}
use Rattle.bx_verdict.specs.declared.verdict.Ended.{Ended}
use Rattle.bx_verdict.specs.declared.verdict.Ended.TheVariants as ended
use Rattle.bx_verdict.proofs.OneVerdict.{one-verdict}

-- a ratio of those in order is a grid, and of no more area than a limit is
pub in-order : (ratios : List Ratio) (k : ℕ) (r : Ratio) → AreInOrder ratios → slice_get ratios k ≡ Some r → IsGrid r × (tile_count r ≤ 144)
in-order ratios k r (limits, are, same) at =
    let here : slice_get (order limits) k ≡ Some r = subst (λ (rs : List Ratio). slice_get rs k ≡ Some r) same at in
    let within : IsWithin limits r = (order_is_exact limits r).0 (k, slice_get_within (order limits) k r here, get_or_from_slice_get (order limits) k r r here) in
    let few : r.w * r.h ≤ limits.area = within.area in
    let most : limits.area ≤ 144 = are.area in
    (record { wide = within.wide; high = within.high; small = omega (arith, few, most) }, omega (arith, few, most))

-- ---- lists by index

-- so it is with each item and its index
abbrev pub Each : {X : Type 0} → (ℕ → X → Type 0) → List X → Type 0
Each {X} Is xs = (k : ℕ) (x : X) → slice_get xs k ≡ Some x → Is k x

get-left : {X : Type 0} (xs ys : List X) (k : ℕ) → k < length xs → slice_get (xs ++ ys) k ≡ slice_get xs k
get-left [] ys k low = absurd (omega (arith, low))
get-left (x ∷ xs) ys zero low = refl
get-left (x ∷ xs) ys (suc k) low = get-left xs ys k (omega (arith, low))

pub each-more : {X : Type 0} (Is : ℕ → X → Type 0) (xs : List X) (x : X) → Each Is xs → Is (length xs) x → Each Is (xs ++ x ∷ [])
each-more {X} Is xs x so_far own k y at = elim (cases_lt k (length xs)) [
  | inl before ↦ so_far k y (sym (get-left xs (x ∷ []) k before) ∙ at)
  | inr behind ↦ (
      let here : k ≡ length xs = omega (arith, behind, slice_get_within (xs ++ x ∷ []) k y at, length-append xs (x ∷ [])) in
      let same : x ≡ y = same_Some x y (sym (get-last xs x k here) ∙ at) in
      subst (λ (n : ℕ). Is n y) (sym here) (subst (Is (length xs)) same own)
      )
]

-- two lists with the same items
same-items : {X : Type 0} (xs ys : List X) → length xs ≡ length ys → Each (λ k x. (y : X) → slice_get ys k ≡ Some y → x ≡ y) xs → xs ≡ ys
same-items [] [] count each = refl
same-items [] (y ∷ ys) count each = absurd (omega (arith, count))
same-items (x ∷ xs) [] count each = absurd (omega (arith, count))
same-items {X} (x ∷ xs) (y ∷ ys) count each = ap₂ (λ (z : X) (zs : List X). z ∷ zs) (each 0 x refl y refl) (same-items xs ys (omega (arith, count)) (λ k. each (suc k)))

module _ (N : Network) (permit : PermitTest) (budget : ℕ) (ratios : List Ratio) where
  -- ---- one refutation more

  -- the ratio at this index has this verdict, which shows what it should
  pub record IsKnownAt (k : ℕ) (end : Ended) : Type 0 where
    pub ratio : Ratio
    pub at : slice_get ratios k ≡ Some ratio
    pub verdict : IsVerdict N permit ratio budget end
    pub shows : Shows N permit ratio end

  -- so many ratios are refuted
  pub record AreKnownTo (k : ℕ) (proofs : List Refutation) : Type 0 where
    pub count : length proofs ≡ k
    pub each : Each (λ j proof. IsKnownAt j (ended.Refuted proof)) proofs

  pub known-none : (proofs : List Refutation) → proofs ≡ [] → AreKnownTo 0 proofs
  known-none proofs is = subst (AreKnownTo 0) (sym is) (record { count = refl; each = λ k proof at. absurd (none-some proof at) })

  pub known-more : (k : ℕ) (proofs more : List Refutation) (p : Refutation) → more ≡ proofs ++ p ∷ [] → AreKnownTo k proofs → IsKnownAt k (ended.Refuted p) → AreKnownTo (k + 1) more
  known-more k proofs more p is so_far own = subst (AreKnownTo (k + 1)) (sym is) (record {
    count = length-append proofs (p ∷ []) ∙ ap (λ n. n + 1) so_far.count;
    each = each-more (λ j proof. IsKnownAt j (ended.Refuted proof)) proofs p so_far.each (subst (λ (n : ℕ). IsKnownAt n (ended.Refuted p)) (sym so_far.count) own);
  })

  -- ---- where they end

  has-verdict : (k : ℕ) (end : Ended) → IsKnownAt k end → HasVerdict N permit budget ratios k end
  has-verdict k end is = record { ratio = is.ratio; at = is.at; is = is.verdict }

  pub refuted-few : (proofs : List Refutation) → AreRefuted N permit budget ratios proofs → length proofs ≤ length ratios
  refuted-few proofs are = elim (cases_lt (length ratios) (length proofs)) [
    | inl more ↦ elim (slice_get_cases proofs (length ratios)).1 [
      | inl (p, within, at, read) ↦ (let has = are (length ratios) p at in absurd (omega (arith, slice_get_within ratios (length ratios) has.ratio has.at)))
      | inr (past, none) ↦ absurd (omega (arith, more, past))
    ]
    | inr few ↦ few
  ]

  module _ (k : ℕ) (proofs : List Refutation) (known : AreKnownTo k proofs) where
    are-refuted : AreRefuted N permit budget ratios proofs
    are-refuted j proof at = has-verdict j (ended.Refuted proof) (known.each j proof at)

    pub settled : (last : Last) → IsLastAt N permit budget ratios k last → AreSettled N permit budget ratios proofs last
    settled last is = record { refuted = are-refuted; last_at = subst (λ (n : ℕ). IsLastAt N permit budget ratios n last) (sym known.count) is }

    -- the ratios end behind the last index
    pub at-end : length ratios ≤ k → k ≡ length ratios
    at-end past = omega (arith, past, refuted-few proofs are-refuted, known.count)

    pub shown : (last : Last) → AreTrueAt N permit ratios k last → ShowInOrder N permit ratios proofs last
    shown last true-at = record {
      refuted = λ j proof at. (let is = known.each j proof at in (is.ratio, is.at, is.shows.0));
      no_layout = λ j r low at. elim (slice_get_cases proofs j).1 [
        | inl (p, within, own, read) ↦ (let is = known.each j p own in subst (LacksLayout N permit) (same_Some is.ratio r (sym is.at ∙ at)) is.shows.1)
        | inr (past, none) ↦ absurd (omega (arith, low, past))
      ];
      found = subst (λ (n : ℕ). AreTrueAt N permit ratios n last) (sym known.count) true-at;
    }

  -- ---- in one way

  one-at : (k : ℕ) (one other : Ended) → HasVerdict N permit budget ratios k one → HasVerdict N permit budget ratios k other → one ≡ other
  one-at k one other a b =
      let same : a.ratio ≡ b.ratio = same_Some a.ratio b.ratio (sym a.at ∙ b.at) in
      one-verdict N permit b.ratio budget one other (subst (λ (r : Ratio). IsVerdict N permit r budget one) same a.is) b.is

  no-end : (k : ℕ) (end : Ended) → k ≡ length ratios → HasVerdict N permit budget ratios k end → ⊥
  no-end k end over has = omega (arith, over, slice_get_within ratios k has.ratio has.at)

  one-last : (k : ℕ) (last end : Last) → IsLastAt N permit budget ratios k last → IsLastAt N permit budget ratios k end → last ≡ end
  one-last k (Found a) (Found b) x y = let same = one-at k (ended.Found a) (ended.Found b) x y in cc
  one-last k (Found a) (Undecided b) x y = let same = one-at k (ended.Found a) (ended.Undecided b) x y in absurd (cc)
  one-last k (Undecided a) (Found b) x y = let same = one-at k (ended.Undecided a) (ended.Found b) x y in absurd (cc)
  one-last k (Undecided a) (Undecided b) x y = let same = one-at k (ended.Undecided a) (ended.Undecided b) x y in cc
  one-last k (Found a) NoneWithin x y = absurd (no-end k (ended.Found a) y x)
  one-last k (Undecided a) NoneWithin x y = absurd (no-end k (ended.Undecided a) y x)
  one-last k NoneWithin (Found b) x y = absurd (no-end k (ended.Found b) x y)
  one-last k NoneWithin (Undecided b) x y = absurd (no-end k (ended.Undecided b) x y)
  one-last k NoneWithin NoneWithin x y = refl

  not-last : (k : ℕ) (last : Last) (p : Refutation) → IsLastAt N permit budget ratios k last → HasVerdict N permit budget ratios k (ended.Refuted p) → ⊥
  not-last k (Found a) p x y = let same = one-at k (ended.Found a) (ended.Refuted p) x y in cc
  not-last k (Undecided a) p x y = let same = one-at k (ended.Undecided a) (ended.Refuted p) x y in cc
  not-last k NoneWithin p x y = no-end k (ended.Refuted p) x y

  not-longer : (proofs others : List Refutation) (last : Last) → AreSettled N permit budget ratios proofs last → AreRefuted N permit budget ratios others → length others ≤ length proofs
  not-longer proofs others last a b = elim (cases_lt (length proofs) (length others)) [
    | inl more ↦ elim (slice_get_cases others (length proofs)).1 [
      | inl (p, within, at, read) ↦ absurd (not-last (length proofs) last p a.last_at (b (length proofs) p at))
      | inr (past, none) ↦ absurd (omega (arith, more, past))
    ]
    | inr few ↦ few
  ]

  one-proof : (p q : Refutation) → ended.Refuted p ≡ ended.Refuted q → p ≡ q
  one-proof p q same = cc

  pub one-way : (proofs others : List Refutation) (last end : Last) → AreSettled N permit budget ratios proofs last → AreSettled N permit budget ratios others end
      → (proofs ≡ others) × (last ≡ end)
  one-way proofs others last end a b =
      let count : length proofs ≡ length others = omega (arith, not-longer proofs others last a b.refuted, not-longer others proofs end b a.refuted) in (
        same-items proofs others count (λ k p at q own. one-proof p q (one-at k (ended.Refuted p) (ended.Refuted q) (a.refuted k p at) (b.refuted k q own))),
        one-last (length proofs) last end a.last_at (subst (λ (n : ℕ). IsLastAt N permit budget ratios n end) (sym count) b.last_at),
      )
