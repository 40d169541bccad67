-- The ratios that a certificate names, one by one.
use Rattle.std.proofs.Common.{◌≡◌, ℕ, ◌+◌, ◌<◌, ◌≤◌, ◌⊎◌, List, [], ◌∷◌, length, map, Option, Some, None, inl, inr, sym, ap, ap₂, ◌∙◌, subst, arith, length-append}
use Rattle.std.specs.Prelude.{slice_get, option_map}
use Rattle.std.proofs.lemmas.List.{length-map}
use Rattle.std.proofs.lemmas.Bool.{cases_lt}
use Rattle.std.proofs.lemmas.Option.{slice_get-map, slice_get_within, same_Some}
use Rattle.bx_check.proofs.Clauses.{get_append_left, get_append_right}
use Rattle.bx_cert.specs.declared.parts.Section.{Section}
use Rattle.bx_grid.specs.declared.ratio.Ratio.{Ratio}
use Rattle.bx_verify.specs.Failing.{IsOff, named}

-- whether an item of a list is this ratio is decided
same-ratio : (q r : Ratio) → (q ≡ r) ⊎ (q ≡ r → ⊥)
same-ratio q r = elim (same-number q.w r.w) [
  | inr other ↦ inr (λ same. other (ap (λ (x : Ratio). x.w) same))
  | inl w ↦ elim (same-number q.h r.h) [
    | inr other ↦ inr (λ same. other (ap (λ (x : Ratio). x.h) same))
    | inl h ↦ inl (ap₂ (λ (a b : ℕ). let x : Ratio = record { w = a; h = b } in x) w h)
  ]
]
  where
    same-number : (a b : ℕ) → (a ≡ b) ⊎ (a ≡ b → ⊥)
    same-number a b = elim (cases_lt a b) [
      | inl low ↦ inr (λ same. omega (arith, low, same))
      | inr high ↦ elim (cases_lt b a) [
        | inl low ↦ inr (λ same. omega (arith, low, same))
        | inr low ↦ inl (omega (arith, high, low))
      ]
    ]

same-item : (o : Option Ratio) (r : Ratio) → (o ≡ Some r) ⊎ (o ≡ Some r → ⊥)
same-item None r = inr (λ lost. absurd (cc))
same-item (Some q) r = elim (same-ratio q r) [
  | inl same ↦ inl (ap (λ (x : Ratio). Some x) same)
  | inr other ↦ inr (λ same. other (same_Some q r same))
]

abbrev ratio_of : Section → Ratio
ratio_of s = s.ratio

module _ (sections : List Section) (r : Ratio) where
  count : length (map ratio_of sections) ≡ length sections
  count = length-map sections ratio_of

  pub name-at : (k : ℕ) (s : Section) → slice_get sections k ≡ Some s → slice_get (named sections r) k ≡ Some s.ratio
  name-at k s at =
      let low = slice_get_within sections k s at in
      let counted = count in
      get_append_left (map ratio_of sections) (r ∷ []) k (omega (arith, low, counted)) ∙ slice_get-map ratio_of sections k ∙ ap (option_map ratio_of) at

  pub name-end : slice_get (named sections r) (length sections) ≡ Some r
  name-end = let counted = count in get_append_right (map ratio_of sections) (r ∷ []) (length sections) 0 (omega (arith, counted))

  pub names-count : length (named sections r) ≡ length sections + 1
  names-count = let counted = count in length-append (map ratio_of sections) (r ∷ []) ∙ ap (λ (n : ℕ). n + 1) counted

  module _ (ratios : List Ratio) where
    pub on-at : (k : ℕ) (s : Section) → slice_get sections k ≡ Some s → slice_get ratios k ≡ Some s.ratio → ¬ IsOff ratios (named sections r) k
    on-at k s at is off = off.off (name-at k s at ∙ sym is)

    pub off-at : (k : ℕ) (s : Section) → slice_get sections k ≡ Some s → ¬ (slice_get ratios k ≡ Some s.ratio) → IsOff ratios (named sections r) k
    off-at k s at isnt =
        let low = slice_get_within sections k s at in
        let all = names-count in
        record { within = omega (arith, low, all); off = λ same. isnt (sym same ∙ name-at k s at) }

    pub on-end : slice_get ratios (length sections) ≡ Some r → ¬ IsOff ratios (named sections r) (length sections)
    on-end is off = off.off (name-end ∙ sym is)

    pub off-end : ¬ (slice_get ratios (length sections) ≡ Some r) → IsOff ratios (named sections r) (length sections)
    off-end isnt = let all = names-count in record { within = omega (arith, all); off = λ same. isnt (sym same ∙ name-end) }

    -- none is off where none of the sections' is, and the last one isn't
    pub none-off : (k : ℕ) → length sections ≤ k → ((j : ℕ) → j < k → ¬ IsOff ratios (named sections r) j) → ¬ IsOff ratios (named sections r) (length sections)
        → (n : ℕ) → ¬ IsOff ratios (named sections r) n
    none-off k past before last n off = elim (cases_lt n (length sections)) [
      | inl low ↦ before n (omega (arith, low, past)) off
      | inr high ↦
          let within = off.within in
          let all = names-count in
          let same : n ≡ length sections = omega (arith, within, all, high) in
          last (subst (λ (m : ℕ). IsOff ratios (named sections r) m) same off)
    ]

    -- where none is off, each section is of the ratio that the order has there, and the found one stands behind them
    module _ (none : (n : ℕ) → ¬ IsOff ratios (named sections r) n) where
      settled : (k : ℕ) (q : Ratio) → (¬ (slice_get ratios k ≡ Some q) → IsOff ratios (named sections r) k) → slice_get ratios k ≡ Some q
      settled k q off = elim (same-item (slice_get ratios k) q) [
        | inl same ↦ same
        | inr other ↦ absurd (none k (off other))
      ]

      pub each-is : (k : ℕ) (s : Section) → slice_get sections k ≡ Some s → slice_get ratios k ≡ Some s.ratio
      each-is k s at = settled k s.ratio (off-at k s at)

      pub end-is : slice_get ratios (length sections) ≡ Some r
      end-is = settled (length sections) r off-end
