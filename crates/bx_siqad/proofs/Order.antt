-- A dot may stand behind dots in order where it stands behind the last of them.
use Rattle.std.proofs.Common.{◌≡◌, ℕ, ◌-◌, ◌<◌, List, [], ◌∷◌, ◌++◌, length, get_or, slice_get, Some, sym, ◌∙◌, ap, subst, subst₂, inl, inr, arith, length-append}
use Rattle.std.proofs.Math.Seq.{get_or-append_seam}
use Rattle.std.proofs.lemmas.Bool.{cases_order}
use Rattle.std.proofs.lemmas.List.{get_or_append_left}
use Rattle.std.proofs.lemmas.List.Quantifiers.{all_pairs_push}
use Rattle.std.proofs.lemmas.Option.{get_or_from_slice_get, slice_get_within}
use Rattle.bx_library.specs.declared.dot.Dot.{Dot}
use Rattle.bx_library.specs.Dots.{IsBefore, IsAscending}
use Rattle.bx_library.proofs.DotOrder.{before_goes_on}

module _ (ds : List Dot) (last x : Dot) (is : Some last ≡ slice_get ds (length ds - 1)) where
  within : length ds - 1 < length ds
  within = slice_get_within ds (length ds - 1) last (sym is)

  last_is : (d : Dot) → get_or ds (length ds - 1) d ≡ last
  last_is d = get_or_from_slice_get ds (length ds - 1) last d (sym is)

  pub follows_last : IsAscending ds → IsBefore last x → IsAscending (ds ++ x ∷ [])
  follows_last ascending before = all_pairs_push IsBefore ds x ascending each where
    each : (k : ℕ) (d : Dot) → k < length ds → IsBefore (get_or ds k d) x
    each k d lt =
        elim (cases_order k (length ds - 1)) [
          | inl same ↦ subst (λ y. IsBefore y x) (sym (ap (λ i. get_or ds i d) same ∙ last_is d)) before
          | inr other ↦ elim other [
            | inl less ↦ before_goes_on (get_or ds k d) last x (subst (λ y. IsBefore (get_or ds k d) y) (last_is d) (ascending k (length ds - 1) d less within)) before
            | inr more ↦ absurd (omega (arith, lt, more))
          ]
        ]

  pub last_follows : IsAscending (ds ++ x ∷ []) → IsBefore last x
  last_follows ascending =
      subst₂ IsBefore (get_or_append_left ds (x ∷ []) x (length ds - 1) within ∙ last_is x) (get_or-append_seam ds x [] x)
      (ascending (length ds - 1) (length ds) x within (omega (arith, length-append ds (x ∷ []))))
