-- The first dot of an ascending list for which something holds.
use Rattle.std.proofs.Common.{◌≡◌, ℕ, ◌+◌, ◌<◌, ◌≤◌, ◌⊎◌, inl, inr, List, length, get_or, sym, ap, ◌∙◌, subst, arith}
use Rattle.std.proofs.lemmas.Bool.{cases_order}
use Rattle.std.proofs.lemmas.List.{get_or_default}
use Rattle.std.proofs.lemmas.List.Elements.{Contains-get_or}
use Rattle.std.specs.Prelude.{Contains}
use Rattle.bx_grid.specs.declared.ratio.Ratio.{Ratio}
use Rattle.bx_library.specs.declared.dot.Dot.{Dot}
use Rattle.bx_library.specs.Dots.{IsBefore, IsAscending}
use Rattle.bx_library.specs.Tiles.{Tiles}
use Rattle.bx_dots.specs.Places.{IsStray}
use Rattle.bx_dots.specs.Cuts.{NoneStray, IsFirstStray}

abbrev pub NoneStrayTo : Tiles → Ratio → List Dot → ℕ → Type 0
NoneStrayTo lib r dots i = (k : ℕ) (d : Dot) → k < i → IsStray lib r (get_or dots k d) → ⊥

pub none_stray_more : (lib : Tiles) (r : Ratio) (dots : List Dot) (i : ℕ) (e : Dot) → i < length dots → NoneStrayTo lib r dots i → (IsStray lib r (get_or dots i e) → ⊥) → NoneStrayTo lib r dots (i + 1)
none_stray_more lib r dots i e below before here k d h stray = elim (cases_order k i) [
  | inl same ↦ here (subst (IsStray lib r) (ap (λ j. get_or dots j d) same ∙ get_or_default dots i d e below) stray)
  | inr other ↦ elim other [
    | inl less ↦ before k d less stray
    | inr more ↦ absurd (omega arith)
  ]
]

pub none_stray_all : (lib : Tiles) (r : Ratio) (dots : List Dot) (i : ℕ) → length dots ≤ i → NoneStrayTo lib r dots i → NoneStray lib r dots
none_stray_all lib r dots i past none dot (k, below, is) stray = none k dot (omega arith) (subst (IsStray lib r) (sym is) stray)

pub first_stray : (lib : Tiles) (r : Ratio) (dots : List Dot) (i : ℕ) (e : Dot) → IsAscending dots → i < length dots → NoneStrayTo lib r dots i → IsStray lib r (get_or dots i e) → IsFirstStray lib r dots (get_or dots i e)
first_stray lib r dots i e up below before here = record {
  has = Contains-get_or dots i e below;
  stray = here;
  first = first;
}
  where
    first : (other : Dot) → Contains dots other → IsStray lib r other → (other ≡ get_or dots i e) ⊎ IsBefore (get_or dots i e) other
    first other (k, inside, is) stray = elim (cases_order k i) [
      | inl same ↦ inl (sym is ∙ ap (λ j. get_or dots j other) same ∙ get_or_default dots i other e below)
      | inr elsewhere ↦ elim elsewhere [
        | inl less ↦ absurd (before k other less (subst (IsStray lib r) (sym is) stray))
        | inr more ↦ inr (subst (IsBefore (get_or dots i e)) (get_or_default dots k e other inside ∙ is) (up i k e more inside))
      ]
    ]
