-- Tests that answer true exactly where something holds, and what a place says.
use Rattle.std.proofs.Common.{◌≡◌, ◌↔◌, ℕ, zero, suc, ◌+◌, ◌*◌, ◌/◌, ◌<◌, ◌≤◌, Bool, true, false, List, [], ◌∷◌, ◌++◌, length, inl, inr, get_or, slice_get, Option, Some, None, refl, sym, ap, ◌∙◌, subst, arith}
use Rattle.std.specs.Prelude.{IsTrue, IsNone, IfSome, option_map}
use Rattle.std.proofs.lemmas.Bool.{cases_lt}
use Rattle.std.proofs.lemmas.List.{get_or_append_left, get_or-append-add}
use Rattle.std.proofs.lemmas.Option.{get_or_from_slice_get, slice_get-get_or}
use Rattle.bx_forms.specs.declared.side.Side.{Side}
use Rattle.bx_forms.specs.declared.side.Side.TheVariants.{Left, Right}
use Rattle.bx_forms.specs.Sides.{opposite}
use Rattle.bx_grid.specs.declared.ratio.Ratio.{Ratio}
use Rattle.bx_grid.specs.Tiles.{IsTile, above, border, entering}
use Rattle.bx_grid.proofs.Neighbours.{above-less}
use Rattle.bx_network.specs.Networks.{Network}
use Rattle.bx_layout.specs.declared.layout.Layout.{Layout}
use Rattle.bx_layout.specs.Layouts.{Stands}
use Rattle.bx_layout.specs.Legal.{IsAlone}

pub refuted : {Q : Type 0} → (Q → ⊥) → IsTrue false ↔ Q
refuted h = ((λ e. absurd (cc)), (λ q. absurd (h q)))

pub confirmed : {Q : Type 0} → Q → IsTrue true ↔ Q
confirmed q = ((λ e. q), (λ q. refl))

pub denied : (b : Bool) (Q : Type 0) → (IsTrue b ↔ Q) → b ≡ false → Q → ⊥
denied b Q both e q = let t = both.1 q in cc

-- a test of both sides
pub both-sides : (P : Side → Type 0) (b : Bool) → P Left → (IsTrue b ↔ P Right) → IsTrue b ↔ ((side : Side) → P side)
both-sides P b l right = (forth, (λ all. right.1 (all Right)))
  where
    forth : IsTrue b → (side : Side) → P side
    forth t Left = l
    forth t Right = right.0 t

pub left-fails : (P : Side → Type 0) (b : Bool) → b ≡ false → (IsTrue b ↔ P Left) → IsTrue b ↔ ((side : Side) → P side)
left-fails P b e left = ((λ t. absurd (cc)), (λ all. left.1 (all Left)))

-- what is found, where there is one at most
pub found-only : (r : Option ℕ) (P : ℕ → Type 0) → IfSome r P → (IsNone r → (n : ℕ) → P n → ⊥) → ((m n : ℕ) → P m → P n → m ≡ n) → (n : ℕ) → (r ≡ Some n) ↔ P n
found-only None P some none one n = ((λ e. absurd (cc)), (λ p. absurd (none refl n p)))
found-only (Some m) P some none one n = ((λ e. subst P (let same : m ≡ n = cc in same) some), (λ p. ap Some (one m n some p)))

-- what stands in the list of places
pub stands-at : (L : Layout) (places : List ℕ) (v : ℕ) → places ≡ L.places → v < length places → Stands L v (get_or places v 0)
stands-at L places v same l = sym (ap (λ (ps : List ℕ). slice_get ps v) same) ∙ slice_get-get_or places v 0 l

pub alone-at : (N : Network) (L : Layout) (places : List ℕ) (v t : ℕ) → places ≡ L.places → IsAlone N L v (get_or places v 0) → Stands L v t → IsAlone N L v t
alone-at N L places v t same alone stands =
    subst (IsAlone N L v) (ap (λ (ps : List ℕ). get_or ps v 0) same ∙ get_or_from_slice_get L.places v t 0 stands) alone

-- half of a border is its tile, and the tile from which something enters has a lower number
pub entering-tile : (r : Ratio) (t b : ℕ) (side : Side) → IsTile r t → entering r t side ≡ Some b → IsTile r (b / 2)
entering-tile r t b side inside h = at (above r t side) (λ u e. above-less r t u side e) h
  where
    half : (u : ℕ) (s : Side) → border u s / 2 ≡ u
    half u Left = omega arith
    half u Right = omega arith

    at : (o : Option ℕ) → ((u : ℕ) → o ≡ Some u → u < t) → option_map (λ u. border u (opposite side)) o ≡ Some b → IsTile r (b / 2)
    at None less e = absurd (cc)
    at (Some u) less e =
        let same : border u (opposite side) ≡ b = cc in
        let tile : b / 2 ≡ u = ap (λ n. n / 2) (sym same) ∙ half u (opposite side) in
        let l = less u refl in
        omega arith

-- what is asked of all that have something, where one has it or none
pub none-asked : (P A : ℕ → Type 0) → ((n : ℕ) → (None ≡ Some n) ↔ P n) → IsTrue true ↔ ((n : ℕ) → P n → A n)
none-asked P A found = confirmed (λ n p. let e = (found n).1 p in absurd (cc))

pub one-asked : (P A : ℕ → Type 0) (m : ℕ) (b : Bool) → ((n : ℕ) → (Some m ≡ Some n) ↔ P n) → (IsTrue b ↔ A m) → IsTrue b ↔ ((n : ℕ) → P n → A n)
one-asked P A m b found asked = ((λ t n p. subst A (let e = (found n).1 p in let same : m ≡ n = cc in same) (asked.0 t)), (λ all. asked.1 (all m ((found m).0 refl))))

-- one more at the end of a list
pub pushed : (P : ℕ → Option ℕ → Type 0) (xs new : List (Option ℕ)) (x : Option ℕ) (n : ℕ) → new ≡ xs ++ x ∷ [] → length xs ≡ n →
    ((t : ℕ) → t < n → P t (get_or xs t None)) → P n x → (t : ℕ) → t < n + 1 → P t (get_or new t None)
pushed P xs new x n e whole before here t h = elim (cases_lt t n) [
  | inl less ↦ subst (P t) (sym (ap (λ (ys : List (Option ℕ)). get_or ys t None) e ∙ get_or_append_left xs (x ∷ []) None t (omega arith))) (before t less)
  | inr ge ↦
      let same : n ≡ t = omega arith in
      let place : t ≡ length xs + 0 = omega arith in
      let found : get_or new t None ≡ x = ap (λ (ys : List (Option ℕ)). get_or ys t None) e ∙ ap (λ j. get_or (xs ++ x ∷ []) j None) place ∙ get_or-append-add xs (x ∷ []) 0 None in
      subst (P t) (sym found) (subst (λ (u : ℕ). P u x) same here)
]

pub some-tile : (w h : ℕ) → 1 ≤ w → 1 ≤ h → 1 ≤ w * h
some-tile zero h a b = absurd (omega arith)
some-tile (suc w) h a b = omega arith
