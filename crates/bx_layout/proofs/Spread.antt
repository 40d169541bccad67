-- Two sides, and a few numbers that stand on them, each on one side.
use Rattle.std.proofs.Common.{◌≡◌, ℕ, zero, suc, ◌<◌, ◌≤◌, Bool, List, [], ◌∷◌, map, Option, Some, None, is_some, inl, inr, refl, sym, ap, ap₂, ◌∙◌, arith}
use Rattle.std.specs.List.{range_with_len}
use Rattle.bx_forms.specs.declared.side.Side.{Side}
use Rattle.bx_forms.specs.declared.side.Side.TheVariants.{Left, Right}
use Rattle.bx_forms.specs.declared.side.Sides.{Sides}
use Rattle.bx_forms.specs.Sides.{side_count, used_values}
use Rattle.bx_layout.proofs.Balances.{option-cases}

abbrev pub sides_with : Option ℕ → Option ℕ → Sides
sides_with l r = record { left = is_some l; right = is_some r }

-- on the sides stand the numbers at 0 up to below n, each on one
pub record AreSpread (n : ℕ) (at : ℕ → ℕ) (on : Side → Option ℕ) : Type 0 where
  pub few : n ≤ 2
  pub each : (o : ℕ) → o < n → (side : Side) × (on side ≡ Some (at o))
  pub only : (side : Side) (e : ℕ) → on side ≡ Some e → (o : ℕ) × (o < n) × (e ≡ at o)
  pub once : (e : ℕ) → on Left ≡ Some e → on Right ≡ Some e → ⊥
  pub different : n ≡ 2 → at 0 ≡ at 1 → ⊥

-- the ways in which they can stand
pub data Ways (at : ℕ → ℕ) (on : Side → Option ℕ) : ℕ → Type 0 where
  none : on Left ≡ None → on Right ≡ None → Ways at on 0
  left : on Left ≡ Some (at 0) → on Right ≡ None → Ways at on 1
  right : on Left ≡ None → on Right ≡ Some (at 0) → Ways at on 1
  straight : on Left ≡ Some (at 0) → on Right ≡ Some (at 1) → Ways at on 2
  crossed : on Left ≡ Some (at 1) → on Right ≡ Some (at 0) → Ways at on 2

module _ (at : ℕ → ℕ) (on : Side → Option ℕ) where
  empty : AreSpread 0 at on → (side : Side) → on side ≡ None
  empty s side = elim (option-cases (on side)) [
    | inl e ↦ e
    | inr (x, e) ↦ absurd (let found = s.only side x e in let l = found.1 in omega arith)
  ]

  first : (n : ℕ) → n ≡ 1 → AreSpread n at on → (side : Side) (x : ℕ) → on side ≡ Some x → x ≡ at 0
  first n one s side x e =
      let found = s.only side x e in
      let l = found.1 in
      let z : found.0 ≡ 0 = omega arith in
      found.2 ∙ ap at z

  -- the other side of the one that stands alone
  bare : AreSpread 1 at on → (side other : Side) → ((x : ℕ) → on side ≡ Some x → on other ≡ Some x → ⊥) → on side ≡ Some (at 0) → on other ≡ None
  bare s side other apart e = elim (option-cases (on other)) [
    | inl e ↦ e
    | inr (x, f) ↦ absurd (apart (at 0) e (f ∙ ap Some (first 1 refl s other x f)))
  ]

  one-way : AreSpread 1 at on → Ways at on 1
  one-way s = placed (s.each 0 (omega arith))
    where
      placed : (side : Side) × (on side ≡ Some (at 0)) → Ways at on 1
      placed (Left, e) = left e (bare s Left Right s.once e)
      placed (Right, e) = right (bare s Right Left (λ x p q. s.once x q p) e) e

  two-ways : AreSpread 2 at on → Ways at on 2
  two-ways s = placed (s.each 0 (omega arith)) (s.each 1 (omega arith))
    where
      clash : (side : Side) → on side ≡ Some (at 0) → on side ≡ Some (at 1) → ⊥
      clash side e f = s.different refl (let both : Some (at 0) ≡ Some (at 1) = sym e ∙ f in cc)

      placed : (side : Side) × (on side ≡ Some (at 0)) → (side : Side) × (on side ≡ Some (at 1)) → Ways at on 2
      placed (Left, e) (Left, f) = absurd (clash Left e f)
      placed (Left, e) (Right, f) = straight e f
      placed (Right, e) (Left, f) = crossed f e
      placed (Right, e) (Right, f) = absurd (clash Right e f)

  pub ways : (n : ℕ) → AreSpread n at on → Ways at on n
  ways zero s = none (empty s Left) (empty s Right)
  ways (suc zero) s = one-way s
  ways (suc (suc zero)) s = two-ways s
  ways (suc (suc (suc n))) s = absurd (let few = s.few in omega arith)

  -- so many sides are used
  pub spread-count : (n : ℕ) → Ways at on n → side_count (sides_with (on Left) (on Right)) ≡ n
  spread-count _ (none l r) = ap₂ (λ a b. side_count (sides_with a b)) l r
  spread-count _ (left l r) = ap₂ (λ a b. side_count (sides_with a b)) l r
  spread-count _ (right l r) = ap₂ (λ a b. side_count (sides_with a b)) l r
  spread-count _ (straight l r) = ap₂ (λ a b. side_count (sides_with a b)) l r
  spread-count _ (crossed l r) = ap₂ (λ a b. side_count (sides_with a b)) l r

  -- what is read from left to right is what is read by number, or both values exchanged
  pub spread-values : (f : List Bool → Bool) (value : Option ℕ → Bool) (of : ℕ → Bool) → ((e : ℕ) → value (Some e) ≡ of e) →
      (n : ℕ) → (n ≡ 2 → (a b : Bool) → f (a ∷ b ∷ []) ≡ f (b ∷ a ∷ [])) → Ways at on n →
      f (used_values (sides_with (on Left) (on Right)) (value (on Left)) (value (on Right))) ≡ f (map (λ o. of (at o)) (range_with_len 0 n))
  spread-values f value of known _ exchange (none l r) = ap₂ (λ a b. f (used_values (sides_with a b) (value a) (value b))) l r
  spread-values f value of known _ exchange (left l r) =
      ap₂ (λ a b. f (used_values (sides_with a b) (value a) (value b))) l r ∙ ap (λ (x : Bool). f (x ∷ [])) (known (at 0))
  spread-values f value of known _ exchange (right l r) =
      ap₂ (λ a b. f (used_values (sides_with a b) (value a) (value b))) l r ∙ ap (λ (x : Bool). f (x ∷ [])) (known (at 0))
  spread-values f value of known _ exchange (straight l r) =
      ap₂ (λ a b. f (used_values (sides_with a b) (value a) (value b))) l r ∙ ap₂ (λ (x y : Bool). f (x ∷ y ∷ [])) (known (at 0)) (known (at 1))
  spread-values f value of known _ exchange (crossed l r) =
      ap₂ (λ a b. f (used_values (sides_with a b) (value a) (value b))) l r
      ∙ ap₂ (λ (x y : Bool). f (x ∷ y ∷ [])) (known (at 1)) (known (at 0))
      ∙ exchange refl (of (at 1)) (of (at 0))
