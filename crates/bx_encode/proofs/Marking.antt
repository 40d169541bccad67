-- Bits that are set one after the other: each variable has a bit of its own.
use Rattle.std.proofs.Common.{◌≡◌, ℕ, ◌+◌, ◌-◌, ◌<◌, ◌≤◌, Bool, true, false, List, length, set, replicate, Option, Some, None, inl, inr, refl, sym, ap, ◌∙◌, subst, arith, get_or-set_same, get_or-set_other, length-set}
use Rattle.std.specs.Prelude.{◌⊎◌, ◌↔◌, IsSome}
use Rattle.std.proofs.lemmas.Bool.{cases_lt, cases_eq}
use Rattle.std.proofs.lemmas.Bool.{false≢true}
use Rattle.bx_network.proofs.Lists.{got-within}
use Rattle.std.proofs.lemmas.List.{get_or-replicate, length-replicate}
use Rattle.bx_cnf.specs.Literals.{value_of}
use Rattle.bx_grid.specs.declared.ratio.Ratio.{Ratio}
use Rattle.bx_layout.specs.declared.layout.Layout.{Layout}
use Rattle.bx_layout.specs.Layouts.{Stands, edge_on}
use Rattle.bx_layout.specs.Legal.{IsPlaced}
use Rattle.bx_network.specs.Networks.{Network}
use Rattle.bx_encode.specs.declared.variable.Variable.{Variable}
use Rattle.bx_encode.specs.declared.variable.Variable.TheVariants.{NodeOn, Taken, Used, EdgeOn}
use Rattle.bx_encode.specs.Variables.{IsVariable, border_count, variable_count, number}
use Rattle.bx_encode.specs.Bits.{Holds, HoldsOf, AreBitsOf, AreBitsSoFar}
use Rattle.bx_encode.proofs.Numbering.{number-above, number-within, number-once}

-- one bit more
module _ (N : Network) (r : Ratio) (bits : List Bool) (y : Variable) (own : IsVariable N r y) (all : length bits ≡ variable_count N r) where
  within : (x : Variable) → IsVariable N r x → number N r x - 1 < length bits
  within x is = omega (arith, number-above N r x, number-within N r x is, all)

  at-own : value_of (set bits (number N r y - 1) true) (number N r y) ≡ true
  at-own = get_or-set_same bits (number N r y - 1) true false (within y own)

  at-other : (x : Variable) → IsVariable N r x → (x ≡ y → ⊥) → value_of (set bits (number N r y - 1) true) (number N r x) ≡ value_of bits (number N r x)
  at-other x is other = get_or-set_other bits (number N r y - 1) (number N r x - 1) true false
      (λ same. other (number-once N r x y is own (omega (arith, number-above N r x, number-above N r y, same))))

  same-or-not : (x : Variable) → IsVariable N r x → (x ≡ y) ⊎ (x ≡ y → ⊥)
  same-or-not x is = elim (cases_eq (number N r x) (number N r y)) [
    | inl same ↦ inl (number-once N r x y is own same)
    | inr other ↦ inr (λ e. other (ap (number N r) e))
  ]

  one-more : (x : Variable) → IsVariable N r x → (value_of (set bits (number N r y - 1) true) (number N r x) ≡ true) ↔ ((x ≡ y) ⊎ (value_of bits (number N r x) ≡ true))
  one-more x is = elim (same-or-not x is) [
    | inl same ↦ (λ h. inl same, λ h. subst (λ z. value_of (set bits (number N r y - 1) true) (number N r z) ≡ true) (sym same) at-own)
    | inr other ↦ (λ h. inr (sym (at-other x is other) ∙ h), λ h. elim h [ inl same ↦ absurd (other same) | inr before ↦ at-other x is other ∙ before ])
  ]

-- two bits more
two-more : (N : Network) (r : Ratio) (bits : List Bool) (y z : Variable) → IsVariable N r y → IsVariable N r z → length bits ≡ variable_count N r →
    (x : Variable) → IsVariable N r x → (value_of (set (set bits (number N r y - 1) true) (number N r z - 1) true) (number N r x) ≡ true) ↔ ((x ≡ z) ⊎ ((x ≡ y) ⊎ (value_of bits (number N r x) ≡ true)))
two-more N r bits y z own other all x is =
    let first = one-more N r bits y own all x is in
    let second = one-more N r (set bits (number N r y - 1) true) z other (length-set bits (number N r y - 1) true ∙ all) x is in (
      λ h. elim (second.0 h) [ inl e ↦ inl e | inr g ↦ inr (first.0 g) ],
      λ h. second.1 (elim h [ inl e ↦ inl e | inr g ↦ inr (first.1 g) ]),
    )

stands-one : (L : Layout) (v t u : ℕ) → Stands L v t → Stands L v u → t ≡ u
stands-one L v t u a b = let e : Some t ≡ Some u = sym a ∙ b in cc

edge-one : (o : Option ℕ) (e f : ℕ) → o ≡ Some e → o ≡ Some f → e ≡ f
edge-one o e f a b = let c : Some e ≡ Some f = sym a ∙ b in cc

-- what is true of one node more
place-iff : (L : Layout) (k t : ℕ) → Stands L k t → (x : Variable) → ((x ≡ Taken t) ⊎ ((x ≡ NodeOn k t) ⊎ HoldsOf L k 0 x)) ↔ HoldsOf L (k + 1) 0 x
place-iff L k t stands (NodeOn v u) = (to, from)
  where
    to : (NodeOn v u ≡ Taken t) ⊎ ((NodeOn v u ≡ NodeOn k t) ⊎ ((v < k) × Stands L v u)) → (v < k + 1) × Stands L v u
    to (inl e) = cc
    to (inr (inl e)) = let a : v ≡ k = cc in let b : u ≡ t = cc in (omega arith, subst (λ w. Stands L w u) (sym a) (subst (Stands L k) (sym b) stands))
    to (inr (inr (low, own))) = (omega arith, own)

    from : (v < k + 1) × Stands L v u → (NodeOn v u ≡ Taken t) ⊎ ((NodeOn v u ≡ NodeOn k t) ⊎ ((v < k) × Stands L v u))
    from (low, own) = elim (cases_lt v k) [
      | inl less ↦ inr (inr (less, own))
      | inr more ↦
          let a : v ≡ k = omega arith in
          let b = stands-one L k u t (subst (λ w. Stands L w u) a own) stands in
          inr (inl (ap (λ w. NodeOn w u) a ∙ ap (NodeOn k) b))
    ]
place-iff L k t stands (Taken u) = (to, from)
  where
    to : (Taken u ≡ Taken t) ⊎ ((Taken u ≡ NodeOn k t) ⊎ ((v : ℕ) × (v < k) × Stands L v u)) → (v : ℕ) × (v < k + 1) × Stands L v u
    to (inl e) = let b : u ≡ t = cc in (k, omega arith, subst (Stands L k) (sym b) stands)
    to (inr (inl e)) = cc
    to (inr (inr (v, low, own))) = (v, omega arith, own)

    from : (v : ℕ) × (v < k + 1) × Stands L v u → (Taken u ≡ Taken t) ⊎ ((Taken u ≡ NodeOn k t) ⊎ ((v : ℕ) × (v < k) × Stands L v u))
    from (v, low, own) = elim (cases_lt v k) [
      | inl less ↦ inr (inr (v, less, own))
      | inr more ↦ let a : v ≡ k = omega arith in inl (ap Taken (stands-one L k u t (subst (λ w. Stands L w u) a own) stands))
    ]
place-iff L k t stands (Used b) = (λ h. elim h [ inl e ↦ cc | inr g ↦ elim g [ inl e ↦ cc | inr own ↦ own ] ], λ own. inr (inr own))
place-iff L k t stands (EdgeOn e b) = (λ h. elim h [ inl e ↦ cc | inr g ↦ elim g [ inl e ↦ cc | inr own ↦ own ] ], λ own. inr (inr own))

pub place-marked : (N : Network) (L : Layout) (k t : ℕ) (bits : List Bool) → IsPlaced N L → k < length N.nodes → Stands L k t → AreBitsSoFar N L k 0 bits →
    AreBitsSoFar N L (k + 1) 0 (set (set bits (number N L.ratio (NodeOn k t) - 1) true) (number N L.ratio (Taken t) - 1) true)
place-marked N L k t bits placed node stands so_far = record {
  all = length-set _ _ _ ∙ length-set _ _ _ ∙ so_far.all;
  each = λ x is.
      let tile = placed.inside k t stands in
      let more = two-more N L.ratio bits (NodeOn k t) (Taken t) (node, tile) tile so_far.all x is in
      let before = so_far.each x is in
      let iff = place-iff L k t stands x in (
        λ h. iff.0 (elim (more.0 h) [ inl e ↦ inl e | inr g ↦ inr (elim g [ inl e ↦ inl e | inr own ↦ inr (before.0 own) ]) ]),
        λ h. more.1 (elim (iff.1 h) [ inl e ↦ inl e | inr g ↦ inr (elim g [ inl e ↦ inl e | inr own ↦ inr (before.1 own) ]) ]),
      );
}

-- what is true of one border more
border-iff : (L : Layout) (n b e : ℕ) → edge_on L b ≡ Some e → (x : Variable) → ((x ≡ EdgeOn e b) ⊎ ((x ≡ Used b) ⊎ HoldsOf L n b x)) ↔ HoldsOf L n (b + 1) x
border-iff L n b e carries (NodeOn v u) = (λ h. elim h [ inl e ↦ cc | inr g ↦ elim g [ inl e ↦ cc | inr own ↦ own ] ], λ own. inr (inr own))
border-iff L n b e carries (Taken u) = (λ h. elim h [ inl e ↦ cc | inr g ↦ elim g [ inl e ↦ cc | inr own ↦ own ] ], λ own. inr (inr own))
border-iff L n b e carries (Used c) = (to, from)
  where
    to : (Used c ≡ EdgeOn e b) ⊎ ((Used c ≡ Used b) ⊎ ((c < b) × IsSome (edge_on L c))) → (c < b + 1) × IsSome (edge_on L c)
    to (inl e) = cc
    to (inr (inl e)) = let same : c ≡ b = cc in (omega arith, subst (λ d. IsSome (edge_on L d)) (sym same) (subst (λ (o : Option ℕ). IsSome o) (sym carries) refl))
    to (inr (inr (low, own))) = (omega arith, own)

    from : (c < b + 1) × IsSome (edge_on L c) → (Used c ≡ EdgeOn e b) ⊎ ((Used c ≡ Used b) ⊎ ((c < b) × IsSome (edge_on L c)))
    from (low, own) = elim (cases_lt c b) [
      | inl less ↦ inr (inr (less, own))
      | inr more ↦ let same : c ≡ b = omega arith in inr (inl (ap Used same))
    ]
border-iff L n b e carries (EdgeOn f c) = (to, from)
  where
    to : (EdgeOn f c ≡ EdgeOn e b) ⊎ ((EdgeOn f c ≡ Used b) ⊎ ((c < b) × (edge_on L c ≡ Some f))) → (c < b + 1) × (edge_on L c ≡ Some f)
    to (inl q) = let same : c ≡ b = cc in let own : f ≡ e = cc in (omega arith, ap (edge_on L) same ∙ carries ∙ ap Some (sym own))
    to (inr (inl e)) = cc
    to (inr (inr (low, own))) = (omega arith, own)

    from : (c < b + 1) × (edge_on L c ≡ Some f) → (EdgeOn f c ≡ EdgeOn e b) ⊎ ((EdgeOn f c ≡ Used b) ⊎ ((c < b) × (edge_on L c ≡ Some f)))
    from (low, own) = elim (cases_lt c b) [
      | inl less ↦ inr (inr (less, own))
      | inr more ↦
          let same : c ≡ b = omega arith in
          let one = edge-one (edge_on L b) f e (ap (edge_on L) (sym same) ∙ own) carries in
          inl (ap (λ d. EdgeOn f d) same ∙ ap (λ g. EdgeOn g b) one)
    ]

pub border-marked : (N : Network) (L : Layout) (n b e : ℕ) (bits : List Bool) → IsPlaced N L → b < border_count L.ratio → edge_on L b ≡ Some e → AreBitsSoFar N L n b bits →
    AreBitsSoFar N L n (b + 1) (set (set bits (number N L.ratio (Used b) - 1) true) (number N L.ratio (EdgeOn e b) - 1) true)
border-marked N L n b e bits placed border carries so_far = record {
  all = length-set _ _ _ ∙ length-set _ _ _ ∙ so_far.all;
  each = λ x is.
      let more = two-more N L.ratio bits (Used b) (EdgeOn e b) border (placed.edges b e carries, border) so_far.all x is in
      let before = so_far.each x is in
      let iff = border-iff L n b e carries x in (
        λ h. iff.0 (elim (more.0 h) [ inl e ↦ inl e | inr g ↦ inr (elim g [ inl e ↦ inl e | inr own ↦ inr (before.0 own) ]) ]),
        λ h. more.1 (elim (iff.1 h) [ inl e ↦ inl e | inr g ↦ inr (elim g [ inl e ↦ inl e | inr own ↦ inr (before.1 own) ]) ]),
      );
}

-- a border that carries nothing
none-iff : (L : Layout) (n b : ℕ) → edge_on L b ≡ None → (x : Variable) → HoldsOf L n b x ↔ HoldsOf L n (b + 1) x
none-iff L n b none (NodeOn v u) = (λ own. own, λ own. own)
none-iff L n b none (Taken u) = (λ own. own, λ own. own)
none-iff L n b none (Used c) = (
  (λ (low, own). (omega arith, own)),
  (λ (low, own). elim (cases_lt c b) [
    | inl less ↦ (less, own)
    | inr more ↦ let same : c ≡ b = omega arith in absurd (false≢true (subst (λ (o : Option ℕ). IsSome o) none (subst (λ d. IsSome (edge_on L d)) same own)))
  ]),
)
none-iff L n b none (EdgeOn f c) = (
  (λ (low, own). (omega arith, own)),
  (λ (low, own). elim (cases_lt c b) [
    | inl less ↦ (less, own)
    | inr more ↦ let same : c ≡ b = omega arith in let e : None ≡ Some f = sym none ∙ ap (edge_on L) (sym same) ∙ own in cc
  ]),
)

pub border-passed : (N : Network) (L : Layout) (n b : ℕ) (bits : List Bool) → edge_on L b ≡ None → AreBitsSoFar N L n b bits → AreBitsSoFar N L n (b + 1) bits
border-passed N L n b bits none so_far = record {
  all = so_far.all;
  each = λ x is. let before = so_far.each x is in let iff = none-iff L n b none x in (λ h. iff.0 (before.0 h), λ h. before.1 (iff.1 h));
}

-- none is set at first, and in the end all that should be
pub none-marked : (N : Network) (L : Layout) (n : ℕ) (bits : List Bool) → n ≡ variable_count N L.ratio → bits ≡ replicate n false → AreBitsSoFar N L 0 0 bits
none-marked N L n bits count made = record {
  all = ap length made ∙ length-replicate n false ∙ count;
  each = λ x is. (λ h. absurd (false≢true (sym (unset x is) ∙ h)), λ h. absurd (nothing x h));
}
  where
    unset : (x : Variable) → IsVariable N L.ratio x → value_of bits (number N L.ratio x) ≡ false
    unset x is =
        ap (λ bs. value_of bs (number N L.ratio x)) made
        ∙ get_or-replicate n (number N L.ratio x - 1) false false (omega (arith, number-above N L.ratio x, number-within N L.ratio x is))

    nothing : (x : Variable) → HoldsOf L 0 0 x → ⊥
    nothing (NodeOn v t) (low, own) = omega arith
    nothing (Taken t) (v, low, own) = omega arith
    nothing (Used b) (low, own) = omega arith
    nothing (EdgeOn e b) (low, own) = omega arith

all-iff : (N : Network) (L : Layout) (n m : ℕ) → length L.places ≡ n → border_count L.ratio ≤ m → (x : Variable) → IsVariable N L.ratio x → HoldsOf L n m x ↔ Holds L x
all-iff N L n m whole all (NodeOn v t) is = ((λ (low, own). own), (λ own. (omega (arith, got-within L.places v t own), own)))
all-iff N L n m whole all (Taken t) is = ((λ (v, low, own). (v, own)), (λ (v, own). (v, omega (arith, got-within L.places v t own), own)))
all-iff N L n m whole all (Used b) is = ((λ (low, own). own), (λ own. (omega (arith, is), own)))
all-iff N L n m whole all (EdgeOn e b) is = ((λ (low, own). own), (λ own. (omega (arith, is.1), own)))

pub all-marked : (N : Network) (L : Layout) (n m : ℕ) (bits : List Bool) → length L.places ≡ n → border_count L.ratio ≤ m → AreBitsSoFar N L n m bits → AreBitsOf N L bits
all-marked N L n m bits whole all so_far = record {
  all = so_far.all;
  each = λ x is. let before = so_far.each x is in let iff = all-iff N L n m whole all x is in (λ h. iff.0 (before.0 h), λ h. before.1 (iff.1 h));
}
