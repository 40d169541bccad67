-- Counting is decidable: each inequality holds or doesn't, so there is a first count proof or none.
use Rattle.std.proofs.Common.{◌≡◌, ◌⊎◌, ◌↔◌, ℕ, zero, suc, ◌+◌, ◌-◌, ◌*◌, ◌<◌, ◌≤◌, length, Option, Some, None, inl, inr, refl, sym, ap, ◌∙◌, subst, arith}
use Rattle.std.specs.List.{slice_get}
use Rattle.std.proofs.lemmas.Bool.{cases_lt, cases_eq}
use Rattle.bx_forms.specs.declared.kind.Kind.{Kind}
use Rattle.bx_forms.specs.declared.kind.Kind.TheVariants.{Input, Output, Not, Fan, And, Or, Nand, Nor, Xor, Xnor}
use Rattle.bx_grid.specs.declared.ratio.Ratio.{Ratio}
use Rattle.bx_grid.specs.declared.count.CountProof.{CountProof}
use Rattle.bx_grid.specs.declared.count.CountProof.TheVariants.{Late, Crowd, Cut, Pair}
use Rattle.bx_network.specs.declared.node.Edge.{Edge}
use Rattle.bx_network.specs.Networks.{Network, IsNetwork}
use Rattle.bx_network.specs.Windows.{EarliestFrom, LatestTo}
use Rattle.bx_network.proofs.Lists.{got-within, got-at}
use Rattle.bx_network.proofs.Longest.{at}
use Rattle.bx_network.proofs.Downs.{all_downs, all_ups, downs-are, ups-are, down_is_one, up_is_one}
use Rattle.bx_network.proofs.Networks.{kind-at, kind-within, kind-once}
use Rattle.bx_grid.proofs.Decided.{Decided, both, either, same, less, at-most, find}
use Rattle.bx_bounds.specs.Ancestors.{IsAncestor, IsAtOrAbove}
use Rattle.bx_bounds.specs.Numbers.{IsCount, AreMoreThan, IsBelow, IsLeast}
use Rattle.bx_bounds.specs.Precedes.{IsFirst}
use Rattle.bx_bounds.specs.Refutes.{IsLate, IsKeptTo, IsCutAt, PassesBelow, borders_between, Refutes}
use Rattle.bx_bounds.specs.Windows.{IsEarliestFrom, IsLatestTo}
use Rattle.bx_bounds.proofs.Chains.{IsBelowBy, below-none, below-all, below-more}
use Rattle.bx_bounds.proofs.Firsts.{OfKind, NoneBelow, late-first, late-none, crowd-first, crowd-none, cut-first, cut-none, pair-first, pair-none, none-below, none-more, first-then, first-last}
use Rattle.bx_bounds.proofs.Pigeons.{more-than}
use Rattle.bx_bounds.proofs.Tallied.{count-none, count-yes, count-no, count-whole}

three : (P Q R : Type 0) → Decided P → Decided Q → Decided R → Decided (P × Q × R)
three P Q R p q r = same (P × (Q × R)) (P × Q × R) ((λ h. (h.0, h.1.0, h.1.1)), (λ h. (h.0, (h.1, h.2)))) (both _ _ p (both _ _ q r))

-- ---- counts of a sort that is decided

counted : (P : ℕ → Type 0) → ((m : ℕ) → Decided (P m)) → (n : ℕ) → (c : ℕ) × IsCount (IsBelow n P) c
counted P dec zero = (0, count-none P)
counted P dec (suc n) =
    let (c, count) = counted P dec n in
    let next : n + 1 ≡ suc n = omega arith in
    elim (dec n) [
      | inl p ↦ (c + 1, subst (λ (i : ℕ). IsCount (IsBelow i P) (c + 1)) next (count-yes P n c p count))
      | inr never ↦ (c, subst (λ (i : ℕ). IsCount (IsBelow i P) c) next (count-no P n c never count))
    ]

more : (P : ℕ → Type 0) → ((m : ℕ) → Decided (P m)) → (n most : ℕ) → ((m : ℕ) → P m → m < n) → Decided (AreMoreThan most P)
more P dec n most low =
    let (c, count) = counted P dec n in
    let whole = count-whole P n c low count in
    elim (cases_lt most c) [
      | inl over ↦ inl (c, whole, over)
      | inr few ↦ inr (λ over. let high = more-than P c most whole over in omega arith)
    ]

-- of pairs the first, by its first number and then by its second
abbrev HasLeast : (ℕ → ℕ → Type 0) → ℕ → Type 0
HasLeast R a = (b : ℕ) × IsLeast (R a) (Some b)

module _ (R : ℕ → ℕ → Type 0) (dec : (a b : ℕ) → Decided (R a b)) (n : ℕ) (low : (a b : ℕ) → R a b → (a < n) × (b < n)) where
  has-least : (a b : ℕ) → R a b → HasLeast R a
  has-least a b h = elim (find (R a) (dec a) n) [
    | inl (c, p, before) ↦ (c, (p, before))
    | inr none ↦ absurd (none b (low a b h).1 h)
  ]

  least-decided : (a : ℕ) → Decided (HasLeast R a)
  least-decided a = elim (find (R a) (dec a) n) [
    | inl (c, p, before) ↦ inl (c, (p, before))
    | inr none ↦ inr (λ (b, least). none b (low a b least.0).1 least.0)
  ]

  find-two : ((a : ℕ) × HasLeast R a × ((x y : ℕ) → x < a → R x y → ⊥)) ⊎ ((a b : ℕ) → R a b → ⊥)
  find-two = elim (find (HasLeast R) least-decided n) [
    | inl (a, least, before) ↦ inl (a, least, λ x y lower h. before x lower (has-least x y h))
    | inr none ↦ inr (λ a b h. none a (low a b h).0 (has-least a b h))
  ]

-- ---- the inequalities of a network

earliest : (kind : Kind) (down height row : ℕ) → Decided (EarliestFrom kind down height row)
earliest Input down height row = at-most row 0
earliest Output down height row = less row height
earliest Not down height row = at-most row down
earliest Fan down height row = at-most row down
earliest And down height row = at-most row down
earliest Or down height row = at-most row down
earliest Nand down height row = at-most row down
earliest Nor down height row = at-most row down
earliest Xor down height row = at-most row down
earliest Xnor down height row = at-most row down

latest : (kind : Kind) (up height row : ℕ) → Decided (LatestTo kind up height row)
latest Input up height row = at-most 0 row
latest Output up height row = at-most height (row + 1)
latest Not up height row = at-most height (row + up + 1)
latest Fan up height row = at-most height (row + up + 1)
latest And up height row = at-most height (row + up + 1)
latest Or up height row = at-most height (row + up + 1)
latest Nand up height row = at-most height (row + up + 1)
latest Nor up height row = at-most height (row + up + 1)
latest Xor up height row = at-most height (row + up + 1)
latest Xnor up height row = at-most height (row + up + 1)

same-edge : (one other : Edge) → Some one ≡ Some other → one ≡ other
same-edge one other e = cc

module _ (N : Network) (net : IsNetwork N) where
  is-earliest : (v row height : ℕ) → Decided (IsEarliestFrom N v row height)
  is-earliest v row height = elim (cases_lt v (length N.nodes)) [
    | inr out ↦ inr (λ h. let low = kind-within N v h.kind h.is_kind in omega arith)
    | inl low ↦ (
        let (kind, has) = kind-at N v low in
        let down = at (all_downs N) v in
        let is_down = downs-are N net v low in
        same (EarliestFrom kind down height row) (IsEarliestFrom N v row height) (
          (λ from. record { kind = kind; is_kind = has; down = down; is_down = is_down; from = from }),
          (λ h.
              subst (λ (k : Kind). EarliestFrom k down height row) (kind-once N v h.kind kind h.is_kind has)
              (subst (λ (d : ℕ). EarliestFrom h.kind d height row) (down_is_one N v h.down down h.is_down is_down) h.from)),
        ) (earliest kind down height row))
  ]

  is-latest : (v row height : ℕ) → Decided (IsLatestTo N v row height)
  is-latest v row height = elim (cases_lt v (length N.nodes)) [
    | inr out ↦ inr (λ h. let low = kind-within N v h.kind h.is_kind in omega arith)
    | inl low ↦ (
        let (kind, has) = kind-at N v low in
        let up = at (all_ups N) v in
        let is_up = ups-are N net v low in
        same (LatestTo kind up height row) (IsLatestTo N v row height) (
          (λ to. record { kind = kind; is_kind = has; up = up; is_up = is_up; to = to }),
          (λ h.
              subst (λ (k : Kind). LatestTo k up height row) (kind-once N v h.kind kind h.is_kind has)
              (subst (λ (u : ℕ). LatestTo h.kind u height row) (up_is_one N v h.up up h.is_up is_up) h.to)),
        ) (latest kind up height row))
  ]

  is-late : (height v : ℕ) → Decided (IsLate N height v)
  is-late height v = elim (cases_lt v (length N.nodes)) [
    | inr out ↦ inr (λ h. let low = h.within in omega arith)
    | inl low ↦ (
        let down = at (all_downs N) v in
        let up = at (all_ups N) v in
        let is_down = downs-are N net v low in
        let is_up = ups-are N net v low in
        same (height ≤ down + up) (IsLate N height v) (
          (λ long. record { within = low; down = down; is_down = is_down; up = up; is_up = is_up; long = long }),
          (λ h. let a = down_is_one N v h.down down h.is_down is_down in let b = up_is_one N v h.up up h.is_up is_up in let long = h.long in omega arith),
        ) (at-most height (down + up)))
  ]

  is-kept : (height first last v : ℕ) → Decided (IsKeptTo N height first last v)
  is-kept height first last v =
      same (IsEarliestFrom N v first height × IsLatestTo N v last height) (IsKeptTo N height first last v)
      ((λ h. record { earliest = h.0; latest = h.1 }), (λ h. (h.earliest, h.latest)))
      (both _ _ (is-earliest v first height) (is-latest v last height))

  kept-within : (height first last v : ℕ) → IsKeptTo N height first last v → v < length N.nodes
  kept-within height first last v h = kind-within N v h.earliest.kind h.earliest.is_kind

  is-cut : (height row e : ℕ) → Decided (IsCutAt N height row e)
  is-cut height row e = elim (cases_lt e (length N.edges)) [
    | inr out ↦ inr (λ h. let low = got-within N.edges e h.edge h.is in omega arith)
    | inl low ↦ (
        let found = got-at N.edges e low in
        same (IsLatestTo N found.item.source row height × IsEarliestFrom N found.item.target (row + 1) height) (IsCutAt N height row e) (
          (λ h. record { edge = found.item; is = found.at; above = h.0; below = h.1 }),
          (λ h.
              let own = same-edge h.edge found.item (sym h.is ∙ found.at) in (
                subst (λ (d : Edge). IsLatestTo N d.source row height) own h.above,
                subst (λ (d : Edge). IsEarliestFrom N d.target (row + 1) height) own h.below,
              )),
        ) (both _ _ (is-latest found.item.source row height) (is-earliest found.item.target (row + 1) height)))
  ]

  is-below-by : (j k : ℕ) → k + j ≡ length N.edges → (u t : ℕ) → Decided (IsBelowBy N.edges k u t)
  is-below-by zero k e u t = inr (below-none N.edges k u t (omega arith))
  is-below-by (suc j) k e u t =
      let found = got-at N.edges k (omega arith) in
      let says = below-more N net k found.item found.at u t in
      let later = is-below-by j (k + 1) (omega arith) in
      same (IsBelowBy N.edges (k + 1) u t ⊎ ((u ≡ found.item.source) × ((t ≡ found.item.target) ⊎ IsBelowBy N.edges (k + 1) found.item.target t))) (IsBelowBy N.edges k u t)
      (says.1, says.0)
      (either _ _ (later u t) (both _ _ (cases_eq u found.item.source) (either _ _ (cases_eq t found.item.target) (later found.item.target t))))

  is-ancestor : (u t : ℕ) → Decided (IsAncestor N.edges u t)
  is-ancestor u t = same (IsBelowBy N.edges 0 u t) (IsAncestor N.edges u t) (below-all N.edges u t) (is-below-by (length N.edges) 0 (omega arith) u t)

  is-at-or-above : (u t : ℕ) → Decided (IsAtOrAbove N.edges u t)
  is-at-or-above u t = either (u ≡ t) (IsAncestor N.edges u t) (cases_eq u t) (is-ancestor u t)

  passes-below : (u v e : ℕ) → Decided (PassesBelow N u v e)
  passes-below u v e = elim (cases_lt e (length N.edges)) [
    | inr out ↦ inr (λ h. let low = got-within N.edges e h.edge h.is in omega arith)
    | inl low ↦ (
        let found = got-at N.edges e low in
        same ((IsAtOrAbove N.edges found.item.source u ⊎ IsAtOrAbove N.edges found.item.source v) × (IsAncestor N.edges u found.item.target × IsAncestor N.edges v found.item.target)) (PassesBelow N u v e) (
          (λ h. record { edge = found.item; is = found.at; source = h.0; below_one = h.1.0; below_two = h.1.1 }),
          (λ h.
              let own = same-edge h.edge found.item (sym h.is ∙ found.at) in (
                subst (λ (d : Edge). IsAtOrAbove N.edges d.source u ⊎ IsAtOrAbove N.edges d.source v) own h.source,
                (subst (λ (d : Edge). IsAncestor N.edges u d.target) own h.below_one, subst (λ (d : Edge). IsAncestor N.edges v d.target) own h.below_two),
              )),
        ) (both _ _ (either _ _ (is-at-or-above found.item.source u) (is-at-or-above found.item.source v)) (both _ _ (is-ancestor u found.item.target) (is-ancestor v found.item.target))))
  ]

  -- ---- the first of each kind

  crowds : (r : Ratio) (a b : ℕ) → Decided (Refutes N r (Crowd a b))
  crowds r a b =
      three _ _ _ (at-most a b) (less b r.h)
      (more (IsKeptTo N r.h a b) (is-kept r.h a b) (length N.nodes) (r.w * (b - a + 1)) (kept-within r.h a b))

  cuts : (r : Ratio) (row : ℕ) → Decided (Refutes N r (Cut row))
  cuts r row =
      both _ _ (less (row + 1) r.h)
      (more (IsCutAt N r.h row) (is-cut r.h row) (length N.edges) (borders_between r) (λ e h. got-within N.edges e h.edge h.is))

  pairs : (r : Ratio) (u v : ℕ) → Decided (Refutes N r (Pair u v))
  pairs r u v =
      three _ _ _ (at-most u v) (less v (length N.nodes))
      (more (PassesBelow N u v) (passes-below u v) (length N.edges) (borders_between r) (λ e h. got-within N.edges e h.edge h.is))

  first-late : (r : Ratio) → (found : Option CountProof) × IsFirst (OfKind 0 (Refutes N r)) found
  first-late r = elim (find (IsLate N r.h) (is-late r.h) (length N.nodes)) [
    | inl (v, late, before) ↦ (Some (Late v), late-first N r v late before)
    | inr none ↦ (None, late-none N r (λ v h. none v h.within h))
  ]

  first-crowd : (r : Ratio) → (found : Option CountProof) × IsFirst (OfKind 1 (Refutes N r)) found
  first-crowd r = elim (find-two (λ a b. Refutes N r (Crowd a b)) (crowds r) r.h (λ a b h. let low = h.0 in let high = h.1 in (omega arith, omega arith))) [
    | inl (a, least, before) ↦ (Some (Crowd a least.0), crowd-first N r a least.0 least.1 before)
    | inr none ↦ (None, crowd-none N r none)
  ]

  first-cut : (r : Ratio) → (found : Option CountProof) × IsFirst (OfKind 2 (Refutes N r)) found
  first-cut r = elim (find (λ row. Refutes N r (Cut row)) (cuts r) r.h) [
    | inl (row, holds, before) ↦ (Some (Cut row), cut-first N r row holds before)
    | inr none ↦ (None, cut-none N r (λ row h. let low = h.0 in none row (omega arith) h))
  ]

  first-pair : (r : Ratio) → (found : Option CountProof) × IsFirst (OfKind 3 (Refutes N r)) found
  first-pair r = elim (find-two (λ u v. Refutes N r (Pair u v)) (pairs r) (length N.nodes) (λ u v h. let low = h.0 in let high = h.1 in (omega arith, omega arith))) [
    | inl (u, least, before) ↦ (Some (Pair u least.0), pair-first N r u least.0 least.1 before)
    | inr none ↦ (None, pair-none N r none)
  ]

-- this kind's first, or none of this kind or an earlier one
through : (Holds : CountProof → Type 0) (k : ℕ) (found : Option CountProof) → IsFirst (OfKind k Holds) found → NoneBelow k Holds → ((c : CountProof) × IsFirst Holds (Some c)) ⊎ NoneBelow (k + 1) Holds
through Holds k None first below = inr (none-more Holds k below first)
through Holds k (Some c) first below = inl (c, first-then Holds k c below first)

pub first-count : (N : Network) (r : Ratio) → IsNetwork N → (found : Option CountProof) × IsFirst (Refutes N r) found
first-count N r net =
    let (a, late) = first-late N net r in
    let (b, crowd) = first-crowd N net r in
    let (c, cut) = first-cut N net r in
    let (d, pair) = first-pair N net r in
    elim (through (Refutes N r) 0 a late (none-below (Refutes N r))) [
      | inl (p, first) ↦ (Some p, first)
      | inr none ↦ elim (through (Refutes N r) 1 b crowd none) [
        | inl (p, first) ↦ (Some p, first)
        | inr fewer ↦ elim (through (Refutes N r) 2 c cut fewer) [
          | inl (p, first) ↦ (Some p, first)
          | inr rest ↦ (d, first-last (Refutes N r) d rest pair)
        ]
      ]
    ]
