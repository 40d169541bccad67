-- The tree that serves consumers, made of the trees of their halves.
use Rattle.std.proofs.Common.{◌≡◌, ℕ, zero, suc, ◌+◌, ◌-◌, ◌/◌, ◌%◌, ◌^◌, ◌<◌, ◌≤◌, min, List, [], ◌∷◌, ◌++◌, length, take, drop, get_or, refl, sym, ◌∙◌, ap, ap₂, subst, arith, inl, inr, length-drop}
use Rattle.std.specs.List.{AllByRecursion}
use Rattle.std.proofs.Math.Nat.{pow-suc}
use Rattle.std.proofs.lemmas.Bool.{cases_lt, lt-ltb, le-ltb}
use Rattle.std.proofs.lemmas.List.{get_or_default, append_assoc, append-nil, length-take, take-append-drop}
use Rattle.bx_network.specs.declared.node.Edge.{Edge}
use Rattle.bx_logic.proofs.Lists.{all-first, all-second}
use Rattle.bx_map.specs.declared.cell.Target.{Target}
use Rattle.bx_map.specs.declared.consumer.Consumer.{Consumer}
use Rattle.bx_map.specs.declared.consumer.Consumer.TheVariants.{Output}
use Rattle.bx_map.specs.Cells.{CellNet}
use Rattle.bx_map.specs.FanOuts.{FanOut, direct, fan, half, tree_within, tree_of}
use Rattle.bx_map.specs.Numbers.{edge_to, fans, place, entry, fan_edges}
use Rattle.bx_map.proofs.Numbering.{fans-leaves, leaves-tree_within}

fuel-same : (k m : ℕ) (cs : List Consumer) → length cs ≤ suc k → length cs ≤ suc m → tree_within k cs ≡ tree_within m cs
unfolding tree_within
fuel-same zero zero cs a b = refl
fuel-same zero (suc m) cs a b = rw (le-ltb 1 (length cs) (omega arith)) refl
fuel-same (suc k) zero cs a b = rw (le-ltb 1 (length cs) (omega arith)) refl
fuel-same (suc k) (suc m) cs a b =
    elim (cases_lt 1 (length cs)) [
      | inr few ↦ rw (le-ltb 1 (length cs) few) refl
      | inl more ↦
          let x : length (take (half (length cs)) cs) ≡ half (length cs) = length-take (half (length cs)) cs ∙ omega arith in
          let y = length-drop (half (length cs)) cs in
          rw (lt-ltb 1 (length cs) more)
          (ap₂ fan (fuel-same k m (take (half (length cs)) cs) (omega (arith, x)) (omega (arith, x))) (fuel-same k m (drop (half (length cs)) cs) (omega (arith, y)) (omega (arith, y))))
    ]

tree-step : (k : ℕ) (cs : List Consumer) → length cs ≡ suc k → 1 < length cs → tree_of cs ≡ fan (tree_of (take (half (length cs)) cs)) (tree_of (drop (half (length cs)) cs))
unfolding tree_within
tree-step k cs e more =
    let x : length (take (half (length cs)) cs) ≡ half (length cs) = length-take (half (length cs)) cs ∙ omega arith in
    let y = length-drop (half (length cs)) cs in
    let step : tree_within (suc k) cs ≡ fan (tree_within k (take (half (length cs)) cs)) (tree_within k (drop (half (length cs)) cs)) = rw (lt-ltb 1 (length cs) more) refl in
    ap (λ (n : ℕ). tree_within n cs) e
    ∙ (step
    ∙ ap₂ fan
    (fuel-same k (length (take (half (length cs)) cs)) (take (half (length cs)) cs) (omega (arith, x)) (omega arith))
    (fuel-same k (length (drop (half (length cs)) cs)) (drop (half (length cs)) cs) (omega (arith, y)) (omega arith)))

pub tree-many : (cs : List Consumer) → 1 < length cs → tree_of cs ≡ fan (tree_of (take (half (length cs)) cs)) (tree_of (drop (half (length cs)) cs))
tree-many [] more = absurd (omega arith)
tree-many (c ∷ cs) more = tree-step (length cs) (c ∷ cs) refl more

pub tree-one : (cs : List Consumer) → length cs ≡ 1 → tree_of cs ≡ direct (get_or cs 0 (Output 0))
unfolding tree_within
tree-one [] e = absurd (omega arith)
tree-one (c ∷ []) e = refl
tree-one (c ∷ d ∷ cs) e = absurd (omega arith)

tree-fans : (cs : List Consumer) → 0 < length cs → length (fans (tree_of cs)) + 1 ≡ length cs
tree-fans cs l = fans-leaves (tree_of cs) ∙ ap length (leaves-tree_within (length cs) cs l (omega arith))

pub entry-one : (net : CellNet) (v : ℕ) (cs : List Consumer) (d : Consumer) (target : Target) → length cs ≡ 1 → target ≡ place net (get_or cs 0 d) → target ≡ entry net v (tree_of cs)
entry-one net v cs d target e at = at ∙ (ap (place net) (get_or_default cs 0 d (Output 0) (omega arith)) ∙ sym (ap (entry net v) (tree-one cs e)))

pub entry-many : (net : CellNet) (v : ℕ) (cs : List Consumer) → 1 < length cs → record { node = v; operand = 0 } ≡ entry net v (tree_of cs)
entry-many net v cs more = sym (ap (entry net v) (tree-many cs more))

no-fan_edges : (net : CellNet) (v : ℕ) (c : Consumer) (es : List Edge) → es ++ fan_edges net v (direct c) ≡ es
unfolding fan_edges
no-fan_edges net v c es = append-nil es

pub fan_edges-one : (net : CellNet) (v : ℕ) (cs : List Consumer) (es : List Edge) → length cs ≡ 1 → es ≡ es ++ fan_edges net v (tree_of cs)
fan_edges-one net v cs es e = sym (ap (λ (t : FanOut). es ++ fan_edges net v t) (tree-one cs e) ∙ no-fan_edges net v (get_or cs 0 (Output 0)) es)

fan_edges-fan : (net : CellNet) (v w : ℕ) (first second : FanOut) → suc v + length (fans first) ≡ w →
    fan_edges net v (fan first second) ≡ edge_to v 0 (entry net (suc v) first) ∷ edge_to v 1 (entry net w second) ∷ (fan_edges net (suc v) first ++ fan_edges net w second)
unfolding fan_edges
fan_edges-fan net v w first second e =
    ap (λ (x : ℕ). edge_to v 0 (entry net (suc v) first) ∷ edge_to v 1 (entry net x second) ∷ (fan_edges net (suc v) first ++ fan_edges net x second)) e

-- the halves of these consumers
pub record AreHalves (cs first second : List Consumer) : Type 0 where
  pub first_is : first ≡ take (half (length cs)) cs
  pub second_is : second ≡ drop (half (length cs)) cs
  pub first_many : length first ≡ half (length cs)
  pub second_many : length second + half (length cs) ≡ length cs

pub halves : (cs first second : List Consumer) (m : ℕ) → m ≡ length cs / 2 + min 1 (length cs % 2) → first ≡ take m cs → second ≡ drop m cs → AreHalves cs first second
halves cs first second m e f g =
    let h : m ≡ half (length cs) = omega arith in
    let x : length (take (half (length cs)) cs) ≡ half (length cs) = length-take (half (length cs)) cs ∙ omega arith in
    let y = length-drop (half (length cs)) cs in
    record {
      first_is = f ∙ ap (λ (k : ℕ). take k cs) h;
      second_is = g ∙ ap (λ (k : ℕ). drop k cs) h;
      first_many = ap length (f ∙ ap (λ (k : ℕ). take k cs) h) ∙ x;
      second_many = let z = ap length (g ∙ ap (λ (k : ℕ). drop k cs) h) in omega (arith, y, z);
    }

pub halves-own : (P : Consumer → Type 0) (cs first second : List Consumer) → AreHalves cs first second → AllByRecursion P cs → AllByRecursion P first × AllByRecursion P second
halves-own P cs first second h all =
    let whole : AllByRecursion P (take (half (length cs)) cs ++ drop (half (length cs)) cs) = subst (AllByRecursion P) (sym (take-append-drop (half (length cs)) cs)) all in (
      subst (AllByRecursion P) (sym h.first_is) (all-first P (take (half (length cs)) cs) (drop (half (length cs)) cs) whole),
      subst (AllByRecursion P) (sym h.second_is) (all-second P (take (half (length cs)) cs) (drop (half (length cs)) cs) whole),
    )

pub fan_edges-many : (net : CellNet) (v behind : ℕ) (cs first second : List Consumer) (old one two mid new : List Edge) (t u : Target) (x y : Edge) → 1 < length cs → AreHalves cs first second →
    behind ≡ v + length first → t ≡ entry net (v + 1) (tree_of first) → u ≡ entry net behind (tree_of second) →
    x ≡ edge_to v 0 t → y ≡ edge_to v 1 u → one ≡ old ++ x ∷ [] → two ≡ one ++ y ∷ [] → mid ≡ two ++ fan_edges net (v + 1) (tree_of first) → new ≡ mid ++ fan_edges net behind (tree_of second) →
    new ≡ old ++ fan_edges net v (tree_of cs)
fan_edges-many net v behind cs first second old one two mid new t u x y more h at e f xe ye p q r s =
    let up : v + 1 ≡ suc v = omega arith in
    let some : 0 < length first = omega (arith, h.first_many) in
    let many = tree-fans first some in
    let w : suc v + length (fans (tree_of first)) ≡ behind = omega (arith, many) in
    let tree : tree_of cs ≡ fan (tree_of first) (tree_of second) = tree-many cs more ∙ ap₂ (λ (xs ys : List Consumer). fan (tree_of xs) (tree_of ys)) (sym h.first_is) (sym h.second_is) in
    let edges : fan_edges net v (tree_of cs) ≡ x ∷ y ∷ (fan_edges net (v + 1) (tree_of first) ++ fan_edges net behind (tree_of second)) =
    ap (fan_edges net v) tree
    ∙ (fan_edges-fan net v behind (tree_of first) (tree_of second) w
    ∙ (ap (λ (w : ℕ). edge_to v 0 (entry net w (tree_of first)) ∷ edge_to v 1 (entry net behind (tree_of second)) ∷ (fan_edges net w (tree_of first) ++ fan_edges net behind (tree_of second))) (sym up)
    ∙ ap₂ (λ (d g : Edge). d ∷ g ∷ (fan_edges net (v + 1) (tree_of first) ++ fan_edges net behind (tree_of second))) (sym (xe ∙ ap (edge_to v 0) e)) (sym (ye ∙ ap (edge_to v 1) f)))) in
    s ∙ (ap (λ (es : List Edge). es ++ fan_edges net behind (tree_of second)) (r ∙ ap (λ (es : List Edge). es ++ fan_edges net (v + 1) (tree_of first)) (q ∙ ap (λ (es : List Edge). es ++ y ∷ []) p))
    ∙ (regroup old x y (fan_edges net (v + 1) (tree_of first)) (fan_edges net behind (tree_of second))
    ∙ ap (λ (es : List Edge). old ++ es) (sym edges)))
  where
    regroup : (a : List Edge) (c g : Edge) (b d : List Edge) → ((a ++ c ∷ []) ++ g ∷ []) ++ b ++ d ≡ a ++ (c ∷ g ∷ (b ++ d))
    regroup a c g b d = simp append_assoc

-- as many halvings as this are enough for one more
pub halved : (n h : ℕ) → 1 < n → n ≤ 2 ^ h → (1 ≤ h) × (half n ≤ 2 ^ (h - 1)) × (n ≤ half n + 2 ^ (h - 1))
halved n zero more l = absurd (omega arith)
halved n (suc h) more l =
    let a = pow-suc 2 h in
    let e : suc h - 1 ≡ h = omega arith in
    rw e (omega arith, omega (arith, a), omega (arith, a))
