-- The slots or the operands of all nodes of a list, in order: where each is found, and how often.
use Rattle.std.proofs.Common.{◌≡◌, ℕ, zero, suc, ◌+◌, ◌<◌, ◌≤◌, ◌==◌, nat_lt, Bool, true, false, ◌&&◌, List, [], ◌∷◌, ◌++◌, length, Some, refl, sym, ◌∙◌, ap, ap₂, subst, arith, inl, inr, ◌⊎◌}
use Rattle.std.specs.List.{slice_get, AllByRecursion}
use Rattle.std.proofs.lemmas.Bool.{cases_eq, eq-eqb, ne_eqb, lt-ltb, le-ltb, and_left, and_right}
use Rattle.std.proofs.lemmas.List.{append_assoc}
use Rattle.bx_network.specs.declared.node.Node.{Node}
use Rattle.bx_network.specs.Networks.{one_if}
use Rattle.bx_logic.proofs.Lists.{Some-same}
use Rattle.bx_map.specs.declared.cell.Target.{Target}
use Rattle.bx_map.proofs.Tallies.{tally, tally-append}

abbrev pub spot : ℕ → ℕ → Target
spot v k = record { node = v; operand = k }

-- so many slots or operands of one node, from one on
abbrev pub row : ℕ → ℕ → ℕ → List Target
row v k zero = []
row v k (suc n) = spot v k ∷ row v (suc k) n

-- those of the nodes of a list, of which the first has this number
abbrev pub spots : (Node → ℕ) → ℕ → List Node → List Target
spots f v [] = []
spots f v (n ∷ ns) = row v 0 (f n) ++ spots f (suc v) ns

abbrev pub is_at : ℕ → ℕ → Target → Bool
is_at w o t = (t.node == w) && (t.operand == o)

pub spots-append : (f : Node → ℕ) (v : ℕ) (xs ys : List Node) → spots f v (xs ++ ys) ≡ spots f v xs ++ spots f (v + length xs) ys
spots-append f v [] ys = ap (λ (u : ℕ). spots f u ys) (omega arith)
spots-append f v (x ∷ xs) ys =
    ap (λ (ts : List Target). row v 0 (f x) ++ ts) (spots-append f (suc v) xs ys ∙ ap (λ (u : ℕ). spots f (suc v) xs ++ spots f u ys) (omega arith))
    ∙ sym (append_assoc (row v 0 (f x)) (spots f (suc v) xs) (spots f (v + length (x ∷ xs)) ys))

pub row-elsewhere : (w o v k n : ℕ) → (v ≡ w → ⊥) → tally (is_at w o) (row v k n) ≡ 0
row-elsewhere w o v k zero ne = refl
row-elsewhere w o v k (suc n) ne =
    ap₂ (λ (b : Bool) (m : ℕ). one_if b + m) (and_left (v == w) (k == o) (ne_eqb v w ne)) (row-elsewhere w o v (suc k) n ne)

row-past : (v o k n : ℕ) → o < k → tally (is_at v o) (row v k n) ≡ 0
row-past v o k zero l = refl
row-past v o k (suc n) l =
    ap₂ (λ (b : Bool) (m : ℕ). one_if b + m) (and_right (v == v) (k == o) (ne_eqb k o (λ e. omega arith))) (row-past v o (suc k) n (omega arith))

row-at : (v o k n : ℕ) → k ≤ o → tally (is_at v o) (row v k n) ≡ one_if (nat_lt o (k + n))
row-at v o k zero l = rw (le-ltb o (k + 0) (omega arith)) refl
row-at v o k (suc n) l =
    elim (cases_eq k o) [
      | inl e ↦
          let rest = row-past v o (suc k) n (omega arith) in
          rw (eq-eqb v v refl, eq-eqb k o e, lt-ltb o (k + suc n) (omega arith)) (omega (arith, rest))
      | inr ne ↦
          let rest = row-at v o (suc k) n (omega arith) in
          let same : suc k + n ≡ k + suc n = omega arith in
          ap₂ (λ (b : Bool) (m : ℕ). one_if b + m) (and_right (v == v) (k == o) (ne_eqb k o ne)) rest ∙ (ap (λ (m : ℕ). 0 + one_if (nat_lt o m)) same ∙ plain (nat_lt o (k + suc n)))
    ]
  where
    plain : (b : Bool) → 0 + one_if b ≡ one_if b
    plain true = refl
    plain false = refl

pub spots-before : (f : Node → ℕ) (w o v : ℕ) (nodes : List Node) → w < v → tally (is_at w o) (spots f v nodes) ≡ 0
spots-before f w o v [] l = refl
spots-before f w o v (x ∷ xs) l =
    tally-append (is_at w o) (row v 0 (f x)) (spots f (suc v) xs)
    ∙ ap₂ (λ (a b : ℕ). a + b) (row-elsewhere w o v 0 (f x) (λ e. omega arith)) (spots-before f w o (suc v) xs (omega arith))

-- the slots or operands of a node stand there once, and others don't
pub spots-at : (f : Node → ℕ) (w o v i : ℕ) (nodes : List Node) (node : Node) → slice_get nodes i ≡ Some node → w ≡ v + i →
    tally (is_at w o) (spots f v nodes) ≡ one_if (nat_lt o (f node))
spots-at f w o v i [] node found e = absurd (cc)
spots-at f w o v zero (x ∷ xs) node found e =
    let here : w ≡ v = omega arith in
    tally-append (is_at w o) (row v 0 (f x)) (spots f (suc v) xs)
    ∙ ap₂ (λ (a b : ℕ). a + b)
    (subst (λ (u : ℕ). tally (is_at u o) (row v 0 (f x)) ≡ one_if (nat_lt o (f x))) (sym here) (row-at v o 0 (f x) (omega arith) ∙ ap (λ (m : ℕ). one_if (nat_lt o m)) (omega arith)))
    (spots-before f w o (suc v) xs (omega arith))
    ∙ (omega arith ∙ ap (λ (n : Node). one_if (nat_lt o (f n))) (Some-same x node found))
spots-at f w o v (suc i) (x ∷ xs) node found e =
    tally-append (is_at w o) (row v 0 (f x)) (spots f (suc v) xs)
    ∙ ap₂ (λ (a b : ℕ). a + b) (row-elsewhere w o v 0 (f x) (λ h. omega arith)) (spots-at f w o (suc v) i xs node found (omega arith))
    ∙ omega arith

-- by node, and then by slot
abbrev pub IsBeforeSpot : Target → Target → Type 0
IsBeforeSpot s t = (s.node < t.node) ⊎ ((s.node ≡ t.node) × (s.operand < t.operand))

-- each is of a node behind this one
abbrev Later : ℕ → List Target → Type 0
Later v ts = AllByRecursion (λ t. v < t.node) ts

abbrev pub Ascends : List Target → Type 0
Ascends [] = Unit {0}
Ascends (t ∷ ts) = AllByRecursion (IsBeforeSpot t) ts × Ascends ts

later-row : (u v k n : ℕ) (rest : List Target) → u < v → Later u rest → Later u (row v k n ++ rest)
later-row u v k zero rest l a = a
later-row u v k (suc n) rest l a = (l, later-row u v (suc k) n rest l a)

spots-later : (f : Node → ℕ) (u v : ℕ) (nodes : List Node) → u < v → Later u (spots f v nodes)
spots-later f u v [] l = tt
spots-later f u v (x ∷ xs) l = later-row u v 0 (f x) (spots f (suc v) xs) l (spots-later f u (suc v) xs (omega arith))

before-later : (v k : ℕ) (ts : List Target) → Later v ts → AllByRecursion (IsBeforeSpot (spot v k)) ts
before-later v k [] a = tt
before-later v k (t ∷ ts) a = (inl a.0, before-later v k ts a.1)

before-row : (v k j n : ℕ) (rest : List Target) → k < j → Later v rest → AllByRecursion (IsBeforeSpot (spot v k)) (row v j n ++ rest)
before-row v k j zero rest l a = before-later v k rest a
before-row v k j (suc n) rest l a = (inr (refl, l), before-row v k (suc j) n rest (omega arith) a)

row-ascends : (v k n : ℕ) (rest : List Target) → Later v rest → Ascends rest → Ascends (row v k n ++ rest)
row-ascends v k zero rest l a = a
row-ascends v k (suc n) rest l a = (before-row v k (suc k) n rest (omega arith) l, row-ascends v (suc k) n rest l a)

pub spots-ascend : (f : Node → ℕ) (v : ℕ) (nodes : List Node) → Ascends (spots f v nodes)
spots-ascend f v [] = tt
spots-ascend f v (x ∷ xs) = row-ascends v 0 (f x) (spots f (suc v) xs) (spots-later f v (suc v) xs (omega arith)) (spots-ascend f (suc v) xs)
