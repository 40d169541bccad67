-- The values of cells for given values of the inputs: what the fold makes of a net has the net's value.
use Rattle.std.proofs.Common.{◌≡◌, ℕ, suc, ◌+◌, ◌<◌, ◌≤◌, Bool, true, false, not, List, [], ◌∷◌, ◌++◌, length, map, take, drop, refl, sym, ◌∙◌, ap, ap₂, subst, arith}
use Rattle.std.specs.List.{AllByRecursion, fold}
use Rattle.std.proofs.lemmas.List.{length-append, get_or_append_left, get_or_push, take-append-drop, length-take}
use Rattle.std.proofs.lemmas.List.Sums.{fold-append}
use Rattle.bx_logic.specs.declared.op.Op.{Op}
use Rattle.bx_logic.specs.declared.op.Op.TheVariants.{Buf, Not, And, Or, Nand, Nor, Xor, Xnor}
use Rattle.bx_logic.specs.Op.{op_value, parity}
use Rattle.bx_logic.specs.Values.{value_of}
use Rattle.bx_forms.specs.Kinds.{gives}
use Rattle.std.proofs.Math.Seq.{take-suc}
use Rattle.bx_map.specs.declared.cell.Cell.{Cell}
use Rattle.bx_map.specs.declared.cell.Cell.TheVariants as cell
use Rattle.bx_map.specs.declared.cell.Value.{Value}
use Rattle.bx_map.specs.declared.cell.Value.TheVariants.{Constant, Signal}
use Rattle.bx_map.specs.Cells.{cell_at, operands_of, ReadsEarlier}
use Rattle.bx_map.specs.Folds.{Fold, fold_of, with_cell, inverse_of, gate_kind, with_constant, combination_of, plain_op, single_fold, chain_of, gate_fold}
use Rattle.bx_map.proofs.Folding.{IsWithin, within-more}

abbrev pub cell_truth : List Bool → List Bool → Cell → Bool
cell_truth bits known (cell.Input port) = value_of bits port
cell_truth bits known (cell.Not a) = not (value_of known a)
cell_truth bits known (cell.Gate kind a b) = gives kind (value_of known a ∷ value_of known b ∷ []) 0

abbrev with_truth : List Bool → List Bool → Cell → List Bool
with_truth bits known c = known ++ cell_truth bits known c ∷ []

pub truths : List Bool → List Cell → List Bool
truths bits cells = fold (with_truth bits) [] cells

truths-next : (bits : List Bool) (cells : List Cell) (c : Cell) → truths bits (cells ++ c ∷ []) ≡ truths bits cells ++ cell_truth bits (truths bits cells) c ∷ []
unfolding truths
truths-next bits cells c = fold-append (with_truth bits) [] cells (c ∷ [])

length-with_truth : (bits known : List Bool) (cells : List Cell) → length (fold (with_truth bits) known cells) ≡ length known + length cells
length-with_truth bits known [] = omega arith
length-with_truth bits known (c ∷ cs) =
    let rest = length-with_truth bits (with_truth bits known c) cs in
    let here = length-append known (cell_truth bits known c ∷ []) in
    omega (arith, rest, here)

pub length-truths : (bits : List Bool) (cells : List Cell) → length (truths bits cells) ≡ length cells
unfolding truths
length-truths bits cells = let e = length-with_truth bits [] cells in omega (arith, e)

with_truth-keeps : (bits known : List Bool) (cells : List Cell) (a : ℕ) → a < length known → value_of (fold (with_truth bits) known cells) a ≡ value_of known a
with_truth-keeps bits known [] a l = refl
with_truth-keeps bits known (c ∷ cs) a l =
    let longer = length-append known (cell_truth bits known c ∷ []) in
    with_truth-keeps bits (with_truth bits known c) cs a (omega (arith, longer)) ∙ get_or_append_left known (cell_truth bits known c ∷ []) false a l

pub truths-prefix : (bits : List Bool) (xs ys : List Cell) (a : ℕ) → a < length xs → value_of (truths bits (xs ++ ys)) a ≡ value_of (truths bits xs) a
unfolding truths
truths-prefix bits xs ys a l =
    let long = length-with_truth bits [] xs in
    ap (λ (ts : List Bool). value_of ts a) (fold-append (with_truth bits) [] xs ys) ∙ with_truth-keeps bits (fold (with_truth bits) [] xs) ys a (omega (arith, long))

truth-new : (bits : List Bool) (cells : List Cell) (c : Cell) → value_of (truths bits (cells ++ c ∷ [])) (length cells) ≡ cell_truth bits (truths bits cells) c
truth-new bits cells c =
    ap (λ (ts : List Bool). value_of ts (length cells)) (truths-next bits cells c)
    ∙ get_or_push (truths bits cells) (cell_truth bits (truths bits cells) c) false (length cells) (length-truths bits cells)

cell_truth-local : (bits f g : List Bool) (c : Cell) → AllByRecursion (λ a. value_of f a ≡ value_of g a) (operands_of c) → cell_truth bits f c ≡ cell_truth bits g c
cell_truth-local bits f g (cell.Input port) h = refl
cell_truth-local bits f g (cell.Not a) h = ap not h.0
cell_truth-local bits f g (cell.Gate kind a b) h = ap₂ (λ (x y : Bool). gives kind (x ∷ y ∷ []) 0) h.0 h.1.0

all-truths : (bits : List Bool) (xs ys : List Cell) (is : List ℕ) → AllByRecursion (λ a. a < length xs) is → AllByRecursion (λ a. value_of (truths bits xs) a ≡ value_of (truths bits (xs ++ ys)) a) is
all-truths bits xs ys [] h = tt
all-truths bits xs ys (i ∷ is) h = (sym (truths-prefix bits xs ys i h.0), all-truths bits xs ys is h.1)

all-below : (j n : ℕ) (is : List ℕ) → j ≡ n → AllByRecursion (λ a. a < j) is → AllByRecursion (λ a. a < n) is
all-below j n is e h = subst (λ (m : ℕ). AllByRecursion (λ a. a < m) is) e h

-- each cell has the value that its kind gives of those that it reads
pub truth-at : (bits : List Bool) (cells : List Cell) → ReadsEarlier cells → (j : ℕ) → j < length cells → value_of (truths bits cells) j ≡ cell_truth bits (truths bits cells) (cell_at cells j)
truth-at bits cells earlier j l =
    let c : Cell = cell_at cells j in
    let first : List Cell = take j cells in
    let many : length first ≡ j = length-take j cells ∙ omega arith in
    let split : first ++ drop j cells ≡ cells = take-append-drop j cells in
    let next : take (suc j) cells ≡ first ++ c ∷ [] = take-suc cells j (cell.Input 0) l in
    let more : take (suc j) cells ++ drop (suc j) cells ≡ cells = take-append-drop (suc j) cells in
    let long : length (take (suc j) cells) ≡ suc j = length-take (suc j) cells ∙ omega arith in
    ap (λ (cs : List Cell). value_of (truths bits cs) j) (sym more)
    ∙ (truths-prefix bits (take (suc j) cells) (drop (suc j) cells) j (omega (arith, long))
    ∙ (ap (λ (cs : List Cell). value_of (truths bits cs) j) next
    ∙ (ap (value_of (truths bits (first ++ c ∷ []))) (sym many)
    ∙ (truth-new bits first c
    ∙ (cell_truth-local bits (truths bits first) (truths bits (first ++ drop j cells)) c
    (all-truths bits first (drop j cells) (operands_of c) (all-below j (length first) (operands_of c) (sym many) (earlier j)))
    ∙ ap (λ (cs : List Cell). cell_truth bits (truths bits cs) c) split)))))

abbrev pub meaning : List Bool → Value → Bool
meaning known (Constant b) = b
meaning known (Signal a) = value_of known a

abbrev pub means : List Bool → List Cell → Value → Bool
means bits cells v = meaning (truths bits cells) v

-- the value of what was folded, where earlier values keep theirs
pub record IsTrueOf (bits : List Bool) (cells : List Cell) (f : Fold) (b : Bool) : Type 0 where
  pub value : means bits f.cells f.value ≡ b
  pub keeps : (v : Value) → IsWithin (length cells) v → means bits f.cells v ≡ means bits cells v
  pub longer : length cells ≤ length f.cells

true-same : (bits : List Bool) (cells : List Cell) (v : Value) (b : Bool) → means bits cells v ≡ b → IsTrueOf bits cells (fold_of v cells) b
true-same bits cells v b e = record { value = e; keeps = λ w h. refl; longer = omega arith }

keeps-with : (bits : List Bool) (cells : List Cell) (c : Cell) (v : Value) → IsWithin (length cells) v → means bits (cells ++ c ∷ []) v ≡ means bits cells v
keeps-with bits cells c (Constant b) h = refl
keeps-with bits cells c (Signal a) h = truths-prefix bits cells (c ∷ []) a h

true-with : (bits : List Bool) (cells : List Cell) (c : Cell) (b : Bool) → cell_truth bits (truths bits cells) c ≡ b → IsTrueOf bits cells (with_cell cells c) b
true-with bits cells c b e = record {
  value = truth-new bits cells c ∙ e;
  keeps = keeps-with bits cells c;
  longer = omega (arith, length-append cells (c ∷ []));
}

true-inverse_of : (bits : List Bool) (cells : List Cell) (v : Value) (b : Bool) → not (means bits cells v) ≡ b → IsTrueOf bits cells (inverse_of cells v) b
true-inverse_of bits cells (Constant c) b e = true-same bits cells (Constant (not c)) b e
true-inverse_of bits cells (Signal a) b e = true-with bits cells (cell.Not a) b e

abbrev pub pair : Op → Bool → Bool → Bool
pair op x y = op_value op (x ∷ y ∷ [])

-- an operation of several arguments
abbrev pub IsProper : Op → Type 0
IsProper Buf = ⊥
IsProper Not = ⊥
IsProper op = Unit {0}

by_cases : (P : Bool → Type 0) → P true → P false → (b : Bool) → P b
by_cases P t f true = t
by_cases P t f false = f

true-constant : (bits : List Bool) (op : Op) (b : Bool) (cells : List Cell) (v : Value) → IsProper op → IsTrueOf bits cells (with_constant op b cells v) (pair op b (means bits cells v))
true-constant bits And false cells v p = true-same bits cells (Constant false) _ refl
true-constant bits And true cells v p = true-same bits cells v _ (by_cases (λ y. y ≡ pair And true y) refl refl (means bits cells v))
true-constant bits Nand false cells v p = true-same bits cells (Constant true) _ refl
true-constant bits Or true cells v p = true-same bits cells (Constant true) _ refl
true-constant bits Or false cells v p = true-same bits cells v _ (by_cases (λ y. y ≡ pair Or false y) refl refl (means bits cells v))
true-constant bits Nor true cells v p = true-same bits cells (Constant false) _ refl
true-constant bits Xor false cells v p = true-same bits cells v _ (by_cases (λ y. y ≡ pair Xor false y) refl refl (means bits cells v))
true-constant bits Xnor true cells v p = true-same bits cells v _ (by_cases (λ y. y ≡ pair Xnor true y) refl refl (means bits cells v))
true-constant bits Buf b cells v p = absurd p
true-constant bits Not b cells v p = absurd p
true-constant bits op b cells v p = true-inverse_of bits cells v _ (by_cases (λ y. not y ≡ pair op b y) refl refl (means bits cells v))

gate-gives : (op : Op) (x y : Bool) → IsProper op → gives (gate_kind op) (x ∷ y ∷ []) 0 ≡ pair op x y
gate-gives Buf x y p = absurd p
gate-gives Not x y p = absurd p
gate-gives op x y p = refl

each_pair : (P : Bool → Bool → Type 0) → P true true → P true false → P false true → P false false → (x y : Bool) → P x y
each_pair P a b c d true true = a
each_pair P a b c d true false = b
each_pair P a b c d false true = c
each_pair P a b c d false false = d

pair-turned : (op : Op) (x y : Bool) → IsProper op → pair op x y ≡ pair op y x
pair-turned Buf x y p = absurd p
pair-turned Not x y p = absurd p
pair-turned op x y p = each_pair (λ a b. pair op a b ≡ pair op b a) refl refl refl refl x y

true-combination_of : (bits : List Bool) (op : Op) (cells : List Cell) (v w : Value) → IsProper op → IsTrueOf bits cells (combination_of op cells v w) (pair op (means bits cells v) (means bits cells w))
true-combination_of bits op cells (Signal a) (Signal b) p =
    true-with bits cells (cell.Gate (gate_kind op) a b) _ (gate-gives op (means bits cells (Signal a)) (means bits cells (Signal b)) p)
true-combination_of bits op cells (Signal a) (Constant b) p =
    subst (IsTrueOf bits cells (with_constant op b cells (Signal a))) (pair-turned op b (means bits cells (Signal a)) p) (true-constant bits op b cells (Signal a) p)
true-combination_of bits op cells (Constant a) (Signal b) p = true-constant bits op a cells (Signal b) p
true-combination_of bits op cells (Constant a) (Constant b) p = true-constant bits op a cells (Constant b) p

true-single_fold : (bits : List Bool) (op : Op) (cells : List Cell) (v : Value) → IsTrueOf bits cells (single_fold op cells v) (op_value op (means bits cells v ∷ []))
true-single_fold bits Not cells v = true-inverse_of bits cells v _ refl
true-single_fold bits Nand cells v = true-inverse_of bits cells v _ (by_cases (λ y. not y ≡ op_value Nand (y ∷ [])) refl refl (means bits cells v))
true-single_fold bits Nor cells v = true-inverse_of bits cells v _ (by_cases (λ y. not y ≡ op_value Nor (y ∷ [])) refl refl (means bits cells v))
true-single_fold bits Xnor cells v = true-inverse_of bits cells v _ (by_cases (λ y. not y ≡ op_value Xnor (y ∷ [])) refl refl (means bits cells v))
true-single_fold bits op cells v = true-same bits cells v _ (by_cases (λ y. y ≡ op_value op (y ∷ [])) refl refl (means bits cells v))

-- a gate's arguments combined one after the other

abbrev chain_bits : Op → Bool → List Bool → Bool
chain_bits op x [] = x
chain_bits op x (y ∷ []) = pair op x y
chain_bits op x (y ∷ z ∷ ys) = chain_bits op (pair (plain_op op) x y) (z ∷ ys)

merged : (op : Op) (x y : Bool) (rest : List Bool) → IsProper op → op_value op (pair (plain_op op) x y ∷ rest) ≡ op_value op (x ∷ y ∷ rest)
merged Xor x y rest p =
    each_pair (λ a b. op_value Xor (pair Xor a b ∷ rest) ≡ op_value Xor (a ∷ b ∷ rest)) (by_cases (λ r. r ≡ not (not r)) refl refl (parity rest)) refl refl refl x y
merged Xnor x y rest p =
    each_pair (λ a b. op_value Xnor (pair Xor a b ∷ rest) ≡ op_value Xnor (a ∷ b ∷ rest)) (by_cases (λ r. not r ≡ not (not (not r))) refl refl (parity rest)) refl refl refl x y
merged Buf x y rest p = absurd p
merged Not x y rest p = absurd p
merged op x y rest p = each_pair (λ a b. op_value op (pair (plain_op op) a b ∷ rest) ≡ op_value op (a ∷ b ∷ rest)) refl refl refl refl x y

chain-is : (op : Op) (x y : Bool) (ys : List Bool) → IsProper op → chain_bits op x (y ∷ ys) ≡ op_value op (x ∷ y ∷ ys)
chain-is op x y [] p = refl
chain-is op x y (z ∷ ys) p = chain-is op (pair (plain_op op) x y) z ys p ∙ merged op x y (z ∷ ys) p

plain_op-proper : (op : Op) → IsProper op → IsProper (plain_op op)
plain_op-proper Buf p = p
plain_op-proper Not p = p
plain_op-proper op p = tt

-- one combination more
true-step : (bits : List Bool) (op : Op) (cells : List Cell) (f : Fold) (v : Value) (x : Bool) → IsProper op → IsTrueOf bits cells f x → IsWithin (length cells) v →
    IsTrueOf bits cells (combination_of op f.cells f.value v) (pair op x (means bits cells v))
true-step bits op cells f v x p h w =
    let next = true-combination_of bits op f.cells f.value v p in
    record {
      value = next.value ∙ ap₂ (pair op) h.value (h.keeps v w);
      keeps = λ u k. next.keeps u (within-more (length cells) (length f.cells) u h.longer k) ∙ h.keeps u k;
      longer = omega (arith, h.longer, next.longer);
    }

true-chain_of : (bits : List Bool) (op : Op) (cells : List Cell) (f : Fold) (vs : List Value) (x : Bool) → IsProper op → IsTrueOf bits cells f x →
    AllByRecursion (IsWithin (length cells)) vs → IsTrueOf bits cells (chain_of op f vs) (chain_bits op x (map (means bits cells) vs))
true-chain_of bits op cells f [] x p h w = h
true-chain_of bits op cells f (v ∷ []) x p h w = true-step bits op cells f v x p h w.0
true-chain_of bits op cells f (v ∷ u ∷ vs) x p h w =
    true-chain_of bits op cells (combination_of (plain_op op) f.cells f.value v) (u ∷ vs) (pair (plain_op op) x (means bits cells v)) p
    (true-step bits (plain_op op) cells f v x (plain_op-proper op p) h w.0) w.1

pub true-gate : (bits : List Bool) (op : Op) (cells : List Cell) (vs : List Value) → 0 < length vs → (1 < length vs → IsProper op) → AllByRecursion (IsWithin (length cells)) vs →
    IsTrueOf bits cells (gate_fold op cells vs) (op_value op (map (means bits cells) vs))
true-gate bits op cells [] l p w = absurd (omega arith)
true-gate bits op cells (v ∷ []) l p w = true-single_fold bits op cells v
true-gate bits op cells (v ∷ u ∷ vs) l p w =
    let proper = p (omega arith) in
    subst (IsTrueOf bits cells (chain_of op (fold_of v cells) (u ∷ vs))) (chain-is op (means bits cells v) (means bits cells u) (map (means bits cells) vs) proper)
    (true-chain_of bits op cells (fold_of v cells) (u ∷ vs) (means bits cells v) proper (true-same bits cells v (means bits cells v) refl) w.1)
