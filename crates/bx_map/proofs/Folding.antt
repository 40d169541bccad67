-- The cells that the fold makes: each reads earlier ones, as many as its kind has operands, and the
-- inputs come first.
use Rattle.std.proofs.Common.{◌≡◌, ℕ, ◌<◌, ◌≤◌, Bool, true, false, List, [], ◌∷◌, ◌++◌, length, map, set, replicate, refl, sym, ◌∙◌, subst, arith, inl, inr}
use Rattle.std.specs.List.{AllByRecursion, fold, range_with_len}
use Rattle.std.proofs.lemmas.Bool.{cases_lt, cases_eq}
use Rattle.std.proofs.lemmas.List.{length-append, get_or_append_left, get_or_past, get_or-set_same, get_or-set_other, set_past, get_or-replicate, length-replicate}
use Rattle.std.proofs.lemmas.List.FromFn.{length-map-range_with_len, get_or-map-range_with_len}
use Rattle.bx_logic.specs.declared.op.Op.{Op}
use Rattle.bx_logic.specs.declared.op.Op.TheVariants.{Buf, Not, And, Or, Nand, Nor, Xor, Xnor}
use Rattle.bx_logic.specs.declared.driver.Driver.{Driver}
use Rattle.bx_logic.specs.declared.driver.Driver.TheVariants as driver
use Rattle.bx_logic.specs.Nets.{Netlist, IsNet, IsDriver, driver_at}
use Rattle.bx_logic.proofs.Valuations.{driver-at}
use Rattle.bx_forms.specs.Kinds.{slots, operands}
use Rattle.bx_map.specs.declared.cell.Cell.{Cell}
use Rattle.bx_map.specs.declared.cell.Cell.TheVariants as cell
use Rattle.bx_map.specs.declared.cell.Value.{Value}
use Rattle.bx_map.specs.declared.cell.Value.TheVariants.{Constant, Signal}
use Rattle.bx_map.specs.Cells.{cell_at, kind_of, operands_of, ReadsEarlier}
use Rattle.bx_map.specs.Walks.{walk}
use Rattle.bx_map.specs.Folds.{Fold, fold_of, with_cell, inverse_of, gate_kind, with_constant, combination_of, plain_op, single_fold, chain_of, gate_fold, fold_value, driver_fold, Folding, net_fold, before_folding, folding}

-- cells of which the first so many are the inputs
pub record AreMade (inputs : ℕ) (cells : List Cell) : Type 0 where
  pub reads : ReadsEarlier cells
  pub arity : (j : ℕ) → j < length cells → length (operands_of (cell_at cells j)) ≡ operands (kind_of (cell_at cells j))
  pub slot : (j : ℕ) → j < length cells → slots (kind_of (cell_at cells j)) ≡ 1
  pub inputs_first : inputs ≤ length cells
  pub firsts : (i : ℕ) → i < inputs → cell_at cells i ≡ cell.Input i
  pub ports : (j port : ℕ) → j < length cells → cell_at cells j ≡ cell.Input port → j ≡ port
  pub few_ports : (j port : ℕ) → j < length cells → cell_at cells j ≡ cell.Input port → port < inputs

-- a value by a cell among so many
abbrev pub IsWithin : ℕ → Value → Type 0
IsWithin n (Constant b) = Unit {0}
IsWithin n (Signal a) = a < n

pub within-more : (n m : ℕ) (v : Value) → n ≤ m → IsWithin n v → IsWithin m v
within-more n m (Constant b) l h = tt
within-more n m (Signal a) l h = omega (arith, h)

pub record IsMadeFrom (inputs : ℕ) (cells : List Cell) (f : Fold) : Type 0 where
  pub made : AreMade inputs f.cells
  pub within : IsWithin (length f.cells) f.value
  pub longer : length cells ≤ length f.cells

-- a cell that may come behind others
pub record MayFollow (n : ℕ) (c : Cell) : Type 0 where
  pub reads : AllByRecursion (λ a. a < n) (operands_of c)
  pub arity : length (operands_of c) ≡ operands (kind_of c)
  pub slot : slots (kind_of c) ≡ 1
  pub no_input : (port : ℕ) → c ≡ cell.Input port → ⊥

cell-old : (cells : List Cell) (c : Cell) (j : ℕ) → j < length cells → cell_at (cells ++ c ∷ []) j ≡ cell_at cells j
cell-old cells c j l = get_or_append_left cells (c ∷ []) (cell.Input 0) j l

cell-new : (cells : List Cell) (c : Cell) → cell_at (cells ++ c ∷ []) (length cells) ≡ c
cell-new [] c = refl
cell-new (d ∷ cells) c = cell-new cells c

-- where there is no cell, none is read
pub reads-past : (cells : List Cell) (j : ℕ) → length cells ≤ j → AllByRecursion (λ a. a < j) (operands_of (cell_at cells j))
reads-past cells j l = subst (λ (d : Cell). AllByRecursion (λ a. a < j) (operands_of d)) (sym (get_or_past cells j (cell.Input 0) l)) tt

each-with : (P : ℕ → Cell → Type 0) (cells : List Cell) (c : Cell) → ((j : ℕ) → j < length cells → P j (cell_at cells j)) → P (length cells) c →
    (j : ℕ) → j < length (cells ++ c ∷ []) → P j (cell_at (cells ++ c ∷ []) j)
each-with P cells c old new j l =
    elim (cases_lt j (length cells)) [
      | inl m ↦ subst (P j) (sym (cell-old cells c j m)) (old j m)
      | inr m ↦
          let last : length cells ≡ j = omega (arith, length-append cells (c ∷ [])) in
          subst (λ (k : ℕ). P k (cell_at (cells ++ c ∷ []) k)) last (subst (P (length cells)) (sym (cell-new cells c)) new)
    ]

pub made-with : (inputs : ℕ) (cells : List Cell) (c : Cell) → AreMade inputs cells → MayFollow (length cells) c → AreMade inputs (cells ++ c ∷ [])
made-with inputs cells c h f = record {
  reads = λ j. elim (cases_lt j (length (cells ++ c ∷ []))) [
    | inl l ↦ each-with (λ k d. AllByRecursion (λ a. a < k) (operands_of d)) cells c (λ k m. h.reads k) f.reads j l
    | inr l ↦ reads-past (cells ++ c ∷ []) j l
  ];
  arity = each-with (λ k d. length (operands_of d) ≡ operands (kind_of d)) cells c h.arity f.arity;
  slot = each-with (λ k d. slots (kind_of d) ≡ 1) cells c h.slot f.slot;
  inputs_first = omega (arith, h.inputs_first, length-append cells (c ∷ []));
  firsts = λ i l. cell-old cells c i (omega (arith, h.inputs_first)) ∙ h.firsts i l;
  ports = λ j port l. each-with (λ k d. d ≡ cell.Input port → k ≡ port) cells c (λ k m. h.ports k port m) (λ e. absurd (f.no_input port e)) j l;
  few_ports = λ j port l. each-with (λ k d. d ≡ cell.Input port → port < inputs) cells c (λ k m. h.few_ports k port m) (λ e. absurd (f.no_input port e)) j l;
}

from-with : (inputs : ℕ) (cells : List Cell) (c : Cell) → AreMade inputs cells → MayFollow (length cells) c → IsMadeFrom inputs cells (with_cell cells c)
from-with inputs cells c h f = record {
  made = made-with inputs cells c h f;
  within = omega (arith, length-append cells (c ∷ []));
  longer = omega (arith, length-append cells (c ∷ []));
}

from-same : (inputs : ℕ) (cells : List Cell) (v : Value) → AreMade inputs cells → IsWithin (length cells) v → IsMadeFrom inputs cells (fold_of v cells)
from-same inputs cells v h w = record { made = h; within = w; longer = omega arith }

from-inverse_of : (inputs : ℕ) (cells : List Cell) (v : Value) → AreMade inputs cells → IsWithin (length cells) v → IsMadeFrom inputs cells (inverse_of cells v)
from-inverse_of inputs cells (Constant b) h w = from-same inputs cells (Constant _) h tt
from-inverse_of inputs cells (Signal a) h w = from-with inputs cells (cell.Not a) h (record { reads = (w, tt); arity = refl; slot = refl; no_input = λ port e. cc })

from-constant : (inputs : ℕ) (op : Op) (b : Bool) (cells : List Cell) (v : Value) → AreMade inputs cells → IsWithin (length cells) v → IsMadeFrom inputs cells (with_constant op b cells v)
from-constant inputs And false cells v h w = from-same inputs cells (Constant false) h tt
from-constant inputs And true cells v h w = from-same inputs cells v h w
from-constant inputs Nand false cells v h w = from-same inputs cells (Constant true) h tt
from-constant inputs Or true cells v h w = from-same inputs cells (Constant true) h tt
from-constant inputs Or false cells v h w = from-same inputs cells v h w
from-constant inputs Nor true cells v h w = from-same inputs cells (Constant false) h tt
from-constant inputs Xor false cells v h w = from-same inputs cells v h w
from-constant inputs Xnor true cells v h w = from-same inputs cells v h w
from-constant inputs Buf true cells v h w = from-same inputs cells v h w
from-constant inputs Buf false cells v h w = from-same inputs cells v h w
from-constant inputs op b cells v h w = from-inverse_of inputs cells v h w

gate-operands : (op : Op) → 2 ≡ operands (gate_kind op)
gate-operands Buf = refl
gate-operands op = refl

gate-slots : (op : Op) → slots (gate_kind op) ≡ 1
gate-slots Buf = refl
gate-slots op = refl

from-combination_of : (inputs : ℕ) (op : Op) (cells : List Cell) (v w : Value) → AreMade inputs cells → IsWithin (length cells) v → IsWithin (length cells) w →
    IsMadeFrom inputs cells (combination_of op cells v w)
from-combination_of inputs op cells (Signal a) (Signal b) h x y =
    from-with inputs cells (cell.Gate (gate_kind op) a b) h (record { reads = (x, (y, tt)); arity = gate-operands op; slot = gate-slots op; no_input = λ port e. cc })
from-combination_of inputs op cells (Signal a) (Constant b) h x y = from-constant inputs op b cells (Signal a) h x
from-combination_of inputs op cells (Constant a) (Signal b) h x y = from-constant inputs op a cells (Signal b) h y
from-combination_of inputs op cells (Constant a) (Constant b) h x y = from-constant inputs op a cells (Constant b) h y

from-single_fold : (inputs : ℕ) (op : Op) (cells : List Cell) (v : Value) → AreMade inputs cells → IsWithin (length cells) v → IsMadeFrom inputs cells (single_fold op cells v)
from-single_fold inputs Not cells v h w = from-inverse_of inputs cells v h w
from-single_fold inputs Nand cells v h w = from-inverse_of inputs cells v h w
from-single_fold inputs Nor cells v h w = from-inverse_of inputs cells v h w
from-single_fold inputs Xnor cells v h w = from-inverse_of inputs cells v h w
from-single_fold inputs op cells v h w = from-same inputs cells v h w

from-longer : (inputs : ℕ) (cells : List Cell) (f g : Fold) → IsMadeFrom inputs cells f → IsMadeFrom inputs f.cells g → IsMadeFrom inputs cells g
from-longer inputs cells f g a b = record { made = b.made; within = b.within; longer = omega (arith, a.longer, b.longer) }

from-chain_of : (inputs : ℕ) (op : Op) (cells : List Cell) (f : Fold) (vs : List Value) → IsMadeFrom inputs cells f → AllByRecursion (IsWithin (length cells)) vs →
    IsMadeFrom inputs cells (chain_of op f vs)
from-chain_of inputs op cells f [] h a = h
from-chain_of inputs op cells f (v ∷ []) h a =
    from-longer inputs cells f (combination_of op f.cells f.value v) h
    (from-combination_of inputs op f.cells f.value v h.made h.within (within-more (length cells) (length f.cells) v h.longer a.0))
from-chain_of inputs op cells f (v ∷ w ∷ vs) h a =
    from-chain_of inputs op cells (combination_of (plain_op op) f.cells f.value v) (w ∷ vs)
    (from-longer inputs cells f (combination_of (plain_op op) f.cells f.value v) h
    (from-combination_of inputs (plain_op op) f.cells f.value v h.made h.within (within-more (length cells) (length f.cells) v h.longer a.0))) a.1

from-gate : (inputs : ℕ) (op : Op) (cells : List Cell) (vs : List Value) → AreMade inputs cells → AllByRecursion (IsWithin (length cells)) vs →
    IsMadeFrom inputs cells (gate_fold op cells vs)
from-gate inputs op cells [] h a = from-same inputs cells (Constant false) h tt
from-gate inputs op cells (v ∷ []) h a = from-single_fold inputs op cells v h a.0
from-gate inputs op cells (v ∷ w ∷ vs) h a = from-chain_of inputs op cells (fold_of v cells) (w ∷ vs) (from-same inputs cells v h a.0) a.1

-- each net's value is by one of the cells
abbrev pub AllWithin : ℕ → List Value → Type 0
AllWithin n values = (m : ℕ) → IsWithin n (fold_value values m)

pub map-within : (n : ℕ) (values : List Value) (args : List ℕ) → AllWithin n values → AllByRecursion (IsWithin n) (map (fold_value values) args)
map-within n values [] h = tt
map-within n values (m ∷ ms) h = (h m, map-within n values ms h)

from-driver : (inputs nets : ℕ) (values : List Value) (cells : List Cell) (d : Driver) → IsDriver inputs nets d → AreMade inputs cells → AllWithin (length cells) values →
    IsMadeFrom inputs cells (driver_fold values cells d)
from-driver inputs nets values cells (driver.Input i) is h w = from-same inputs cells (Signal i) h (omega (arith, is, h.inputs_first))
from-driver inputs nets values cells (driver.Constant b) is h w = from-same inputs cells (Constant b) h tt
from-driver inputs nets values cells (driver.Gate op args) is h w = from-gate inputs op cells (map (fold_value values) args) h (map-within (length cells) values args w)

pub record IsFoldingOf (inputs : ℕ) (f : Folding) : Type 0 where
  pub made : AreMade inputs f.cells
  pub within : AllWithin (length f.cells) f.values

within-set : (n m i k : ℕ) (values : List Value) (v : Value) → n ≤ m → AllWithin n values → IsWithin m v → IsWithin m (fold_value (set values i v) k)
within-set n m i k values v l h w =
    elim (cases_lt i (length values)) [
      | inr past ↦ subst (λ (vs : List Value). IsWithin m (fold_value vs k)) (sym (set_past values i v past)) (within-more n m (fold_value values k) l (h k))
      | inl inside ↦ elim (cases_eq k i) [
        | inl e ↦
            subst (λ (j : ℕ). IsWithin m (fold_value (set values i v) j)) (sym e)
            (subst (IsWithin m) (sym (get_or-set_same values i v (Constant false) inside)) w)
        | inr ne ↦ subst (IsWithin m) (sym (get_or-set_other values i k v (Constant false) ne)) (within-more n m (fold_value values k) l (h k))
      ]
    ]

pub folding-step : (inputs nets : ℕ) (drivers : List Driver) (f : Folding) (n : ℕ) → IsDriver inputs nets (driver_at drivers n) → IsFoldingOf inputs f → IsFoldingOf inputs (net_fold drivers f n)
folding-step inputs nets drivers f n is h =
    let new = from-driver inputs nets f.values f.cells (driver_at drivers n) is h.made h.within in
    record {
      made = new.made;
      within = λ k. within-set (length f.cells) (length (driver_fold f.values f.cells (driver_at drivers n)).cells) n k f.values (driver_fold f.values f.cells (driver_at drivers n)).value new.longer h.within new.within;
    }

pub folding-all : (inputs nets : ℕ) (drivers : List Driver) → ((n : ℕ) → IsDriver inputs nets (driver_at drivers n)) → (f : Folding) (order : List ℕ) → IsFoldingOf inputs f →
    IsFoldingOf inputs (fold (net_fold drivers) f order)
folding-all inputs nets drivers is f [] h = h
folding-all inputs nets drivers is f (n ∷ ns) h = folding-all inputs nets drivers is (net_fold drivers f n) ns (folding-step inputs nets drivers f n (is n) h)

input-cell : (n j : ℕ) → j < n → cell_at (map cell.Input (range_with_len 0 n)) j ≡ cell.Input j
input-cell n j l = get_or-map-range_with_len cell.Input 0 n j j (cell.Input 0) l (omega arith)

inputs-count : (n : ℕ) → length (map cell.Input (range_with_len 0 n)) ≡ n
inputs-count n = length-map-range_with_len cell.Input 0 n

inputs-made : (n : ℕ) → AreMade n (map cell.Input (range_with_len 0 n))
inputs-made n =
    let many = inputs-count n in
    record {
      reads = λ j. elim (cases_lt j n) [
        | inl l ↦ subst (λ (d : Cell). AllByRecursion (λ a. a < j) (operands_of d)) (sym (input-cell n j l)) tt
        | inr l ↦ reads-past (map cell.Input (range_with_len 0 n)) j (omega (arith, many))
      ];
      arity = λ j l. subst (λ (d : Cell). length (operands_of d) ≡ operands (kind_of d)) (sym (input-cell n j (omega (arith, many)))) refl;
      slot = λ j l. subst (λ (d : Cell). slots (kind_of d) ≡ 1) (sym (input-cell n j (omega (arith, many)))) refl;
      inputs_first = omega (arith, many);
      firsts = λ i l. input-cell n i l;
      ports = λ j port l e. same-port j port (sym (input-cell n j (omega (arith, many))) ∙ e);
      few_ports = λ j port l e. let same = same-port j port (sym (input-cell n j (omega (arith, many))) ∙ e) in omega (arith, many);
    }
  where
    same-port : (j port : ℕ) → cell.Input j ≡ cell.Input port → j ≡ port
    same-port j port e = cc

no-values : (n k m : ℕ) → IsWithin m (fold_value (replicate n (Constant false)) k)
no-values n k m =
    elim (cases_lt k n) [
      | inl l ↦ subst (IsWithin m) (sym (get_or-replicate n k (Constant false) (Constant false) l)) tt
      | inr l ↦ subst (IsWithin m) (sym (get_or_past (replicate n (Constant false)) k (Constant false) (omega (arith, length-replicate n (Constant false))))) tt
    ]

pub folding-start : (net : Netlist) → IsFoldingOf (length net.inputs) (before_folding net)
folding-start net = record {
  made = inputs-made (length net.inputs);
  within = λ k. no-values (length net.drivers) k (length (map cell.Input (range_with_len 0 (length net.inputs))));
}

pub folding-is : (net : Netlist) → IsNet net → IsFoldingOf (length net.inputs) (folding net)
unfolding folding
folding-is net h =
    folding-all (length net.inputs) (length net.drivers) net.drivers (driver-at (length net.inputs) net.drivers h.drivers) (before_folding net) (walk net) (folding-start net)
