-- The first output that folds to a constant.
use Rattle.std.proofs.Common.{◌≡◌, ℕ, ◌+◌, ◌<◌, ◌≤◌, nat_lt, Bool, true, false, Some, None, List, [], ◌∷◌, ◌++◌, length, map, take, get_or, refl, sym, ◌∙◌, ap, subst, arith, below_more}
use Rattle.std.proofs.lemmas.List.{get_or-map, length-map, map_more, take_all}
use Rattle.bx_logic.specs.Nets.{Netlist, IsNet, output_nets}
use Rattle.bx_logic.proofs.Lists.{position-is, position-none}
use Rattle.bx_map.specs.declared.cell.Cell.{Cell}
use Rattle.bx_map.specs.declared.cell.Value.{Value}
use Rattle.bx_map.specs.declared.cell.Value.TheVariants.{Constant, Signal}
use Rattle.bx_map.specs.Folds.{fold_value, folding}
use Rattle.bx_map.specs.Cells.{cell_net, AreCells}
use Rattle.bx_map.specs.Maps.{is_constant, signal_of, output_folds, first_constant, all_cells}
use Rattle.bx_map.proofs.Mapping.{all_cells-are}

-- no output before this one folds to a constant
abbrev pub SignalsBefore : Netlist → ℕ → Type 0
SignalsBefore net j = (k : ℕ) → k < j → is_constant (get_or (output_folds net) k (Constant false)) ≡ false

module _ (net : Netlist) (values : List Value) (is : values ≡ (folding net).values) where
  many : length (output_folds net) ≡ length net.outputs
  many = length-map (output_nets net) (fold_value (folding net).values) ∙ length-map net.outputs (λ (output : List ℕ × ℕ). output.1)

  output-at : (j n : ℕ) → j < length net.outputs → n ≡ get_or (output_nets net) j 0 → get_or (output_folds net) j (Constant false) ≡ fold_value values n
  output-at j n l e =
      let nets = length-map net.outputs (λ (output : List ℕ × ℕ). output.1) in
      get_or-map (fold_value (folding net).values) (output_nets net) j 0 (Constant false) (omega (arith, nets))
      ∙ (ap (fold_value (folding net).values) (sym e) ∙ ap (λ (vs : List Value). fold_value vs n) (sym is))

  pub constant-first : (j n : ℕ) (b : Bool) → j < length net.outputs → n ≡ get_or (output_nets net) j 0 → fold_value values n ≡ Constant b → SignalsBefore net j →
      first_constant net ≡ Some j
  constant-first j n b l e f before =
      let all = many in
      position-is is_constant (output_folds net) j (Constant false) (omega (arith, all)) before (ap is_constant (output-at j n l e ∙ f))

  pub signals-more : (j n a : ℕ) → j < length net.outputs → n ≡ get_or (output_nets net) j 0 → fold_value values n ≡ Signal a → SignalsBefore net j → SignalsBefore net (j + 1)
  signals-more j n a l e f before = below_more _ _ before (ap is_constant (output-at j n l e ∙ f))

  pub made-more : (j n a : ℕ) (made later : List ℕ) → j < length net.outputs → n ≡ get_or (output_nets net) j 0 → fold_value values n ≡ Signal a →
      made ≡ map signal_of (take j (output_folds net)) → later ≡ made ++ a ∷ [] → later ≡ map signal_of (take (j + 1) (output_folds net))
  made-more j n a made later l e f h g =
      let all = many in
      g ∙ (ap (λ (xs : List ℕ). xs ++ a ∷ []) h
      ∙ (ap (λ (v : Value). map signal_of (take j (output_folds net)) ++ signal_of v ∷ []) (sym (output-at j n l e ∙ f))
      ∙ sym (map_more signal_of (output_folds net) j (Constant false) (omega (arith, all)))))

  pub no-constant : (j : ℕ) → length net.outputs ≤ j → SignalsBefore net j → first_constant net ≡ None
  no-constant j l before = let all = many in position-none is_constant (output_folds net) (Constant false) (λ k m. before k (omega (arith, all)))

  pub all-made : (j : ℕ) (made : List ℕ) → length net.outputs ≤ j → made ≡ map signal_of (take j (output_folds net)) → made ≡ map signal_of (output_folds net)
  all-made j made l e = let all = many in e ∙ ap (map signal_of) (take_all j (output_folds net) (omega (arith, all)))

-- the cells of a net of which no output folds to a constant
pub all_cells-is : (net : Netlist) (cells : List Cell) (outputs : List ℕ) → cells ≡ (folding net).cells → outputs ≡ map signal_of (output_folds net) → cell_net cells outputs ≡ all_cells net
all_cells-is net cells outputs e f = ap (λ (cs : List Cell). cell_net cs outputs) e ∙ ap (λ (os : List ℕ). cell_net (folding net).cells os) f

pub all_cells-drop : (net : Netlist) (cells : List Cell) (outputs : List ℕ) → IsNet net → first_constant net ≡ None → cells ≡ (folding net).cells →
    outputs ≡ map signal_of (output_folds net) → AreCells (cell_net cells outputs)
all_cells-drop net cells outputs h none e f = subst AreCells (sym (all_cells-is net cells outputs e f)) (all_cells-are net h none)
