-- The mapped network of a net gives what the net gives.
use Rattle.std.proofs.Common.{◌≡◌, ℕ, zero, suc, ◌<◌, Bool, true, false, not, None, List, [], ◌∷◌, length, map, get_or, refl, sym, ◌∙◌, ap, ap₂, subst, arith}
use Rattle.std.specs.List.{AllByRecursion}
use Rattle.std.proofs.lemmas.List.{length-map, get_or-map}
use Rattle.bx_logic.specs.Nets.{Netlist, IsNet, output_nets}
use Rattle.bx_logic.specs.Values.{value_of, AreOutputValues}
use Rattle.bx_logic.specs.Behaviours.{SameBehaviour, net_behaviour}
use Rattle.bx_logic.proofs.Lists.{all-get_or}
use Rattle.bx_logic.proofs.Behaviours.{same-functions, net-function}
use Rattle.bx_forms.specs.Kinds.{gives}
use Rattle.bx_forms.specs.declared.kind.Kind.TheVariants as kind
use Rattle.bx_network.specs.Networks.{Network, IsNetwork, output_count}
use Rattle.bx_network.specs.Values.{IsOnlyValuation, NetworkGives, network_behaviour}
use Rattle.bx_network.proofs.Valuations.{one-valuation, network-function}
use Rattle.bx_map.specs.declared.cell.Cell.{Cell}
use Rattle.bx_map.specs.declared.cell.Cell.TheVariants.{Input, Not, Gate}
use Rattle.bx_map.specs.declared.cell.Value.{Value}
use Rattle.bx_map.specs.declared.cell.Value.TheVariants.{Constant, Signal}
use Rattle.bx_map.specs.FanOuts.{IsCellNet}
use Rattle.bx_map.specs.Cells.{CellNet, cell_at, operands_of, with_numbers, AreCells}
use Rattle.bx_map.specs.Folds.{fold_value, folding}
use Rattle.bx_map.specs.Drops.{rank, stay_of, cone_of}
use Rattle.bx_map.specs.Maps.{is_constant, signal_of, output_folds, first_constant, all_cells, mapping_of, node_count}
use Rattle.bx_map.proofs.Networked.{output_count-is, output-at, node-at}
use Rattle.bx_map.proofs.Keeping.{Has, has-itself, has-get_or, all-has, stay_before-within, stay_before-rises, rank-within, at-rank}
use Rattle.bx_map.proofs.Dropping.{cone_of-count, cell-is, has-at, reads-stay, outputs-stay, cone_of-is_cell_net}
use Rattle.bx_map.proofs.Mapping.{none-passes, all_cells-are, mapping_of-is_network}
use Rattle.bx_map.proofs.Truths.{truths, cell_truth, truth-at, meaning}
use Rattle.bx_map.proofs.Meanings.{outputs-meant}
use Rattle.bx_map.proofs.Carrying.{AreCellValues, edge_values, valuation, output-reads}

truth-with_numbers : (bits one other : List Bool) (f : ℕ → ℕ) (c : Cell) → AllByRecursion (λ a. value_of one a ≡ value_of other (f a)) (operands_of c) →
    cell_truth bits one c ≡ cell_truth bits other (with_numbers f c)
truth-with_numbers bits one other f (Input port) h = refl
truth-with_numbers bits one other f (Not a) h = ap not h.0
truth-with_numbers bits one other f (Gate k a b) h = ap₂ (λ (x y : Bool). gives k (x ∷ y ∷ []) 0) h.0 h.1.0

-- the values of the cells that stay
known_of : CellNet → List Bool → List Bool
known_of net bits = map (value_of (truths bits net.cells)) (stay_of net)

module _ (net : CellNet) (h : AreCells net) (bits : List Bool) where
  known-rank : (a : ℕ) → Has (stay_of net) a → value_of (known_of net bits) (rank (stay_of net) a) ≡ value_of (truths bits net.cells) a
  unfolding known_of
  known-rank a s =
      get_or-map (value_of (truths bits net.cells)) (stay_of net) (rank (stay_of net) a) 0 false (rank-within (stay_of net) a s)
      ∙ ap (value_of (truths bits net.cells)) (at-rank (stay_of net) (stay_before-rises net.cells (length net.cells) net.outputs) a s)

  known-each : (k : ℕ) → k < length (cone_of net).cells → value_of (known_of net bits) k ≡ cell_truth bits (known_of net bits) (cell_at (cone_of net).cells k)
  unfolding known_of
  known-each k l =
      let i : ℕ = get_or (stay_of net) k 0 in
      let s = has-at net h k l in
      let many = cone_of-count net h in
      let within : i < length net.cells = all-has (λ j. j < length net.cells) (stay_of net) i (stay_before-within net.cells (length net.cells) net.outputs) s in
      get_or-map (value_of (truths bits net.cells)) (stay_of net) k 0 false (omega (arith, many, l))
      ∙ (truth-at bits net.cells h.reads i within
      ∙ (truth-with_numbers bits (truths bits net.cells) (known_of net bits) (rank (stay_of net)) (cell_at net.cells i)
      (has-itself (λ a. value_of (truths bits net.cells) a ≡ value_of (known_of net bits) (rank (stay_of net) a)) (operands_of (cell_at net.cells i))
      (λ a r. sym (known-rank a (reads-stay net h i s a r))))
      ∙ ap (cell_truth bits (known_of net bits)) (sym (cell-is net h k l))))

  cone_of-values : AreCellValues (cone_of net) bits (known_of net bits)
  unfolding known_of
  cone_of-values = record {
    whole = length-map (stay_of net) (value_of (truths bits net.cells)) ∙ sym (cone_of-count net h);
    each = known-each;
  }

  -- an output keeps its value
  output-keeps : (p : ℕ) → p < length net.outputs → value_of (known_of net bits) (get_or (cone_of net).outputs p 0) ≡ value_of (truths bits net.cells) (get_or net.outputs p 0)
  unfolding cone_of
  output-keeps p l =
      ap (value_of (known_of net bits)) (get_or-map (rank (stay_of net)) net.outputs p 0 0 l)
      ∙ known-rank (get_or net.outputs p 0) (outputs-stay net h (get_or net.outputs p 0) (has-get_or net.outputs p l))

  outputs-number : length (cone_of net).outputs ≡ length net.outputs
  unfolding cone_of
  outputs-number = length-map net.outputs (rank (stay_of net))

signal-means : (known : List Bool) (v : Value) → is_constant v ≡ false → meaning known v ≡ value_of known (signal_of v)
signal-means known (Constant b) e = absurd (let f : true ≡ false = e in cc)
signal-means known (Signal a) e = refl

module _ (net : Netlist) (h : IsNet net) (no_constant : first_constant net ≡ None) where
  -- the value of an output of the net is that of its cell
  output-is : (bits outputs : List Bool) (given : AreOutputValues net bits outputs) (p : ℕ) → p < length (output_nets net) →
      value_of outputs p ≡ value_of (truths bits (all_cells net).cells) (get_or (all_cells net).outputs p 0)
  output-is bits outputs given p l =
      let o : ℕ = get_or (output_nets net) p 0 in
      let v : Value = fold_value (folding net).values o in
      let folds = length-map (output_nets net) (fold_value (folding net).values) in
      let same = get_or-map (fold_value (folding net).values) (output_nets net) p 0 (Constant false) l in
      let signal : is_constant v ≡ false =
      subst (λ (u : Value). is_constant u ≡ false) same
      (all-get_or (λ u. is_constant u ≡ false) (output_folds net) p (Constant false) (omega (arith, folds, l)) (none-passes is_constant (output_folds net) (Constant false) no_constant)) in
      ap (λ (vs : List Bool). value_of vs p) given.read
      ∙ (get_or-map (value_of given.values) (output_nets net) p 0 false l
      ∙ (sym (outputs-meant net h bits given.values given.valuation.is o (has-get_or (output_nets net) p l))
      ∙ (signal-means (truths bits (folding net).cells) v signal
      ∙ ap (λ (u : Value). value_of (truths bits (folding net).cells) (signal_of u)) (sym same)
      ∙ ap (value_of (truths bits (folding net).cells)) (sym (get_or-map signal_of (output_folds net) p (Constant false) 0 (omega (arith, folds, l)))))))

  pub gives-same : (few : node_count net < 2147483648) (bits outputs : List Bool) → ((N : Network) → IsNetwork N → (values : List Bool) × IsOnlyValuation N bits values) →
      AreOutputValues net bits outputs → NetworkGives (length net.inputs) (mapping_of net) bits outputs
  gives-same few bits outputs one given =
      let all : AreCells (all_cells net) = all_cells-are net h no_constant in
      let kept : IsCellNet (cone_of (all_cells net)) = cone_of-is_cell_net (all_cells net) all in
      let is : IsNetwork (mapping_of net) = mapping_of-is_network net h no_constant few in
      let known : List Bool = known_of (all_cells net) bits in
      let values = cone_of-values (all_cells net) all bits in
      let edges : List Bool = edge_values (cone_of (all_cells net)) kept is bits known values in
      let mine = valuation (cone_of (all_cells net)) kept is bits known values in
      let (theirs, only) = one (mapping_of net) is in
      let count = output_count-is (cone_of (all_cells net)) kept in
      let fewer = outputs-number (all_cells net) all bits in
      let many : length (all_cells net).outputs ≡ length (output_nets net) =
      length-map (output_folds net) signal_of ∙ length-map (output_nets net) (fold_value (folding net).values) in
      let long : length outputs ≡ length (output_nets net) = ap length given.read ∙ length-map (output_nets net) (value_of given.values) in
      record {
        given = given.inputs;
        values = edges;
        valuation = subst (IsOnlyValuation (mapping_of net) bits) (sym (only.only edges mine)) only;
        all = omega (arith, count, fewer, many, long);
        read = λ v port at.
            let here = output-at (cone_of (all_cells net)) kept v port (node-at (cone_of (all_cells net)) v (record { kind = kind.Output; port = port }) at) in
            output-is bits outputs given port (omega (arith, here.0, fewer, many))
            ∙ (sym (output-keeps (all_cells net) all bits port (omega (arith, here.0, fewer)))
            ∙ sym (output-reads (cone_of (all_cells net)) kept is bits known values v port at));
      }

pub computes : (net : Netlist) → IsNet net → first_constant net ≡ None → node_count net < 2147483648 →
    SameBehaviour (net_behaviour net) (network_behaviour (length net.inputs) (mapping_of net))
computes net h none few =
    let is = mapping_of-is_network net h none few in
    same-functions (length net.inputs) (length net.outputs) (output_count (mapping_of net)) (net_behaviour net) (network_behaviour (length net.inputs) (mapping_of net))
    (net-function net h) (network-function (length net.inputs) (mapping_of net) is)
    (λ bits outputs given. gives-same net h none few bits outputs (λ N n. one-valuation N bits n) given)
