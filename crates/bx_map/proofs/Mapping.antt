-- The mapped network of a net is a network.
use Rattle.std.proofs.Common.{◌≡◌, ℕ, suc, ◌<◌, ◌≤◌, nat_lt, Bool, true, false, None, List, [], ◌∷◌, length, map, get_or, sym, ◌∙◌, ap, ap₂, subst, arith, inl, inr}
use Rattle.std.specs.List.{AllByRecursion, position, position_or_len}
use Rattle.std.proofs.lemmas.Bool.{cases_Bool, ltb-false}
use Rattle.std.proofs.lemmas.List.Sums.{fails_before_first}
use Rattle.bx_logic.specs.Nets.{Netlist, IsNet, output_nets}
use Rattle.bx_logic.proofs.Lists.{all-from_get_or}
use Rattle.bx_network.specs.declared.node.Node.{Node}
use Rattle.bx_network.specs.declared.node.Edge.{Edge}
use Rattle.bx_network.specs.Networks.{network_of, IsNetwork}
use Rattle.bx_map.specs.declared.cell.Value.{Value}
use Rattle.bx_map.specs.declared.cell.Value.TheVariants.{Constant, Signal}
use Rattle.bx_map.specs.Cells.{CellNet, AreCells}
use Rattle.bx_map.specs.Folds.{folding}
use Rattle.bx_map.specs.Drops.{cone_of}
use Rattle.bx_map.specs.FanOuts.{IsCellNet}
use Rattle.bx_map.specs.Numbers.{numbering_of}
use Rattle.bx_map.specs.Maps.{is_constant, signal_of, output_folds, first_constant, all_cells, mapping_of, node_count}
use Rattle.bx_map.proofs.Networked.{numbering_of-is_network}
use Rattle.bx_map.proofs.Dropping.{cone_of-is_cell_net}
use Rattle.bx_map.proofs.Folding.{IsWithin, folding-is, map-within}

-- where no item passes, none does
pub none-passes : {X : Type 0} (p : X → Bool) (xs : List X) (d : X) → position p xs ≡ None → AllByRecursion (λ x. p x ≡ false) xs
none-passes p xs d h =
    elim (cases_Bool (nat_lt (position_or_len p xs) (length xs))) [
      | inl found ↦ absurd (let e = rw found at h in cc)
      | inr missing ↦
          let past = ltb-false (position_or_len p xs) (length xs) missing in
          all-from_get_or (λ x. p x ≡ false) xs d (λ k l. fails_before_first p xs k d (omega arith))
    ]

signals-within : (n : ℕ) (vs : List Value) → AllByRecursion (λ v. is_constant v ≡ false) vs → AllByRecursion (IsWithin n) vs → AllByRecursion (λ a. a < n) (map signal_of vs)
signals-within n [] a b = tt
signals-within n (Constant c ∷ vs) a b = absurd (let e : true ≡ false = a.0 in cc)
signals-within n (Signal c ∷ vs) a b = (b.0, signals-within n vs a.1 b.1)

pub all_cells-are : (net : Netlist) → IsNet net → first_constant net ≡ None → AreCells (all_cells net)
all_cells-are net h none =
    let f = folding-is net h in
    record {
      reads = f.made.reads;
      arity = f.made.arity;
      slot = f.made.slot;
      outputs = signals-within (length (folding net).cells) (output_folds net) (none-passes is_constant (output_folds net) (Constant false) none)
          (map-within (length (folding net).cells) (folding net).values (output_nets net) f.within);
      apart = λ i j port l m e g. f.made.ports i port l e ∙ sym (f.made.ports j port m g);
    }

pub mapping_of-is_network : (net : Netlist) → IsNet net → first_constant net ≡ None → node_count net < 2147483648 → IsNetwork (mapping_of net)
mapping_of-is_network net h none few =
    numbering_of-is_network (cone_of (all_cells net)) (cone_of-is_cell_net (all_cells net) (all_cells-are net h none)) few

-- the net in cells that the code numbers is one
pub kept-is_cell_net : (net : Netlist) (cells : CellNet) → IsNet net → first_constant net ≡ None → cells ≡ cone_of (all_cells net) → IsCellNet cells
kept-is_cell_net net cells h none e = subst IsCellNet (sym e) (cone_of-is_cell_net (all_cells net) (all_cells-are net h none))

-- and its nodes and edges are a network
pub kept-is_network : (net : Netlist) (cells : CellNet) (count most : ℕ) → IsNet net → first_constant net ≡ None → cells ≡ cone_of (all_cells net) →
    count ≡ length (numbering_of cells).nodes → count ≤ most → most ≤ 65536 → IsNetwork (numbering_of cells)
kept-is_network net cells count most is none e c l m =
    let size = c ∙ ap (λ (n : CellNet). length (numbering_of n).nodes) e in
    subst IsNetwork (ap numbering_of (sym e)) (mapping_of-is_network net is none (omega (arith, size)))

-- the nodes and edges that the code makes are those of the cells
pub numbering_of-from : (cells fan_outs : CellNet) (nodes : List Node) (edges : List Edge) → fan_outs ≡ cells → nodes ≡ (numbering_of fan_outs).nodes → edges ≡ (numbering_of fan_outs).edges →
    network_of nodes edges ≡ numbering_of cells
numbering_of-from cells fan_outs nodes edges f g h =
    let made : network_of nodes edges ≡ numbering_of fan_outs = ap₂ network_of g h in
    made ∙ ap numbering_of f
