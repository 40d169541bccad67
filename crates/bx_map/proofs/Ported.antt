-- The ports of a mapped network are those of its net.
use Rattle.std.proofs.Common.{◌≡◌, ℕ, ◌<◌, None, List, length, ◌∙◌}
use Rattle.std.proofs.lemmas.List.{length-map}
use Rattle.bx_logic.specs.Nets.{Netlist, IsNet, output_nets}
use Rattle.bx_forms.specs.declared.kind.Kind.TheVariants as kind
use Rattle.bx_network.specs.Networks.{HasPort, output_count}
use Rattle.bx_map.specs.Folds.{fold_value, folding}
use Rattle.bx_map.specs.Drops.{cone_of}
use Rattle.bx_map.specs.Maps.{signal_of, output_folds, first_constant, all_cells, mapping_of}
use Rattle.bx_map.proofs.Networked.{node-at, input-at, output_count-is}
use Rattle.bx_map.proofs.Dropping.{cone_of-is_cell_net, cone_of-input, cone_of-outputs}
use Rattle.bx_map.proofs.Folding.{folding-is}
use Rattle.bx_map.proofs.Mapping.{all_cells-are}

pub input-ports : (net : Netlist) → IsNet net → first_constant net ≡ None → (v port : ℕ) → HasPort (mapping_of net) v kind.Input port → port < length net.inputs
input-ports net h none v port has =
    let all = all_cells-are net h none in
    let kept = cone_of-is_cell_net (all_cells net) all in
    let (i, l, at, is) = input-at (cone_of (all_cells net)) kept v port (node-at (cone_of (all_cells net)) v (record { kind = kind.Input; port = port }) has) in
    let (s, m, was) = cone_of-input (all_cells net) all i port l is in
    (folding-is net h).made.few_ports s port m was

pub output-ports : (net : Netlist) → IsNet net → first_constant net ≡ None → output_count (mapping_of net) ≡ length net.outputs
output-ports net h none =
    let all = all_cells-are net h none in
    output_count-is (cone_of (all_cells net)) (cone_of-is_cell_net (all_cells net) all)
    ∙ cone_of-outputs (all_cells net) all
    ∙ length-map (output_folds net) signal_of
    ∙ length-map (output_nets net) (fold_value (folding net).values)
    ∙ length-map net.outputs (λ (output : List ℕ × ℕ). output.1)
