use Rattle.std.proofs.Common.{◌∙◌, List, ℕ, map, get_or, ap}
use Rattle.bx_map.specs.Cells.{cell_net}
use Rattle.bx_map.proofs.Staying.{cone_of-is}
use Rattle.bx_map.proofs.keep.keep.Goals as goal

pub returns : goal.returns
returns c =
    c.new.ensures
    ∙ cone_of-is (cell_net c.args.cells.now c.args.outputs.now) c.in_ok-staying.staying.cells.items c.in_ok-staying.staying.ranks.items c.in_ok-outputs.outputs.items c.requires
    c.in_ok-staying.ensures.cells c.in_ok-staying.ensures.ranks
    (c.in_ok-outputs.ensures ∙ ap (λ (ranks : List ℕ). map (λ a. get_or ranks a 0) c.args.outputs.now) c.deref-2.ensures.value)
