use Rattle.std.proofs.Common.{◌≡◌, ◌++◌, List, subst}
use Rattle.bx_map.specs.declared.consumer.Use.{Use}
use Rattle.bx_map.specs.FanOuts.{cell_uses}
use Rattle.bx_map.proofs.Using.{uses-are}
use Rattle.bx_map.proofs.uses.uses_of.Goals as goal

pub returns : goal.returns
returns c =
    uses-are c.args.net.now c.cells.result.now c.outputs.result.now c.put_cell_uses.new.all.items c.put_output_uses.new.all.items c.cells.ensures c.outputs.ensures
    (subst (λ (us : List Use). c.put_cell_uses.new.all.items ≡ us ++ cell_uses 0 c.cells.result.now) c.new-all.ensures.items c.in_ok-put_cell_uses.ensures)
    c.in_ok-put_output_uses.ensures
