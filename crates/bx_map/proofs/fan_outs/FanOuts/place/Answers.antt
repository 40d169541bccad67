use Rattle.std.proofs.Common.{arith}
use Rattle.bx_map.proofs.Starts.{output-fits}
use Rattle.bx_map.proofs.fan_outs.FanOuts.place.Goals as goal

pub overflow_add-result : goal.overflow_add-result
overflow_add-result c =
    let low = output-fits _ c.args.consumer c.in-Output.port c.number-in-Output.result _ c.requires c.in-Output.is c.number-in-Output.ensures.few c.cells.ensures c.number-in-Output.ensures.number in
    omega arith
