use Rattle.std.proofs.Common.{◌∙◌}
use Rattle.bx_desk.proofs.Printing.{prints_then, prints_as}
use Rattle.bx_says.proofs.Printed.{head_is}
use Rattle.bx_says.proofs.head.print_head.Goals as goal

pub returns : goal.returns
returns g c =
    prints_as (head_is c.args.net.now c.args.mapped.now c.as_slice.result.now c.node_count.result c.edge_count.result (c.as_slice.ensures ∙ c.name.ensures) c.node_count.ensures.count c.edge_count.ensures.count)
    (prints_then c.line.ensures (prints_then c.line-2.ensures c.print_unused.ensures))
