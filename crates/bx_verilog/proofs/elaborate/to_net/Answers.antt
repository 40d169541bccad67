use Rattle.std.proofs.Common.{ap, length, arith}
use Rattle.bx_verilog.proofs.Numbering.{names-found}
use Rattle.bx_verilog.proofs.Elaborating.{few-names, exact}
use Rattle.bx_verilog.proofs.elaborate.to_net.Goals as goal

pub of-requires : goal.of-requires
of-requires c =
    let e = names-found c.args.module.now c.in_ok-mentions.mentions.items c.in_ok-mentions.ensures.found in
    rw c.deref.ensures.value (omega (arith, ap length e, few-names c.args.module.now c.in_ok-mentions.ensures.tree))

pub returns-clause-exact : goal.returns-clause-exact
returns-clause-exact c = exact c.args.module.now _ c.net_of_names.ensures.found c.net_of_names.ensures.faults
