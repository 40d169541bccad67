use Rattle.std.proofs.Common.{◌∙◌, ap, length, arith}
use Rattle.bx_verilog.specs.Mentions.{is_input}
use Rattle.bx_verilog.proofs.ElaboratedNets.{few-of-ports}
use Rattle.bx_verilog.proofs.Elaborating.{have-arguments, few-names, few-drivers, reads-only, cycle-within, cycle-least}
use Rattle.bx_verilog.proofs.elaborate.acyclic_drivers.Goals as goal

pub drivers-requires-clause-some : goal.drivers-requires-clause-some
drivers-requires-clause-some c = have-arguments c.args.module.now c.requires.tree

pub drivers-requires-clause-few : goal.drivers-requires-clause-few
drivers-requires-clause-few c = omega (arith, ap length c.requires.inputs, few-of-ports is_input c.args.module.now c.requires.tree)

pub drivers-requires-clause-fits : goal.drivers-requires-clause-fits
drivers-requires-clause-fits c = few-names c.args.module.now c.requires.tree

pub least_net_on_cycle-requires-clause-few : goal.least_net_on_cycle-requires-clause-few
least_net_on_cycle-requires-clause-few c = few-drivers c.args.module.now _ c.requires.tree (c.deref.ensures.value ∙ c.in_ok-drivers.ensures)

pub least_net_on_cycle-requires-clause-reads : goal.least_net_on_cycle-requires-clause-reads
least_net_on_cycle-requires-clause-reads c = reads-only c.args.module.now _ (c.deref.ensures.value ∙ c.in_ok-drivers.ensures)

pub name-requires : goal.name-requires
name-requires c =
    cycle-within c.args.module.now _ _ _ c.requires.driven c.requires.names (c.deref.ensures.value ∙ c.in_ok-drivers.ensures) (rw c.in-Some.is at c.in_ok-net.ensures.least)

pub returns-in-Some-clause-faults : goal.returns-in-Some-clause-faults
returns-in-Some-clause-faults c = λ _. (
  c.requires.driven,
  cycle-least c.args.module.now _ _ _ _ c.requires.driven c.requires.names (c.deref.ensures.value ∙ c.in_ok-drivers.ensures) (rw c.in-Some.is at c.in_ok-net.ensures.least)
      (c.in_ok-copy.ensures ∙ c.name.ensures),
)

pub returns-clause-acyclic : goal.returns-clause-acyclic
returns-clause-acyclic c =
    let acyclic = rw c.in_default.is at c.in_ok-net.ensures.least in
    rw c.deref.ensures.value at acyclic
