use Rattle.std.proofs.Common.{sym, ap, ◌∙◌, subst, length, [], arith}
use Rattle.bx_verilog.specs.Elaboration.{inner_size}
use Rattle.bx_verilog.specs.Lowering.{HaveArguments}
use Rattle.bx_verilog.proofs.DriverSteps.{module-drives, module_drivers}
use Rattle.bx_verilog.proofs.Numbering.{firsts-distinct}
use Rattle.bx_verilog.proofs.drivers.drivers.Goals as goal

pub input_drivers-requires-clause-distinct : goal.input_drivers-requires-clause-distinct
input_drivers-requires-clause-distinct c = rw c.requires.names (firsts-distinct _)

pub drive_items-requires-clause-some : goal.drive_items-requires-clause-some
drive_items-requires-clause-some c = subst HaveArguments (sym (module-drives c.args.module.now _ c.items.ensures.items)) c.requires.some

pub drive_items-requires-clause-fits : goal.drive_items-requires-clause-fits
drive_items-requires-clause-fits c =
    omega (arith, ap inner_size (module-drives c.args.module.now _ c.items.ensures.items), ap length c.new.ensures.items, ap length c.requires.names, c.requires.fits)

pub drive_items-requires-clause-distinct : goal.drive_items-requires-clause-distinct
drive_items-requires-clause-distinct c = rw c.requires.names (firsts-distinct _)

pub returns : goal.returns
returns c =
    let made = c.in_ok-drive_items.ensures.drivers c.args.inputs.now [] (record { named = c.in_ok-input_drivers.ensures; inner = c.new.ensures.items }) in
    c.in_ok-append.ensures.items ∙ module_drivers c.args.module.now _ _ _ _ c.requires.names c.requires.inputs (module-drives c.args.module.now _ c.items.ensures.items) made
