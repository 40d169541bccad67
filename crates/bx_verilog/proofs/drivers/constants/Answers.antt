use Rattle.std.proofs.Common.{ap, sym, ◌∙◌, ◌++◌, ◌∷◌, [], false, arith}
use Rattle.bx_logic.specs.declared.driver.Driver.TheVariants.{Constant}
use Rattle.bx_verilog.proofs.DriverSteps.{map_constant_more}
use Rattle.bx_verilog.proofs.drivers.constants.Goals as goal

pub loop-preserved : goal.loop-preserved
loop-preserved c =
    let m = map_constant_more (Constant false) c.args.names.now c.loop.counter (omega arith) in
    c.in_ok-push.ensures.items ∙ (ap (λ xs. xs ++ Constant false ∷ []) c.loop.invariant ∙ sym m)
