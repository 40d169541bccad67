use Rattle.std.proofs.Common.{◌≡◌, false, map, take}
use Rattle.bx_logic.specs.declared.driver.Driver.TheVariants.{Constant}
use Rattle.bx_verilog.proofs.drivers.constants.Given as goal

abbrev pub invariant-loop : goal.invariant-loop
invariant-loop l = l.named.items ≡ map (λ n. Constant false) (take l.counter l.names)
