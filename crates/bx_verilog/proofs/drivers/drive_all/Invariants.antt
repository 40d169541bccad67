use Rattle.std.proofs.Common.{◌≡◌, map, take}
use Rattle.std.specs.Prelude.{if◌then◌else◌}
use Rattle.std.specs.List.{list_any}
use Rattle.std.specs.Str.{bytes_eq}
use Rattle.bx_logic.specs.declared.driver.Driver.{Driver}
use Rattle.bx_logic.specs.declared.driver.Driver.TheVariants.{Gate}
use Rattle.bx_verilog.specs.Formulas.{Text}
use Rattle.bx_verilog.proofs.drivers.drive_all.Given as goal

abbrev pub invariant-loop-target : goal.invariant-loop-target
invariant-loop-target l =
    (F : Text → Driver) → l.fn.named.items ≡ map F l.names
    → l.named.items ≡ map (λ n. if list_any (bytes_eq n) (take l.target-index l.targets) then Gate l.op l.nets else F n) l.names
