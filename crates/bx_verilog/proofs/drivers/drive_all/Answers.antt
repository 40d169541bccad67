use Rattle.std.proofs.Common.{arith}
use Rattle.std.proofs.lemmas.Grind.{common_steps}
use Rattle.bx_verilog.proofs.DriverSteps.{target_set}
use Rattle.bx_verilog.proofs.drivers.drive_all.Goals as goal

pub loop-target-preserved : goal.loop-target-preserved
loop-target-preserved c = λ F e.
    target_set c.args.names.now F c.args.targets.now _ _ _ _ _ _ c.requires.distinct c.loop-target-test.true c.target-item.is (grind (arith, common_steps)) (c.loop-target.invariant F e) c.set_driver.ensures
