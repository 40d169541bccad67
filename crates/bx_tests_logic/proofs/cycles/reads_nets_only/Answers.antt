use Rattle.std.proofs.Common.{ℕ, ◌<◌, length, arith, refl, below_more}
use Rattle.bx_logic.proofs.Cycles.{reader-within, each-read, item-arguments}
use Rattle.bx_tests_logic.proofs.cycles.reads_nets_only.Goals as goal

pub loop-driver-preserved : goal.loop-driver-preserved
loop-driver-preserved c =
    below_more _ _ c.loop-driver.invariant
    (each-read (λ (m : ℕ). m < length c.args.drivers.now) _ c.loop-driver.driver-index _
    (item-arguments _ c.loop-driver.driver-index _ _ c.loop-driver-test.true c.driver-item.is refl) (c.if-not-reads_below.ensures refl))

pub returns : goal.returns
returns c t n m r = let h = reader-within _ n m r in c.loop-driver.invariant n (omega (arith, h)) m r
