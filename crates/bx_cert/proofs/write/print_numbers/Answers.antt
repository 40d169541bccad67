use Rattle.std.proofs.Common.{◌∷◌, arith}
use Rattle.std.specs.Prelude.{decimal}
use Rattle.bx_desk.proofs.Printing.{prints_nothing, prints_turn}
use Rattle.bx_cert.proofs.write.print_numbers.Goals as goal

pub loop-number-init : goal.loop-number-init
loop-number-init g c = prints_nothing _

pub loop-number-preserved : goal.loop-number-preserved
loop-number-preserved g c = prints_turn (λ n. 32 ∷ decimal n) c.args.numbers.now c.loop-number.number-index _ (omega arith) c.loop-number.invariant c.further.ensures
