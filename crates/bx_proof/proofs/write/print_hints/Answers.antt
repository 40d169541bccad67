use Rattle.std.proofs.Common.{◌∷◌, ap, arith}
use Rattle.std.specs.Prelude.{decimal}
use Rattle.bx_desk.proofs.Printing.{prints_nothing, prints_turn, prints_as}
use Rattle.bx_proof.proofs.write.print_hints.Goals as goal

pub loop-hint-init : goal.loop-hint-init
loop-hint-init g c = prints_nothing _

pub loop-hint-preserved : goal.loop-hint-preserved
loop-hint-preserved g c =
    prints_turn (λ h. 32 ∷ decimal h) c.args.hints.now c.loop-hint.hint-index _ (omega arith) c.loop-hint.invariant
    (prints_as (ap (λ n. 32 ∷ decimal n) c.from.ensures) c.further.ensures)
