use Rattle.std.proofs.Common.{◌∷◌, ap, arith}
use Rattle.bx_cnf.specs.Literals.{Literal, literal_text}
use Rattle.bx_desk.proofs.Printing.{prints_nothing, prints_turn, prints_as}
use Rattle.bx_proof.proofs.write.print_literals.Goals as goal

pub loop-literal-init : goal.loop-literal-init
loop-literal-init g c = prints_nothing _

pub loop-literal-preserved : goal.loop-literal-preserved
loop-literal-preserved g c =
    prints_turn (λ l. 32 ∷ literal_text l) c.args.literals.now c.loop-literal.literal-index c.literal-item.result (omega arith) c.loop-literal.invariant
    (prints_as (ap (λ (l : Literal). 32 ∷ literal_text l) c.literal-item.is) c.print_literal.ensures)
