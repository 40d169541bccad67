use Rattle.std.proofs.Common.{arith, ◌++◌}
use Rattle.bx_desk.proofs.Printing.{prints_nothing, prints_turn}
use Rattle.std.specs.Prelude.{decimal}
use Rattle.bx_siqad.proofs.write.print_fields.Goals as goal

pub loop-field-init : goal.loop-field-init
loop-field-init g c = prints_nothing _

pub loop-field-preserved : goal.loop-field-preserved
loop-field-preserved g c = prints_turn (λ field. field.0.now ++ decimal field.1) c.args.fields.now c.loop-field.field-index _ (omega arith) c.loop-field.invariant c.print_field.ensures
