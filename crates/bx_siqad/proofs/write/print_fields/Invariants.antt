-- The fields so far were printed.
use Rattle.std.proofs.Common.{take, ◌++◌}
use Rattle.std.specs.List.{flat_map}
use Rattle.bx_desk.specs.Printing.{Prints}
use Rattle.std.specs.Prelude.{decimal}
use Rattle.bx_siqad.proofs.write.print_fields.Given as goal

abbrev pub invariant-loop-field : goal.invariant-loop-field
invariant-loop-field g l = Prints l.fn.printer l.printer (flat_map (λ field. field.0.now ++ decimal field.1) (take l.field-index l.fields))
