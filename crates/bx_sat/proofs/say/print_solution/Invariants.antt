-- A front of the text was printed; behind it stand the values that are left.
use Rattle.std.proofs.Common.{◌≡◌, ◌+◌, ◌≤◌, ◌++◌, drop}
use Rattle.bx_desk.specs.Printing.{Prints}
use Rattle.bx_says.specs.Texts.{Text}
use Rattle.bx_sat.specs.Sayings.{values_text, solution_text}
use Rattle.bx_sat.proofs.say.print_solution.Given as goal

abbrev pub invariant-loop-k : goal.invariant-loop-k
invariant-loop-k g l = record {
  column : l.column ≤ 78;
  said : (done : Text) × Prints l.fn.printer l.printer done × (done ++ values_text l.column (l.k + 1) (drop l.k l.bits) ≡ solution_text l.bits);
}
