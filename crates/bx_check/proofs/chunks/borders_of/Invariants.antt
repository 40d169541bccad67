use Rattle.std.proofs.Common.{◌≤◌, length}
use Rattle.bx_check.proofs.Borders.{AreBegun}
use Rattle.bx_check.proofs.chunks.borders_of.Given as goal

abbrev pub invariant-loop : goal.invariant-loop
invariant-loop l = record {
  end : l.end ≤ length l.steps.steps;
  begun : AreBegun l.counter (length l.steps.steps) l.borders.items;
}
