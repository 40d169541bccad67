use Rattle.std.specs.Prelude.{All}
use Rattle.bx_library.proofs.Keys.{IsKnown}
use Rattle.bx_library.proofs.names.unknown_name.Given as goal

abbrev pub invariant-loop-name : goal.invariant-loop-name
invariant-loop-name l = record {
  can : (goal.iterator-loop-name).can_next l.name-iterator;
  finite : (goal.iterator-loop-name).is_finite l.name-iterator;
  known : All (λ k. IsKnown k.now) l.yielded;
}
