-- The literals so far stand at the front, and what list stands there goes on with the rest.
use Rattle.std.proofs.Common.{◌≡◌, ℕ, List, ◌++◌, length}
use Rattle.std.specs.List.{AllByRecursion}
use Rattle.bx_cnf.specs.Literals.{Literal, IsLiteral, literal_text}
use Rattle.bx_proof.specs.Readings.{IsClosedAt}
use Rattle.bx_proof.proofs.Closed.{items_text}
use Rattle.bx_proof.proofs.line.read_literals.Given as goal

abbrev pub invariant-loop-word : goal.invariant-loop-word
invariant-loop-word l = record {
  spelled : l.bytes ≡ items_text literal_text l.literals.items ++ l.rest;
  each : AllByRecursion IsLiteral l.literals.items;
  goes_on : (ls : List Literal) (r : List ℕ) → AllByRecursion IsLiteral ls → IsClosedAt literal_text l.bytes ls r → (ms : List Literal) × AllByRecursion IsLiteral ms × IsClosedAt literal_text l.rest ms r;
}

abbrev pub decreases-loop-word : goal.decreases-loop-word
decreases-loop-word l = length l.rest
