-- The hints so far stand at the front, and what list stands there goes on with the rest.
use Rattle.std.proofs.Common.{◌≡◌, ℕ, List, ◌++◌, length}
use Rattle.std.specs.Prelude.{decimal}
use Rattle.std.specs.List.{AllByRecursion}
use Rattle.bx_proof.specs.Readings.{IsClosedAt, IsHint}
use Rattle.bx_proof.proofs.Closed.{items_text}
use Rattle.bx_proof.proofs.line.read_hints.Given as goal

abbrev pub invariant-loop-word : goal.invariant-loop-word
invariant-loop-word l = record {
  spelled : l.bytes ≡ items_text decimal l.hints.items ++ l.rest;
  each : AllByRecursion IsHint l.hints.items;
  goes_on : (hs : List ℕ) (r : List ℕ) → AllByRecursion IsHint hs → IsClosedAt decimal l.bytes hs r → (gs : List ℕ) × AllByRecursion IsHint gs × IsClosedAt decimal l.rest gs r;
}

abbrev pub decreases-loop-word : goal.decreases-loop-word
decreases-loop-word l = length l.rest
