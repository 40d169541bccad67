-- The lines of the steps so far stand in front of the rest.
use Rattle.std.proofs.Common.{◌≡◌, ◌++◌, length}
use Rattle.bx_lines.specs.Lines.{text_of}
use Rattle.bx_proof.specs.Steps.{AreSteps}
use Rattle.bx_proof.specs.Texts.{step_lines}
use Rattle.bx_proof.proofs.read.read_from.Given as goal

abbrev pub invariant-loop-rest : goal.invariant-loop-rest
invariant-loop-rest l = record {
  first : l.steps.first ≡ l.first;
  steps : AreSteps l.first l.steps.steps;
  spelled : l.text ≡ text_of (step_lines l.first l.steps.steps) ++ l.rest;
}

abbrev pub decreases-loop-rest : goal.decreases-loop-rest
decreases-loop-rest l = length l.rest
