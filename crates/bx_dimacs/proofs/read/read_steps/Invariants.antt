-- The lines that are left say what all lines do, of what was read so far.
use Rattle.std.proofs.Common.{◌≡◌, ◌+◌, false, length}
use Rattle.bx_dimacs.specs.Proofs.{IsOpen}
use Rattle.bx_dimacs.specs.ProofTexts.{ProofText, proof_of, read_steps}
use Rattle.bx_dimacs.specs.StepsShown.{KeepsSoFar}
use Rattle.bx_dimacs.specs.Words.{lines_from}
use Rattle.bx_dimacs.proofs.read.read_steps.Given as goal

abbrev pub invariant-loop-line : goal.invariant-loop-line
invariant-loop-line l = record {
  goes_on : IsOpen l.clauses l.proof;
  says : (said : ProofText) × KeepsSoFar l.clauses l.proof false said
      × (proof_of l.clauses l.text ≡ read_steps l.clauses said (lines_from (l.lines.number + 1) l.lines.rest.now));
}

abbrev pub decreases-loop-line : goal.decreases-loop-line
decreases-loop-line l = length l.lines.rest.now
