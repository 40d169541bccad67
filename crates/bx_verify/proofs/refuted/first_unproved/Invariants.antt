use Rattle.std.proofs.Common.{ℕ, ◌<◌, ◌≡◌, Some, slice_get}
use Rattle.bx_cert.specs.declared.parts.Section.{Section}
use Rattle.bx_layout.specs.Permits.{test_of}
use Rattle.bx_refutes.specs.Refutations.{IsRefutedBy}
use Rattle.bx_verify.proofs.refuted.first_unproved.Given as goal

abbrev pub invariant-loop-k : goal.invariant-loop-k
invariant-loop-k g l = (j : ℕ) (s : Section) → j < l.k → slice_get l.sections j ≡ Some s → IsRefutedBy l.net (test_of l.permit) s.ratio s.proof
