-- The sections so far.
use Rattle.std.proofs.Common.{◌≡◌, length}
use Rattle.bx_design.specs.Certificates.{sections_of}
use Rattle.bx_design.proofs.certificate.make_sections.Given as goal

abbrev pub invariant-loop-proof : goal.invariant-loop-proof
invariant-loop-proof l = record {
  can : (goal.iterator-loop-proof).can_next l.proof-iterator;
  finite : (goal.iterator-loop-proof).is_finite l.proof-iterator;
  are : l.sections.items ≡ sections_of l.ratios l.yielded;
  count : length l.sections.items ≡ length l.yielded;
}
