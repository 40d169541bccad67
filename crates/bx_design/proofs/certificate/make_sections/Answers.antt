-- No section at first, and one more for each refutation.
use Rattle.std.proofs.Common.{◌≡◌, ℕ, ◌+◌, List, [], ◌∷◌, ◌++◌, length, Some, sym, ap, ◌∙◌, subst, length-append, slice_get}
use Rattle.bx_cert.specs.declared.parts.Section.{Section}
use Rattle.bx_design.proofs.Sections.{sections-none, sections-more}
use Rattle.bx_design.proofs.certificate.make_sections.Goals as goal

pub loop-proof-init : goal.loop-proof-init
loop-proof-init c = record {
  can = tt;
  finite = tt;
  are = c.in_ok-sections.ensures.items ∙ sym (sections-none c.args.ratios.now);
  count = ap length c.in_ok-sections.ensures.items;
}

pub loop-proof-preserved : goal.loop-proof-preserved
loop-proof-preserved c =
    let index : c.len-in-loop-proof.result ≡ length c.loop-proof.yielded = c.len-in-loop-proof.ensures ∙ c.loop-proof.sections.ok.0 ∙ c.loop-proof.invariant.count in
    let at : slice_get c.args.ratios.now (length c.loop-proof.yielded) ≡ Some c.at-ratio.result = subst (λ (k : ℕ). slice_get c.args.ratios.now k ≡ Some c.at-ratio.result) index c.at-ratio.ensures in
    record {
      can = tt;
      finite = tt;
      are = c.in_ok-push.ensures.items ∙ ap (λ (ss : List Section). ss ++ record { ratio = c.at-ratio.result; proof = c.in-Some.proof } ∷ []) c.loop-proof.invariant.are
          ∙ sym (sections-more c.args.ratios.now c.loop-proof.yielded c.at-ratio.result c.in-Some.proof at);
      count = ap length c.in_ok-push.ensures.items ∙ length-append c.loop-proof.sections.items (record { ratio = c.at-ratio.result; proof = c.in-Some.proof } ∷ []) ∙ ap (λ n. n + 1) c.loop-proof.invariant.count ∙ sym (length-append c.loop-proof.yielded (c.in-Some.proof ∷ []));
    }
