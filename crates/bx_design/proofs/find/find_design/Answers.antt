-- What is settled is told, and makes the certificate.
use Rattle.std.proofs.Common.{List, length, refl, sym, subst}
use Rattle.bx_layout.specs.Permits.{test_of}
use Rattle.bx_proof.specs.declared.refutation.Refutation.{Refutation}
use Rattle.bx_verdict.specs.Settling.{AreSettled, AreTrueAt}
use Rattle.bx_design.specs.Making.{IsReadable}
use Rattle.bx_design.specs.Solutions.{IsTold}
use Rattle.bx_design.proofs.Certified.{certified}
use Rattle.bx_design.proofs.Finding.{few, readable, solution}
use Rattle.bx_design.proofs.Minimal.{minimal}
use Rattle.bx_design.proofs.find.find_design.Goals as goal

pub tell-requires-clause-readable : goal.tell-requires-clause-readable
tell-requires-clause-readable g c =
    let settled : AreSettled c.args.net.now (test_of c.args.permit.now) c.args.budget c.new-ratios.result c.into_vec-refutations.result.items c.in_ok-refutations.field-0.last =
    subst (λ (ps : List Refutation). AreSettled c.args.net.now (test_of c.args.permit.now) c.args.budget c.new-ratios.result ps c.in_ok-refutations.field-0.last) (sym c.into_vec-refutations.ensures)
    c.in_ok-refutations.ensures.exact in
    let true-at : AreTrueAt c.args.net.now (test_of c.args.permit.now) c.new-ratios.result (length c.into_vec-refutations.result.items) c.in_ok-refutations.field-0.last =
    subst (λ (ps : List Refutation). AreTrueAt c.args.net.now (test_of c.args.permit.now) c.new-ratios.result (length ps) c.in_ok-refutations.field-0.last) (sym c.into_vec-refutations.ensures)
    c.in_ok-refutations.ensures.shows.found in
    subst (λ (ps : List Refutation). IsReadable c.args.net.now (test_of c.args.permit.now) c.new-ratios.result (length ps) c.in_ok-refutations.field-0.last) (sym c.deref.ensures.value)
    (readable c.args.net.now (test_of c.args.permit.now) c.args.limits c.args.budget c.new-ratios.result c.into_vec-refutations.result.items c.in_ok-refutations.field-0.last
    c.new-ratios.ensures settled c.requires.limits true-at)

pub make_sections-requires : goal.make_sections-requires
make_sections-requires g c =
    let settled : AreSettled c.args.net.now (test_of c.args.permit.now) c.args.budget c.new-ratios.result c.into_vec-refutations.result.items c.in_ok-refutations.field-0.last =
    subst (λ (ps : List Refutation). AreSettled c.args.net.now (test_of c.args.permit.now) c.args.budget c.new-ratios.result ps c.in_ok-refutations.field-0.last) (sym c.into_vec-refutations.ensures)
    c.in_ok-refutations.ensures.exact in
    few c.args.net.now (test_of c.args.permit.now) c.args.limits c.args.budget c.new-ratios.result c.into_vec-refutations.result.items c.in_ok-refutations.field-0.last
    c.new-ratios.ensures settled

pub new-cert-requires : goal.new-cert-requires
new-cert-requires g c =
    let settled : AreSettled c.args.net.now (test_of c.args.permit.now) c.args.budget c.new-ratios.result c.into_vec-refutations.result.items c.in_ok-refutations.field-0.last =
    subst (λ (ps : List Refutation). AreSettled c.args.net.now (test_of c.args.permit.now) c.args.budget c.new-ratios.result ps c.in_ok-refutations.field-0.last) (sym c.into_vec-refutations.ensures)
    c.in_ok-refutations.ensures.exact in
    certified c.args.net.now (test_of c.args.permit.now) c.args.limits c.args.budget c.node_count-nodes.ensures.network c.requires.nodes c.requires.limits c.requires.budget _ c.in_ok-told.told.found
    (solution c.args.net.now (test_of c.args.permit.now) c.args.limits c.args.budget c.new-ratios.result c.into_vec-refutations.result.items c.in_ok-refutations.field-0.last
    c.new-ratios.ensures settled c.in_ok-sections.sections c.in_ok-told.told.last c.in_ok-told.told.found _ c.in_ok-sections.ensures
    (subst (λ (ps : List Refutation). IsTold c.args.net.now c.new-ratios.result (length ps) c.in_ok-refutations.field-0.last c.in_ok-told.told.last c.in_ok-told.told.found) c.deref.ensures.value c.in_ok-told.ensures) refl)

pub returns-clause-exact : goal.returns-clause-exact
returns-clause-exact g c =
    let settled : AreSettled c.args.net.now (test_of c.args.permit.now) c.args.budget c.new-ratios.result c.into_vec-refutations.result.items c.in_ok-refutations.field-0.last =
    subst (λ (ps : List Refutation). AreSettled c.args.net.now (test_of c.args.permit.now) c.args.budget c.new-ratios.result ps c.in_ok-refutations.field-0.last) (sym c.into_vec-refutations.ensures)
    c.in_ok-refutations.ensures.exact in
    solution c.args.net.now (test_of c.args.permit.now) c.args.limits c.args.budget c.new-ratios.result c.into_vec-refutations.result.items c.in_ok-refutations.field-0.last
    c.new-ratios.ensures settled c.in_ok-sections.sections c.in_ok-told.told.last c.in_ok-told.told.found c.new-cert.result c.in_ok-sections.ensures
    (subst (λ (ps : List Refutation). IsTold c.args.net.now c.new-ratios.result (length ps) c.in_ok-refutations.field-0.last c.in_ok-told.told.last c.in_ok-told.told.found) c.deref.ensures.value c.in_ok-told.ensures) c.new-cert.ensures

pub returns-clause-minimal : goal.returns-clause-minimal
returns-clause-minimal g c =
    let settled : AreSettled c.args.net.now (test_of c.args.permit.now) c.args.budget c.new-ratios.result c.into_vec-refutations.result.items c.in_ok-refutations.field-0.last =
    subst (λ (ps : List Refutation). AreSettled c.args.net.now (test_of c.args.permit.now) c.args.budget c.new-ratios.result ps c.in_ok-refutations.field-0.last) (sym c.into_vec-refutations.ensures)
    c.in_ok-refutations.ensures.exact in
    minimal c.args.net.now (test_of c.args.permit.now) c.args.limits c.args.budget c.node_count-nodes.ensures.network c.requires.nodes c.requires.limits c.new-cert.result c.in_ok-told.told.found
    (solution c.args.net.now (test_of c.args.permit.now) c.args.limits c.args.budget c.new-ratios.result c.into_vec-refutations.result.items c.in_ok-refutations.field-0.last
    c.new-ratios.ensures settled c.in_ok-sections.sections c.in_ok-told.told.last c.in_ok-told.told.found c.new-cert.result c.in_ok-sections.ensures
    (subst (λ (ps : List Refutation). IsTold c.args.net.now c.new-ratios.result (length ps) c.in_ok-refutations.field-0.last c.in_ok-told.told.last c.in_ok-told.told.found) c.deref.ensures.value c.in_ok-told.ensures) c.new-cert.ensures)
