use Rattle.std.proofs.Common.{List, ◌∙◌, subst}
use Rattle.bx_cert.specs.declared.parts.Spot.{Spot}
use Rattle.bx_layout.specs.Permits.{test_of}
use Rattle.bx_verify.specs.Cutting.{IsWrongDesign}
use Rattle.bx_verify.proofs.Judging.{small, proof-wrong, design-wrong, design-right, design-shown}
use Rattle.bx_verify.proofs.judge.judge.Goals as goal

pub first_unproved-requires-clause-small : goal.first_unproved-requires-clause-small
first_unproved-requires-clause-small g c κs within =
    small c.args.net.now c.args.library.now c.args.design.now c.args.cert.now c.in-Found.ratio c.in-Found.spots
    c.last.result.now c.last.ensures.last c.in-Found.is c.limits.result c.limits.ensures.limits
    c.as_slice-sections.result.now (c.as_slice-sections.ensures ∙ c.sections.ensures.sections) c.in_default-first_off.ensures c.limits.ensures.kept.limits

pub returns-in-Some-2-clause-verdict : goal.returns-in-Some-2-clause-verdict
returns-in-Some-2-clause-verdict g c =
    proof-wrong c.args.net.now c.args.library.now c.args.design.now c.args.cert.now c.in-Found.ratio c.in-Found.spots
    c.last.result.now c.last.ensures.last c.in-Found.is c.limits.result c.limits.ensures.limits
    c.as_slice-sections.result.now (c.as_slice-sections.ensures ∙ c.sections.ensures.sections) c.in_default-first_off.ensures
    (test_of c.permit_for-permit.result) c.permit_for-permit.ensures.allows c.in_ok-k.field-0 c.in_ok-k.ensures.first c.in_ok-k.ensures.proved c.in-Some-2.k c.in-Some-2.is

pub returns-in-Some-3-clause-verdict : goal.returns-in-Some-3-clause-verdict
returns-in-Some-3-clause-verdict g c =
    design-wrong c.args.net.now c.args.library.now c.args.design.now c.args.cert.now c.in-Found.ratio c.in-Found.spots
    c.last.result.now c.last.ensures.last c.in-Found.is c.limits.result c.limits.ensures.limits
    c.as_slice-sections.result.now (c.as_slice-sections.ensures ∙ c.sections.ensures.sections) c.in_default-first_off.ensures
    (test_of c.permit_for-permit.result) c.permit_for-permit.ensures.allows c.in_ok-k.field-0 c.in_ok-k.ensures.first c.in_ok-k.ensures.proved
    c.in_default-2.is c.permit_for-permit.ensures.kept c.in_ok-part.field-0 (subst (λ (ss : List Spot). IsWrongDesign c.args.net.now c.args.library.now c.args.design.now c.in-Found.ratio ss c.in_ok-part.field-0) c.as_slice-places.ensures c.in_ok-part.ensures) c.in-Some-3.part c.in-Some-3.is

pub returns-in-None-clause-verdict : goal.returns-in-None-clause-verdict
returns-in-None-clause-verdict g c =
    design-right c.args.net.now c.args.library.now c.args.design.now c.args.cert.now c.in-Found.ratio c.in-Found.spots
    c.last.result.now c.last.ensures.last c.in-Found.is c.limits.result c.limits.ensures.limits
    c.as_slice-sections.result.now (c.as_slice-sections.ensures ∙ c.sections.ensures.sections) c.in_default-first_off.ensures
    (test_of c.permit_for-permit.result) c.permit_for-permit.ensures.allows c.in_ok-k.field-0 c.in_ok-k.ensures.first c.in_ok-k.ensures.proved
    c.in_default-2.is c.permit_for-permit.ensures.kept c.in_ok-part.field-0 (subst (λ (ss : List Spot). IsWrongDesign c.args.net.now c.args.library.now c.args.design.now c.in-Found.ratio ss c.in_ok-part.field-0) c.as_slice-places.ensures c.in_ok-part.ensures) c.in-None.is

pub returns-in-None-clause-shown : goal.returns-in-None-clause-shown
returns-in-None-clause-shown g c =
    design-shown c.args.net.now c.args.library.now c.args.design.now c.args.cert.now c.in-Found.ratio c.in-Found.spots
    c.last.result.now c.last.ensures.last c.in-Found.is c.limits.result c.limits.ensures.limits
    c.as_slice-sections.result.now (c.as_slice-sections.ensures ∙ c.sections.ensures.sections) c.in_default-first_off.ensures
    (test_of c.permit_for-permit.result) c.permit_for-permit.ensures.allows c.in_ok-k.field-0 c.in_ok-k.ensures.first c.in_ok-k.ensures.proved
    c.in_default-2.is c.permit_for-permit.ensures.kept c.in_ok-part.field-0 (subst (λ (ss : List Spot). IsWrongDesign c.args.net.now c.args.library.now c.args.design.now c.in-Found.ratio ss c.in_ok-part.field-0) c.as_slice-places.ensures c.in_ok-part.ensures) c.in-None.is c.limits.ensures.kept.limits c.node_count-nodes.ensures.network
