use Rattle.std.proofs.Common.{◌<◌, length, refl, inl, inr, arith}
use Rattle.std.proofs.lemmas.Option.{slice_get_within, slice_get_read}
use Rattle.bx_sat.proofs.checking.failure_of.Goals as goal

pub index-requires : goal.index-requires
index-requires c =
    let first = (c.in_ok-k.ensures.fails c.in-Some.k).0 c.in-Some.is in
    let within : c.in-Some.k < length c.args.proof.now.steps.steps = slice_get_within c.args.proof.now.steps.steps c.in-Some.k first.step first.stands in
    omega (arith, within, c.requires.named)

pub returns-in-Some-clause-finding : goal.returns-in-Some-clause-finding
returns-in-Some-clause-finding c =
    let first = (c.in_ok-k.ensures.fails c.in-Some.k).0 c.in-Some.is in
    let within : c.in-Some.k < length c.args.proof.now.ids.items =
    let lt : c.in-Some.k < length c.args.proof.now.steps.steps = slice_get_within c.args.proof.now.steps.steps c.in-Some.k first.step first.stands in
    omega (arith, lt, c.requires.named) in
    (inl (c.in-Some.k, first, slice_get_read c.args.proof.now.ids.items (length c.args.proof.now.ids.items) c.in-Some.k c.index.result.now refl within c.index.ensures), c.requires.not_accepted)

pub returns-in-Some-ill-clause-finding : goal.returns-in-Some-ill-clause-finding
returns-in-Some-ill-clause-finding c = (inr (c.in_ok-k.ensures.pass.0 c.in_default.is, c.in-Some-ill.is), c.requires.not_accepted)

pub returns-in-None-clause-finding : goal.returns-in-None-clause-finding
returns-in-None-clause-finding c = (c.in_ok-k.ensures.pass.0 c.in_default.is, c.in-None.is, c.requires.not_accepted)
