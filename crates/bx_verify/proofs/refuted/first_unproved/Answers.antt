use Rattle.std.proofs.Common.{length, refl}
use Rattle.std.proofs.lemmas.Option.{slice_get_read}
use Rattle.bx_layout.specs.Permits.{test_of}
use Rattle.bx_layout.proofs.Verdicts.{denied}
use Rattle.bx_refutes.specs.Refutations.{IsRefutedBy}
use Rattle.bx_verify.proofs.Unproved.{proved-fine, proved-more, all-proved, all-fine}
use Rattle.bx_verify.proofs.refuted.first_unproved.Goals as goal

pub is_proved-requires-clause-grid : goal.is_proved-requires-clause-grid
is_proved-requires-clause-grid g c = λ lives within. (c.requires.small c.loop-k.k c.index-sections-k.result
    (slice_get_read c.args.sections.now (length c.args.sections.now) c.loop-k.k c.index-sections-k.result refl c.loop-k-test.true c.index-sections-k.is)).0

pub is_proved-requires-clause-area : goal.is_proved-requires-clause-area
is_proved-requires-clause-area g c = λ lives within. (c.requires.small c.loop-k.k c.index-sections-k.result
    (slice_get_read c.args.sections.now (length c.args.sections.now) c.loop-k.k c.index-sections-k.result refl c.loop-k-test.true c.index-sections-k.is)).1

pub returns-then-not-branch-clause-first : goal.returns-then-not-branch-clause-first
returns-then-not-branch-clause-first g c =
    let sections = c.args.sections.now in
    let s = c.index-sections-k.result in
    let at = slice_get_read sections (length sections) c.loop-k.k s refl c.loop-k-test.true c.index-sections-k.is in (
      record {
        section = s;
        at = at;
        unproved = denied c.in_ok-is_proved.field-0 (IsRefutedBy c.args.net.now (test_of c.args.permit.now) s.ratio s.proof) c.in_ok-is_proved.ensures c.if-not-branch.true;
      },
      proved-fine c.args.net.now (test_of c.args.permit.now) sections c.loop-k.k c.loop-k.invariant,
    )

pub loop-k-preserved : goal.loop-k-preserved
loop-k-preserved g c =
    let sections = c.args.sections.now in
    let s = c.index-sections-k.result in
    let at = slice_get_read sections (length sections) c.loop-k.k s refl c.loop-k-test.true c.index-sections-k.is in
    proved-more c.args.net.now (test_of c.args.permit.now) sections c.loop-k.k s at (c.in_ok-is_proved.ensures.0 c.if-not-branch.false) c.loop-k.invariant

pub returns-clause-first : goal.returns-clause-first
returns-clause-first g c = all-fine c.args.net.now (test_of c.args.permit.now) c.args.sections.now c.loop-k.k c.loop-k-test.false c.loop-k.invariant

pub returns-clause-proved : goal.returns-clause-proved
returns-clause-proved g c = all-proved c.args.net.now (test_of c.args.permit.now) c.args.sections.now c.loop-k.k c.loop-k-test.false c.loop-k.invariant
