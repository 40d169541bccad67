use Rattle.std.proofs.Common.{◌≡◌, ◌+◌, take, rules, sym, subst}
use Rattle.std.proofs.lemmas.List.{take_all}
use Rattle.bx_watch.specs.declared.reading.Reading.TheVariants.{Other}
use Rattle.bx_watch.specs.Readings.{IsRead}
use Rattle.bx_watch.proofs.ClauseReads.{read-more, two-whole, literal-over}
use Rattle.bx_watch.proofs.reading.read.Goals as goal

pub value-requires : goal.value-requires
value-requires c = literal-over c.args.trail.now.vars c.args.clause.now c.loop-lit.lit-index c.lit-item.result c.requires c.loop-lit-test.true c.lit-item.is

pub returns-then-is_other : goal.returns-then-is_other
returns-then-is_other c =
    let other : c.with-reading.result ≡ Other = c.is_other.ensures.0 c.if-is_other.true in
    two-whole c.args.trail.now.literals c.args.clause.now (c.loop-lit.lit-index + 1)
    (subst (IsRead c.args.trail.now.literals (take (c.loop-lit.lit-index + 1) c.args.clause.now)) other (read-more c.args.trail.now.vars c.args.trail.now.literals c.args.clause.now c.loop-lit.lit-index c.lit-item.result c.loop-lit.reading c.with-reading.result
    c.requires c.loop-lit-test.true c.lit-item.is c.loop-lit.invariant
    (λ read below. c.with-reading.ensures c.args.trail.now.literals (take c.loop-lit.lit-index c.args.clause.now) c.value.ensures.formed.apart read c.value.ensures.value below)))

pub loop-lit-preserved : goal.loop-lit-preserved
loop-lit-preserved c =
    read-more c.args.trail.now.vars c.args.trail.now.literals c.args.clause.now c.loop-lit.lit-index c.lit-item.result c.loop-lit.reading c.with-reading.result
    c.requires c.loop-lit-test.true c.lit-item.is c.loop-lit.invariant
    (λ read below. c.with-reading.ensures c.args.trail.now.literals (take c.loop-lit.lit-index c.args.clause.now) c.value.ensures.formed.apart read c.value.ensures.value below)

pub returns : goal.returns
returns c = rw (sym (take_all c.loop-lit.lit-index c.args.clause.now (search rules))) c.loop-lit.invariant
