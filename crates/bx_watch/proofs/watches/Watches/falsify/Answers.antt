use Rattle.std.proofs.Common.{length, ap, arith}
use Rattle.bx_watch.specs.Lists.{list_of}
use Rattle.bx_watch.specs.Keeping.{tables_of}
use Rattle.bx_watch.proofs.Keeps.{IsMore-same, item-at, place-below}
use Rattle.bx_watch.proofs.Moves.{walked-all, walked-stays, walked-drops}
use Rattle.bx_watch.proofs.watches.Watches.falsify.Goals as goal

pub loop-at-init : goal.loop-at-init
loop-at-init c = record {
  kept = c.requires.kept;
  more = IsMore-same c.args.self.now.pending;
  done = λ i entry below. absurd (omega (arith, below));
}

pub loop-at-smaller-then-branch : goal.loop-at-smaller-then-branch
loop-at-smaller-then-branch c =
    let (e, stands) = item-at (list_of c.loop-at.self.lists c.args.lit) c.loop-at.at (omega (arith, c.loop-at-test.true, c.len.ensures)) in
    let visits = c.in_ok-stays.ensures e stands in
    omega (arith, ap length visits.list_stays, c.loop-at-test.true, c.len.ensures)

pub loop-at-preserved-then-branch : goal.loop-at-preserved-then-branch
loop-at-preserved-then-branch c =
    let (e, stands) = item-at (list_of c.loop-at.self.lists c.args.lit) c.loop-at.at (omega (arith, c.loop-at-test.true, c.len.ensures)) in
    walked-stays c.args.store.now c.args.trail.now.literals c.args.lit _ (tables_of c.loop-at.self) (tables_of c.stays.new.self) c.loop-at.at e _ c.loop-at.invariant stands (c.in_ok-stays.ensures e stands)

pub remove-requires-clause-over : goal.remove-requires-clause-over
remove-requires-clause-over c =
    let (e, stands) = item-at (list_of c.loop-at.self.lists c.args.lit) c.loop-at.at (omega (arith, c.loop-at-test.true, c.len.ensures)) in
    let visits = c.in_ok-stays.ensures e stands in
    omega (arith, visits.kept.lists_sized, place-below c.args.store.now.vars c.args.lit c.requires.over)

pub remove-requires-clause-within : goal.remove-requires-clause-within
remove-requires-clause-within c =
    let (e, stands) = item-at (list_of c.loop-at.self.lists c.args.lit) c.loop-at.at (omega (arith, c.loop-at-test.true, c.len.ensures)) in
    let visits = c.in_ok-stays.ensures e stands in
    omega (arith, ap length visits.list_stays, c.loop-at-test.true, c.len.ensures)

pub loop-at-smaller : goal.loop-at-smaller
loop-at-smaller c =
    let (e, stands) = item-at (list_of c.loop-at.self.lists c.args.lit) c.loop-at.at (omega (arith, c.loop-at-test.true, c.len.ensures)) in
    let visits = c.in_ok-stays.ensures e stands in
    omega (arith, ap length visits.list_stays, c.remove.ensures.shorter, c.loop-at-test.true, c.len.ensures)

pub loop-at-preserved : goal.loop-at-preserved
loop-at-preserved c =
    let (e, stands) = item-at (list_of c.loop-at.self.lists c.args.lit) c.loop-at.at (omega (arith, c.loop-at-test.true, c.len.ensures)) in
    walked-drops c.args.store.now c.args.trail.now.literals c.args.lit _ (tables_of c.loop-at.self) (tables_of c.stays.new.self) c.remove.new.self c.loop-at.at e _ c.requires.formed c.requires.over c.loop-at.invariant stands (c.in_ok-stays.ensures e stands) c.if-branch.false c.remove.ensures

pub returns : goal.returns
returns c = walked-all c.args.store.now c.args.trail.now.literals c.args.lit _ (tables_of c.loop-at.self) c.loop-at.at c.loop-at.invariant (omega (arith, c.loop-at-test.false, c.len.ensures))
