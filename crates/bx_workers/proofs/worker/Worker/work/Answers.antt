-- An index is tried where one is drawn; it is refuted and the worker goes on, or offered at the end.
use Rattle.std.proofs.Common.{sym}
use Rattle.bx_workers.proofs.Working.{claims, fewer-left, goes-on, has-room, offers}
use Rattle.bx_workers.proofs.worker.Worker.work.Goals as goal

pub keep-requires-clause-room : goal.keep-requires-clause-room
keep-requires-clause-room g c =
    has-room c.args.problem.now c.args.race.now c.args.self.now.seat c.in-Some.index c.claim.new.seat c.loop-index.self.results
    (claims c.args.problem.now c.args.race.now c.args.self.now.seat _ c.in-Some.ensures.drawn.0 c.in-Some.index c.loop-index.self.seat c.claim.new.seat c.loop-index.self.results
    c.requires.race c.loop-index.invariant c.in-Some.ensures.seat c.in-Some.ensures.drawn.2 c.in-Some.ensures.current c.in-Some.ensures.past c.in-Some.ensures.different c.in-Some.ensures.looks)

pub loop-index-smaller : goal.loop-index-smaller
loop-index-smaller g c =
    let trying = claims c.args.problem.now c.args.race.now c.args.self.now.seat _ c.in-Some.ensures.drawn.0 c.in-Some.index c.loop-index.self.seat c.claim.new.seat c.loop-index.self.results
    c.requires.race c.loop-index.invariant c.in-Some.ensures.seat c.in-Some.ensures.drawn.2 c.in-Some.ensures.current c.in-Some.ensures.past c.in-Some.ensures.different c.in-Some.ensures.looks in
    fewer-left c.args.problem.now c.args.race.now c.args.self.now.seat c.in-Some.index c.claim.new.seat c.loop-index.self.results trying c.keep.new.self.results c.in-Some-ended.ended c.if-not-keep.ensures.more

pub loop-index-preserved : goal.loop-index-preserved
loop-index-preserved g c =
    let trying = claims c.args.problem.now c.args.race.now c.args.self.now.seat _ c.in-Some.ensures.drawn.0 c.in-Some.index c.loop-index.self.seat c.claim.new.seat c.loop-index.self.results
    c.requires.race c.loop-index.invariant c.in-Some.ensures.seat c.in-Some.ensures.drawn.2 c.in-Some.ensures.current c.in-Some.ensures.past c.in-Some.ensures.different c.in-Some.ensures.looks in
    goes-on c.args.problem.now c.args.race.now c.args.self.now.seat c.in-Some.index c.claim.new.seat c.loop-index.self.results trying c.try_index-ended.new.seat c.keep.new.self.seat c.keep.new.self.results
    c.in-Some-ended.ended c.in-Some-ended.ensures.seat c.if-not-keep.ensures.seat c.in-Some-ended.ensures.draws c.if-not-keep.ensures.draws c.in-Some-ended.ensures.end (sym c.if-not-keep.ensures.goes_on)
    c.in-Some-ended.ensures.looks c.if-not-keep.ensures.looks c.if-not-keep.ensures.more c.if-not-keep.ensures.room

pub returns-then-not-keep-clause-results : goal.returns-then-not-keep-clause-results
returns-then-not-keep-clause-results g c =
    let trying = claims c.args.problem.now c.args.race.now c.args.self.now.seat _ c.in-Some.ensures.drawn.0 c.in-Some.index c.loop-index.self.seat c.claim.new.seat c.loop-index.self.results
    c.requires.race c.loop-index.invariant c.in-Some.ensures.seat c.in-Some.ensures.drawn.2 c.in-Some.ensures.current c.in-Some.ensures.past c.in-Some.ensures.different c.in-Some.ensures.looks in
    offers c.args.problem.now c.args.race.now c.args.self.now.seat c.in-Some.index c.claim.new.seat c.loop-index.self.results trying c.try_index-ended.new.seat c.keep.new.self.seat c.keep.new.self.results
    c.in-Some-ended.ended c.in-Some-ended.ensures.draws c.if-not-keep.ensures.draws c.in-Some-ended.ensures.end (sym c.if-not-keep.ensures.goes_on) c.if-not-keep.ensures.more
