use Rattle.std.proofs.Common.{refl, length, arith}
use Rattle.bx_logic.proofs.Valuations.{net-reads_within}
use Rattle.bx_map.proofs.Marking.{marks-later}
use Rattle.bx_map.proofs.Visiting.{deep, way-begin, last-within, read-within, enter-is, step-read, step-leave, leave-less, IsStep}
use Rattle.bx_map.proofs.walk.Visited.visit_from.Goals as goal

pub loop-frame-init : goal.loop-frame-init
loop-frame-init c =
    let net = c.args.net.now in
    record {
      marks = c.requires.marks;
      way = way-begin net.drivers c.requires.net.acyclic (net-reads_within net c.requires.net) c.args.self.now.order.items c.args.self.now.left.items c.args.first
          c.enter.new.way.items c.requires.within c.requires.marks
          (enter-is _ _ _ _ _ c.args.first c.in_ok-enter.ensures c.new-way.ensures.items c.deref.ensures.value);
    }

pub arguments-requires : goal.arguments-requires
arguments-requires c =
    last-within c.args.net.now.drivers c.requires.net.acyclic (net-reads_within c.args.net.now c.requires.net) _ _ _ c.pop.new.self.items c.in-Some.frame
    c.in-Some.ensures.items c.loop-frame.invariant.way

pub enter-requires-in-Some-get : goal.enter-requires-in-Some-get
enter-requires-in-Some-get c =
    let within = read-within c.args.net.now.drivers c.requires.net.acyclic (net-reads_within c.args.net.now c.requires.net) c.arguments.result.now c.in-Some.frame.net
    c.in-Some.frame.next c.in-Some-get.argument.now c.arguments.ensures c.in-Some-get.ensures.lookup.3.0 (c.in-Some-get.ensures.lookup.3.1 0) in
    omega (arith, within, c.loop-frame.invariant.marks.whole, c.deref-in-Some-get.ensures.len)

advance : (c : goal.In_ok-enter-in-Some-get) →
    IsStep c.args.net.now.drivers c.requires.net.acyclic (net-reads_within c.args.net.now c.requires.net) c.loop-frame.self.order.items
    (deep c.args.net.now.drivers c.args.self.now.order.items c.args.first) c.loop-frame.way.items c.enter-in-Some-get.new.way.items
advance c =
    let net = c.args.net.now in
    let within = read-within net.drivers c.requires.net.acyclic (net-reads_within net c.requires.net) c.arguments.result.now c.in-Some.frame.net
    c.in-Some.frame.next c.in-Some-get.argument.now c.arguments.ensures c.in-Some-get.ensures.lookup.3.0 (c.in-Some-get.ensures.lookup.3.1 0) in
    step-read net.drivers c.requires.net.acyclic (net-reads_within net c.requires.net) c.loop-frame.self.order.items _ c.loop-frame.self.left.items
    c.loop-frame.way.items c.pop.new.self.items c.push.new.self.items c.enter-in-Some-get.new.way.items c.in-Some.frame c.arguments.result.now c.in-Some-get.argument.now
    c.in-Some.ensures.items c.arguments.ensures c.in-Some-get.ensures.lookup.3.0 (c.in-Some-get.ensures.lookup.3.1 0) within
    c.in_ok-push-in-Some-get.ensures.items
    (enter-is _ _ _ _ _ c.in-Some-get.argument.now c.in_ok-enter-in-Some-get.ensures refl c.deref-in-Some-get.ensures.value)
    c.loop-frame.invariant.marks c.loop-frame.invariant.way

pub loop-frame-smaller-in-Continue-branch-3 : goal.loop-frame-smaller-in-Continue-branch-3
loop-frame-smaller-in-Continue-branch-3 c = (advance c).less

pub loop-frame-preserved-in-Continue-branch-3 : goal.loop-frame-preserved-in-Continue-branch-3
loop-frame-preserved-in-Continue-branch-3 c = record { marks = c.loop-frame.invariant.marks; way = (advance c).way }

pub leave-requires : goal.leave-requires
leave-requires c =
    let within = last-within c.args.net.now.drivers c.requires.net.acyclic (net-reads_within c.args.net.now c.requires.net) _ _ _ c.pop.new.self.items c.in-Some.frame
    c.in-Some.ensures.items c.loop-frame.invariant.way in
    omega (arith, within, c.loop-frame.invariant.marks.whole)

pub loop-frame-smaller : goal.loop-frame-smaller
loop-frame-smaller c =
    leave-less c.args.net.now.drivers c.requires.net.acyclic (net-reads_within c.args.net.now c.requires.net) _ c.pop.new.self.items c.in-Some.frame c.in-Some.ensures.items

pub loop-frame-preserved : goal.loop-frame-preserved
loop-frame-preserved c =
    let net = c.args.net.now in
    let within = last-within net.drivers c.requires.net.acyclic (net-reads_within net c.requires.net) _ _ _ c.pop.new.self.items c.in-Some.frame
    c.in-Some.ensures.items c.loop-frame.invariant.way in
    record {
      marks = marks-later (length net.drivers) c.in-Some.frame.net c.loop-frame.self.order.items c.leave.new.self.order.items c.loop-frame.self.left.items c.leave.new.self.left.items
          within c.in_ok-leave-in-None.ensures.order c.in_ok-leave-in-None.ensures.left c.loop-frame.invariant.marks;
      way = step-leave net.drivers c.requires.net.acyclic (net-reads_within net c.requires.net) _ _ c.leave.new.self.order.items _ c.pop.new.self.items c.in-Some.frame
          c.arguments.result.now c.in-Some.ensures.items c.arguments.ensures c.in-None.ensures.lookup.3 c.in_ok-leave-in-None.ensures.order c.loop-frame.invariant.way;
    }
