use Rattle.std.proofs.Common.{◌≡◌, ◌∙◌, length, ap, subst, sym, arith, ◌<◌}
use Rattle.std.specs.List.{All}
use Rattle.bx_logic.specs.declared.driver.Driver.{Driver}
use Rattle.bx_logic.specs.Nets.{arguments_of}
use Rattle.bx_logic.specs.Known.{IsKnown, known_value}
use Rattle.bx_logic.specs.Values.{driver_value}
use Rattle.bx_logic.proofs.Valuations.{net-reads_within}
use Rattle.bx_logic.proofs.Ways.{last-within, step-advance, step-finish, step-less, IsStep, all_known, keeps-set, right-set}
use Rattle.bx_logic.proofs.net.Net.make_known.Goals as goal

pub driver-driver-requires : goal.driver-driver-requires
driver-driver-requires c = last-within _ _ _ c.pop.new.self.items c.in-Some.frame c.in-Some.ensures.items c.loop-frame.invariant.way

advance : (c : goal.In_ok-enter-in-Some-get) → IsStep c.args.self.now.drivers c.loop-frame.known c.loop-frame.way.items c.enter-in-Some-get.new.way.items c.args.net
advance c =
    step-advance _ _ _ c.pop.new.self.items c.push.new.self.items _ c.in-Some.frame c.arguments.result.now c.in-Some-get.argument.now _
    c.requires.net.acyclic (net-reads_within _ c.requires.net) c.in-Some.ensures.items (c.arguments.ensures ∙ ap arguments_of c.driver-driver.ensures)
    c.in-Some-get.ensures.lookup.3.0 (c.in-Some-get.ensures.lookup.3.1 0)
    c.in_ok-push-in-Some-get.ensures.items c.in_ok-enter-in-Some-get.ensures c.loop-frame.invariant.way c.loop-frame.invariant.awaited

pub loop-frame-smaller-in-Continue-branch-3 : goal.loop-frame-smaller-in-Continue-branch-3
loop-frame-smaller-in-Continue-branch-3 c = (advance c).less

pub loop-frame-preserved-in-Continue-branch-3 : goal.loop-frame-preserved-in-Continue-branch-3
loop-frame-preserved-in-Continue-branch-3 c =
    let step = advance c in
    record { way = step.way; awaited = step.awaited; right = c.loop-frame.invariant.right; kept = c.loop-frame.invariant.kept }

pub driven_value-value-requires-clause-known : goal.driven_value-value-requires-clause-known
driven_value-value-requires-clause-known c =
    subst (λ (d : Driver). All (IsKnown c.loop-frame.known) (arguments_of d)) (sym c.driver-driver.ensures)
    (all_known _ _ _ c.pop.new.self.items c.in-Some.frame c.arguments.result.now c.in-Some.ensures.items
    (c.arguments.ensures ∙ ap arguments_of c.driver-driver.ensures) c.in-None.ensures.lookup.3 c.loop-frame.invariant.way)

pub bounds-known-frame : goal.bounds-known-frame
bounds-known-frame c =
    let within = last-within _ _ _ c.pop.new.self.items c.in-Some.frame c.in-Some.ensures.items c.loop-frame.invariant.way in
    omega (arith, within, c.loop-frame.auto.known, c.requires.whole)

pub loop-frame-smaller : goal.loop-frame-smaller
loop-frame-smaller c =
    step-less _ _ c.pop.new.self.items c.in-Some.frame c.in-Some.ensures.items

pub loop-frame-preserved : goal.loop-frame-preserved
loop-frame-preserved c =
    let within = last-within _ _ _ c.pop.new.self.items c.in-Some.frame c.in-Some.ensures.items c.loop-frame.invariant.way in
    let whole : length c.loop-frame.known ≡ length c.args.self.now.drivers = c.loop-frame.auto.known ∙ c.requires.whole in
    let below : c.in-Some.frame.net < length c.loop-frame.known = omega (arith, within, whole) in
    let step = step-finish _ _ _ c.pop.new.self.items c.in-Some.frame c.driven_value-value.result _ c.in-Some.ensures.items below
    c.loop-frame.invariant.way c.loop-frame.invariant.awaited in
    record {
      way = step.way;
      awaited = step.awaited;
      right = right-set _ _ _ _ _ within whole
          (all_known _ _ _ c.pop.new.self.items c.in-Some.frame c.arguments.result.now c.in-Some.ensures.items
          (c.arguments.ensures ∙ ap arguments_of c.driver-driver.ensures) c.in-None.ensures.lookup.3 c.loop-frame.invariant.way)
          c.loop-frame.invariant.right
          (c.driven_value-value.ensures
          ∙ ap (λ (d : Driver). driver_value c.args.bits.now (known_value c.loop-frame.known) d) c.driver-driver.ensures);
      kept = λ n k. keeps-set _ _ c.driven_value-value.result below n (c.loop-frame.invariant.kept n k);
    }
