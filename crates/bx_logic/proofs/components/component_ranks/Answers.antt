use Rattle.std.proofs.Common.{ℕ, ◌<◌, length, arith, ap, subst}
use Rattle.bx_logic.specs.declared.components.Search.{Search}
use Rattle.bx_logic.specs.declared.components.Step.{Step}
use Rattle.bx_logic.specs.Components.{AreComponents, net_of}
use Rattle.bx_logic.proofs.ComponentSteps.{steps-popped, steps-less}
use Rattle.bx_logic.proofs.components.component_ranks.Goals as goal

pub loop-step-smaller-in-Continue-branch-2 : goal.loop-step-smaller-in-Continue-branch-2
loop-step-smaller-in-Continue-branch-2 c =
    let popped = steps-popped _ _ c.pop.new.self.items c.in-Some.step c.in-Some.ensures.items c.loop-step.invariant.steps in
    let within = subst (λ (s : Step). net_of s < length c.args.drivers.now) c.in-Enter.is popped.1 in
    steps-less _ _ _ _ _ _ c.in-Some.step c.in-Enter.net c.arguments_at.result.now c.in-Some.ensures.items
    c.arguments_at.ensures.reads (omega (arith, within, c.loop-step.invariant.seen)) within
    (λ t. let kept = c.in_ok-enter-in-Enter.ensures.again t in (ap (λ (s : Search). s.seen.items) kept, ap (λ (s : Search). s.steps.items) kept))
    c.in_ok-enter-in-Enter.ensures.seen c.in_ok-enter-in-Enter.ensures.steps

pub loop-step-preserved : goal.loop-step-preserved
loop-step-preserved c = record {
  components = subst (λ (k : ℕ). AreComponents k c.leave.new.self) c.loop-step.invariant.components.places c.leave.ensures;
  seen = c.loop-step.invariant.seen;
  steps = (steps-popped _ _ c.pop.new.self.items c.in-Some.step c.in-Some.ensures.items c.loop-step.invariant.steps).0;
}
