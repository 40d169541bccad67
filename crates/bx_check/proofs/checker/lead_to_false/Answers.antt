use Rattle.std.proofs.Common.{◌≡◌, ℕ, ◌+◌, ◌<◌, List, length, take, true, sym, subst, arith}
use Rattle.std.specs.Prelude.{◌↔◌, nat_eq}
use Rattle.bx_proof.specs.Steps.{Step}
use Rattle.bx_proof.specs.Accepted.{LeadsToFalse, with_steps}
use Rattle.bx_check.proofs.Leads.{ends_at, goes_on_at, stops_at}
use Rattle.bx_check.proofs.Steps.{part_of}
use Rattle.bx_check.proofs.checker.lead_to_false.Goals as goal

pub returns-in-Nothing : goal.returns-in-Nothing
returns-in-Nothing c s at =
    let hints : List ℕ = c.hints-hints.result.now in
    let all = with_steps c.args.clauses.now.clauses (take c.args.k c.args.steps.now.steps) in
    let within : c.loop-i.i < length hints = omega arith in
    let before = c.hints-hints.ensures.before c.loop-i.i 0 within in
    let own : hints ≡ s.hints = sym (part_of (λ (t : Step). t.hints) c.args.steps.now.steps c.args.k s hints at c.hints-hints.ensures.value) in
    let value = c.clause_of.ensures c.args.k (omega (arith, before.1, c.requires.numbered)) (omega (arith, c.requires.step)) in
    subst (λ hs. (nat_eq (c.loop-i.i + 1) (length hints) ≡ true) ↔ LeadsToFalse all c.args.assignment.now hs) own
    (ends_at all c.loop-i.assignment c.args.assignment.now hints c.loop-i.i c.clause_of.result.now within before.0 value c.in-Nothing.ensures c.loop-i.invariant.whole c.loop-i.invariant.rest)

pub returns-in-More : goal.returns-in-More
returns-in-More c s at =
    let hints : List ℕ = c.hints-hints.result.now in
    let all = with_steps c.args.clauses.now.clauses (take c.args.k c.args.steps.now.steps) in
    let within : c.loop-i.i < length hints = omega arith in
    let before = c.hints-hints.ensures.before c.loop-i.i 0 within in
    let own : s.hints ≡ hints = part_of (λ (t : Step). t.hints) c.args.steps.now.steps c.args.k s hints at c.hints-hints.ensures.value in
    let value = c.clause_of.ensures c.args.k (omega (arith, before.1, c.requires.numbered)) (omega (arith, c.requires.step)) in (
      λ wrong. let never : ⊥ = cc in absurd never,
      λ leads. absurd (stops_at all c.loop-i.assignment c.args.assignment.now hints c.loop-i.i c.clause_of.result.now within value c.in-More.ensures c.loop-i.invariant.rest (subst (LeadsToFalse all c.args.assignment.now) own leads)),
    )

pub loop-i-preserved : goal.loop-i-preserved
loop-i-preserved c =
    let hints : List ℕ = c.hints-hints.result.now in
    let all = with_steps c.args.clauses.now.clauses (take c.args.k c.args.steps.now.steps) in
    let within : c.loop-i.i < length hints = omega arith in
    let before = c.hints-hints.ensures.before c.loop-i.i 0 within in
    let value = c.clause_of.ensures c.args.k (omega (arith, before.1, c.requires.numbered)) (omega (arith, c.requires.step)) in
    let more = goes_on_at all c.loop-i.assignment c.take.new.self c.args.assignment.now hints c.loop-i.i c.clause_of.result.now c.in-One.lit within before.0 value c.in-One.ensures c.in_ok-take-in-One.ensures c.loop-i.invariant.whole c.loop-i.invariant.rest in
    record { whole = more.0; rest = more.1 }
