use Rattle.std.proofs.Common.{◌≡◌, ◌+◌, ◌<◌, length, Some, sym, ap, subst, ◌∙◌, arith}
use Rattle.std.specs.Prelude.{slice_get, All}
use Rattle.std.specs.Option.{option_map}
use Rattle.bx_proof.specs.Steps.{Step, StepList}
use Rattle.bx_proof.proofs.Logs.{counted, hints_at, part_is}
use Rattle.bx_proof.proofs.steps.Steps.hints.Goals as goal

pub list-requires : goal.list-requires
list-requires c = let count = counted _ _ _ _ c.self.invariant c.self.view_is in omega (arith, count, c.self.invariant.same)

pub returns-clause-value : goal.returns-clause-value
returns-clause-value c =
    ap (λ (log : StepList). option_map (λ (s : Step). s.hints) (slice_get log.steps c.args.k)) (sym c.self.view_is)
    ∙ hints_at c.self.inside.literals c.self.inside.hints c.args.k c.self.invariant.same ∙ c.list.ensures

pub returns-clause-some : goal.returns-clause-some
returns-clause-some c =
    let read : option_map (λ (s : Step). s.hints) (slice_get c.args.self.now.steps c.args.k) ≡ Some c.list.result.now = ap (λ (log : StepList). option_map (λ (s : Step). s.hints) (slice_get log.steps c.args.k)) (sym c.self.view_is) ∙ hints_at c.self.inside.literals c.self.inside.hints c.args.k c.self.invariant.same ∙ c.list.ensures in
    let part = part_is (λ (s : Step). s.hints) _ _ _ _ c.args.k c.list.result.now c.self.invariant c.self.view_is read in
    subst (λ hs. 0 < length hs) part.2 part.1.hinted

pub returns-clause-before : goal.returns-clause-before
returns-clause-before c =
    let read : option_map (λ (s : Step). s.hints) (slice_get c.args.self.now.steps c.args.k) ≡ Some c.list.result.now = ap (λ (log : StepList). option_map (λ (s : Step). s.hints) (slice_get log.steps c.args.k)) (sym c.self.view_is) ∙ hints_at c.self.inside.literals c.self.inside.hints c.args.k c.self.invariant.same ∙ c.list.ensures in
    let part = part_is (λ (s : Step). s.hints) _ _ _ _ c.args.k c.list.result.now c.self.invariant c.self.view_is read in
    subst (λ hs. All (λ h. (0 < h) × (h < c.args.self.now.first + c.args.k)) hs) part.2 part.1.before
