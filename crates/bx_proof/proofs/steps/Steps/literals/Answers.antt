use Rattle.std.proofs.Common.{◌≡◌, Some, sym, ap, subst, ◌∙◌, arith}
use Rattle.std.specs.Prelude.{slice_get}
use Rattle.std.specs.Option.{option_map}
use Rattle.bx_cnf.specs.Formulas.{IsClause}
use Rattle.bx_proof.specs.Steps.{Step, StepList}
use Rattle.bx_proof.proofs.Logs.{counted, literals_at, part_is}
use Rattle.bx_proof.proofs.steps.Steps.literals.Goals as goal

pub list-requires : goal.list-requires
list-requires c = let count = counted _ _ _ _ c.self.invariant c.self.view_is in omega (arith, count)

pub returns-clause-value : goal.returns-clause-value
returns-clause-value c =
    ap (λ (log : StepList). option_map (λ (s : Step). s.literals) (slice_get log.steps c.args.k)) (sym c.self.view_is)
    ∙ literals_at c.self.inside.literals c.self.inside.hints c.args.k c.self.invariant.same ∙ c.list.ensures

pub returns-clause-formed : goal.returns-clause-formed
returns-clause-formed c =
    let read : option_map (λ (s : Step). s.literals) (slice_get c.args.self.now.steps c.args.k) ≡ Some c.list.result.now = ap (λ (log : StepList). option_map (λ (s : Step). s.literals) (slice_get log.steps c.args.k)) (sym c.self.view_is) ∙ literals_at c.self.inside.literals c.self.inside.hints c.args.k c.self.invariant.same ∙ c.list.ensures in
    let part = part_is (λ (s : Step). s.literals) _ _ _ _ c.args.k c.list.result.now c.self.invariant c.self.view_is read in
    subst (IsClause 2147483647) part.2 part.1.clause
