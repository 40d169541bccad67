use Rattle.std.proofs.Common.{List, map, arith}
use Rattle.bx_cnf.specs.Literals.{Literal}
use Rattle.bx_proof.specs.Steps.{Step}
use Rattle.bx_check.proofs.Valuing.{count_more, count_all, step_literals}
use Rattle.bx_check.proofs.values.literals_of_steps.Goals as goal

pub loop-k-preserved : goal.loop-k-preserved
loop-k-preserved c =
    let all : List (List Literal) = map (λ (s : Step). s.literals) c.args.steps.now.steps in
    let at = step_literals c.args.steps.now.steps c.loop-k.k c.literals.result.now c.literals.ensures.value in
    count_more all c.loop-k.k c.loop-k.count _ c.literals.result.now at c.loop-k.invariant (omega (arith, c.saturating_add-count.ensures))

pub returns : goal.returns
returns c = count_all (map (λ (s : Step). s.literals) c.args.steps.now.steps) c.loop-k.k c.loop-k.count c.loop-k.invariant
