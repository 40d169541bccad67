use Rattle.std.proofs.Common.{◌≡◌, ◌+◌, ◌<◌, [], length, take, sym, ap, ◌∙◌, arith}
use Rattle.std.proofs.Math.Seq.{take-length}
use Rattle.bx_lines.specs.Lines.{ended, text_of}
use Rattle.bx_desk.proofs.Printing.{prints_nothing, prints_turn, prints_as}
use Rattle.bx_proof.specs.Texts.{step_line, step_lines}
use Rattle.bx_proof.proofs.StepLines.{step_of, line_at, length-step_lines}
use Rattle.bx_proof.proofs.write.print_steps.Goals as goal

pub loop-k-init : goal.loop-k-init
loop-k-init g c = prints_nothing _

pub loop-k-preserved : goal.loop-k-preserved
loop-k-preserved g c =
    let id : c.from.result + c.from-in-loop-k.result ≡ c.args.steps.now.first + c.loop-k.k = omega (arith, c.from.ensures, c.from-in-loop-k.ensures, c.first.ensures) in
    let below : c.loop-k.k < length (step_lines c.args.steps.now.first c.args.steps.now.steps) = omega (arith, length-step_lines c.args.steps.now.first c.args.steps.now.steps, c.len-k-end.ensures.count) in
    prints_turn ended (step_lines c.args.steps.now.first c.args.steps.now.steps) c.loop-k.k [] below c.loop-k.invariant
    (prints_as (ap ended (ap (λ n. step_line n (step_of c.literals.result.now c.hints.result.now)) id ∙ sym (line_at c.args.steps.now.first c.args.steps.now.steps c.loop-k.k c.literals.result.now c.hints.result.now c.literals.ensures.value c.hints.ensures.value))) c.print_step.ensures)

pub returns-clause-prints : goal.returns-clause-prints
returns-clause-prints g c =
    let lines = step_lines c.args.steps.now.first c.args.steps.now.steps in
    let whole : c.loop-k.k ≡ length lines = omega (arith, length-step_lines c.args.steps.now.first c.args.steps.now.steps, c.len-k-end.ensures.count) in
    prints_as (ap text_of (ap (λ n. take n lines) whole ∙ take-length lines)) c.loop-k.invariant
