use Rattle.std.proofs.Common.{◌≡◌, ◌+◌, ◌<◌, ◌^◌, suc, length, rules, arith}
use Rattle.bx_proof.specs.Texts.{step_lines}
use Rattle.bx_proof.proofs.StepLines.{length-step_lines}
use Rattle.bx_cert.specs.Texts.{line_text}
use Rattle.bx_cert.proofs.Runs.{run_room}
use Rattle.bx_cert.proofs.Readers.{behind_shorter, run_section, run_stops, handed_on}
use Rattle.bx_cert.proofs.read.read_section.Goals as goal

pub returns-in_err-steps-in-Run : goal.returns-in_err-steps-in-Run
returns-in_err-steps-in-Run c = handed_on _ _ c.from_residual.result c.in_err-steps-in-Run.field-0.0 c.from_residual.ensures.1
    (λ d. run_stops d c.args.line c.in-Run.ratio c.in-Run.count c.args.text.now c.args.before c.in_err-steps-in-Run.field-0.0 c.in-Run.is c.requires.said (c.in_err-steps-in-Run.ensures d c.in-Run.ratio))

pub overflow_add-lines-in-Run : goal.overflow_add-lines-in-Run
overflow_add-lines-in-Run c =
    let fits = run_room c.args.text.now c.in_ok-steps-in-Run.rest.now c.in-Run.count c.in_ok-steps-in-Run.steps c.in_ok-steps-in-Run.ensures in
    let small : c.args.before + 1 + c.from.result < 2 ^ 64 = omega (arith, fits, c.from.ensures, c.requires.room, behind_shorter (line_text c.args.line) c.args.text.now) in
    search (rules, small)

pub returns-in_ok-steps-in-Run : goal.returns-in_ok-steps-in-Run
returns-in_ok-steps-in-Run c =
    let run = c.in_ok-steps-in-Run.ensures in
    let log = c.in_ok-steps-in-Run.steps in
    let size : c.args.before + 1 + c.from.result ≡ c.args.before + suc (length (step_lines log.first log.steps)) = omega (arith, c.from.ensures, run.whole, length-step_lines log.first log.steps) in
    (run_section c.args.line c.in-Run.ratio c.in-Run.count log c.args.text.now c.in_ok-steps-in-Run.rest.now c.in-Run.is c.requires.said run, size)
