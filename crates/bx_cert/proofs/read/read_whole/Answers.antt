use Rattle.std.proofs.Common.{◌≡◌, ◌+◌, ◌<◌, ◌^◌, ◌++◌, [], rules, arith}
use Rattle.bx_lines.specs.Lines.{ended}
use Rattle.bx_cert.specs.declared.fault.CertFault.TheVariants.{BadCert}
use Rattle.bx_cert.specs.Texts.{line_text}
use Rattle.bx_cert.proofs.Leading.{with_sections}
use Rattle.bx_cert.proofs.Readers.{first_draft, reads_stop, front_stop, behind_sections_stop, behind_last_stop, front_room, last_room, last_fits, reads_handed_on, some_bytes}
use Rattle.bx_cert.proofs.read.read_whole.Goals as goal

pub returns-in_err-limits : goal.returns-in_err-limits
returns-in_err-limits c = reads_handed_on c.args.bytes.now c.from_residual.result c.in_err-limits.field-0.0 c.from_residual.ensures.1 (reads_stop c.args.bytes.now c.in_err-limits.field-0.0 c.in_err-limits.ensures)

pub returns-in_err-sections : goal.returns-in_err-sections
returns-in_err-sections c =
    let front = c.in_ok-limits.ensures in
    let d = first_draft c.in_ok-limits.limits c.in_ok-limits.budget in
    reads_handed_on c.args.bytes.now c.from_residual-in_err-sections.result c.in_err-sections.field-0.0 c.from_residual-in_err-sections.ensures.1
    (reads_stop c.args.bytes.now c.in_err-sections.field-0.0 (front_stop c.args.bytes.now c.in_ok-limits.text.now c.in_ok-limits.limits c.in_ok-limits.budget c.in_err-sections.field-0.0 front (c.in_err-sections.ensures d)))

pub read_last-requires-clause-room : goal.read_last-requires-clause-room
read_last-requires-clause-room c =
    let first = front_room c.args.bytes.now c.in_ok-limits.text.now c.in_ok-limits.limits c.in_ok-limits.budget c.in_ok-limits.ensures in
    let sections = c.in_ok-sections.ensures in
    let room = last_room c.in_ok-limits.text.now c.in_ok-sections.text.now c.in_ok-sections.sections.items c.in_ok-sections.line c.in_ok-sections.lines sections.0 sections.1 in
    omega (arith, first, room)

pub returns-in_err-last : goal.returns-in_err-last
returns-in_err-last c =
    let front = c.in_ok-limits.ensures in
    let sections = c.in_ok-sections.ensures in
    let ss = c.in_ok-sections.sections.items in
    let d = with_sections (first_draft c.in_ok-limits.limits c.in_ok-limits.budget) ss in
    let fault = c.in_err-last.field-0.0 in
    reads_handed_on c.args.bytes.now c.from_residual-in_err-last.result fault c.from_residual-in_err-last.ensures.1
    (reads_stop c.args.bytes.now fault (front_stop c.args.bytes.now c.in_ok-limits.text.now c.in_ok-limits.limits c.in_ok-limits.budget fault front
    (behind_sections_stop c.in_ok-limits.text.now c.in_ok-sections.text.now c.in_ok-limits.limits c.in_ok-limits.budget ss c.in_ok-sections.line c.in_ok-sections.lines fault sections.0 sections.1 (c.in_err-last.ensures d))))

pub overflow_add-result : goal.overflow_add-result
overflow_add-result c =
    let first = front_room c.args.bytes.now c.in_ok-limits.text.now c.in_ok-limits.limits c.in_ok-limits.budget c.in_ok-limits.ensures in
    let sections = c.in_ok-sections.ensures in
    let ends = c.in_ok-last.ensures in
    let room = last_room c.in_ok-limits.text.now c.in_ok-sections.text.now c.in_ok-sections.sections.items c.in_ok-sections.line c.in_ok-sections.lines sections.0 sections.1 in
    let fits = last_fits (ended (line_text c.in_ok-sections.line) ++ c.in_ok-sections.text.now) c.in_ok-last.rest.now c.in_ok-last.last ends.0 in
    let small : c.in_ok-last.lines + 1 < 2 ^ 64 = omega (arith, first, room, fits, ends.1) in
    search (rules, small)

pub returns-then-not-is_empty : goal.returns-then-not-is_empty
returns-then-not-is_empty c =
    let front = c.in_ok-limits.ensures in
    let sections = c.in_ok-sections.ensures in
    let ends = c.in_ok-last.ensures in
    let ss = c.in_ok-sections.sections.items in
    let d = with_sections (first_draft c.in_ok-limits.limits c.in_ok-limits.budget) ss in
    let rest = c.in_ok-last.rest.now in
    let whole = ended (line_text c.in_ok-sections.line) ++ c.in_ok-sections.text.now in
    let fault = BadCert (c.in_ok-last.lines + 1) in
    let some : rest ≡ [] → ⊥ = some_bytes rest c.is_empty.result c.if-not-is_empty.true c.is_empty.ensures in
    reads_stop c.args.bytes.now fault (front_stop c.args.bytes.now c.in_ok-limits.text.now c.in_ok-limits.limits c.in_ok-limits.budget fault front
    (behind_sections_stop c.in_ok-limits.text.now c.in_ok-sections.text.now c.in_ok-limits.limits c.in_ok-limits.budget ss c.in_ok-sections.line c.in_ok-sections.lines fault sections.0 sections.1
    (behind_last_stop d whole rest c.in_ok-last.last c.in_ok-sections.lines c.in_ok-last.lines ends.0 ends.1 some)))
