use Rattle.std.proofs.Common.{◌≡◌, ◌+◌, length, sym, subst, arith}
use Rattle.bx_siqad.specs.Texts.{IsTextOf}
use Rattle.bx_siqad.proofs.Stops.{drawing_of, reads_handed_on, front_reads, no_ratio_reads, middle_reads, disorder_reads, back_reads, behind_last_reads, whole_reads, ratio_split, head_split, dots_split, design_split, some_bytes}
use Rattle.bx_siqad.proofs.read.read_whole.Goals as goal

pub returns-in_err-text : goal.returns-in_err-text
returns-in_err-text c = reads_handed_on c.args.bytes.now c.from_residual.result c.in_err-text.field-0.0 c.from_residual.ensures.1 (front_reads c.args.bytes.now c.in_err-text.field-0.0 c.in_err-text.ensures)

pub returns-in_default : goal.returns-in_default
returns-in_default c = no_ratio_reads c.args.bytes.now c.in_ok-text.text.now c.in_ok-text.ensures c.in_default.ensures.none

pub returns-in_err-text-2 : goal.returns-in_err-text-2
returns-in_err-text-2 c =
    let bytes = c.args.bytes.now in
    let found = c.in-Some.ensures.found in
    let split = ratio_split bytes c.in_ok-text.text.now c.in-Some.ratio c.in-Some.text.now c.in_ok-text.ensures found in
    let fault = c.in_err-text-2.field-0.0 in
    reads_handed_on bytes c.from_residual-in_err-text-2.result fault c.from_residual-in_err-text-2.ensures.1
    (middle_reads c.in-Some.ratio bytes c.in-Some.text.now fault found.is split c.in_err-text-2.ensures)

pub returns-in_err-dots : goal.returns-in_err-dots
returns-in_err-dots c =
    let bytes = c.args.bytes.now in
    let found = c.in-Some.ensures.found in
    let split = ratio_split bytes c.in_ok-text.text.now c.in-Some.ratio c.in-Some.text.now c.in_ok-text.ensures found in
    let head = head_split bytes c.in-Some.text.now c.in_ok-text-2.text.now c.in-Some.ratio split c.in_ok-text-2.ensures in
    let fault = c.in_err-dots.field-0.0 in
    reads_handed_on bytes c.from_residual-in_err-dots.result fault c.from_residual-in_err-dots.ensures.1
    (disorder_reads c.in-Some.ratio bytes c.in_ok-text-2.text.now fault found.is head c.in_err-dots.ensures)

pub returns-in_err-rest : goal.returns-in_err-rest
returns-in_err-rest c =
    let bytes = c.args.bytes.now in
    let found = c.in-Some.ensures.found in
    let dots = c.in_ok-dots.ensures in
    let ds = c.in_ok-dots.dots.items in
    let split = ratio_split bytes c.in_ok-text.text.now c.in-Some.ratio c.in-Some.text.now c.in_ok-text.ensures found in
    let head = head_split bytes c.in-Some.text.now c.in_ok-text-2.text.now c.in-Some.ratio split c.in_ok-text-2.ensures in
    let front = dots_split bytes c.in_ok-text-2.text.now c.in_ok-dots.text.now c.in-Some.ratio ds head dots.spelled in
    let fault = c.in_err-rest.field-0.0 in
    let count : 11 + c.len.result ≡ 11 + length ds = omega (arith, c.len.ensures) in
    reads_handed_on bytes c.from_residual-in_err-rest.result fault c.from_residual-in_err-rest.ensures.1
    (back_reads c.in-Some.ratio ds bytes c.in_ok-dots.text.now (11 + c.len.result) fault found.is dots.are dots.ascending front count dots.no_more c.in_err-rest.ensures)

pub returns-then-not-is_empty : goal.returns-then-not-is_empty
returns-then-not-is_empty c =
    let bytes = c.args.bytes.now in
    let found = c.in-Some.ensures.found in
    let dots = c.in_ok-dots.ensures in
    let ds = c.in_ok-dots.dots.items in
    let r = c.in-Some.ratio in
    let rest = c.in_ok-rest.rest.now in
    let split = ratio_split bytes c.in_ok-text.text.now r c.in-Some.text.now c.in_ok-text.ensures found in
    let head = head_split bytes c.in-Some.text.now c.in_ok-text-2.text.now r split c.in_ok-text-2.ensures in
    let front = dots_split bytes c.in_ok-text-2.text.now c.in_ok-dots.text.now r ds head dots.spelled in
    let whole = design_split bytes c.in_ok-dots.text.now rest r ds front c.in_ok-rest.ensures in
    let count : 11 + c.len.result + 4 ≡ 15 + length ds = omega (arith, c.len.ensures) in
    behind_last_reads (drawing_of r ds) bytes rest (11 + c.len.result + 4) (record { ratio = found.is; dots = dots.are; ascending = dots.ascending }) whole count (some_bytes rest c.is_empty.result c.if-not-is_empty.true c.is_empty.ensures)

pub returns : goal.returns
returns c =
    let bytes = c.args.bytes.now in
    let found = c.in-Some.ensures.found in
    let dots = c.in_ok-dots.ensures in
    let ds = c.in_ok-dots.dots.items in
    let r = c.in-Some.ratio in
    let rest = c.in_ok-rest.rest.now in
    let split = ratio_split bytes c.in_ok-text.text.now r c.in-Some.text.now c.in_ok-text.ensures found in
    let head = head_split bytes c.in-Some.text.now c.in_ok-text-2.text.now r split c.in_ok-text-2.ensures in
    let front = dots_split bytes c.in_ok-text-2.text.now c.in_ok-dots.text.now r ds head dots.spelled in
    let whole = design_split bytes c.in_ok-dots.text.now rest r ds front c.in_ok-rest.ensures in
    subst (λ d. IsTextOf d bytes) (sym c.new.ensures) (whole_reads bytes rest r ds c.is_empty.result found.is dots.are dots.ascending whole c.if-not-is_empty.false c.is_empty.ensures)
