use Rattle.std.proofs.Common.{◌≡◌, ◌+◌, ◌<◌, ◌^◌, ◌∷◌, ◌++◌, [], length, sym, ap, subst, ◌∙◌, rules, arith}
use Rattle.std.specs.List.{AllByRecursion, flat_map}
use Rattle.bx_lines.specs.Lines.{text_of}
use Rattle.bx_cert.specs.declared.fault.CertFault.TheVariants.{BadCert}
use Rattle.bx_cert.specs.declared.parts.Section.{Section}
use Rattle.bx_cert.specs.Certs.{IsSection}
use Rattle.bx_cert.specs.Texts.{section_lines}
use Rattle.bx_cert.specs.Grammar.{at_section}
use Rattle.bx_cert.specs.Readings.{StopsAt}
use Rattle.bx_proof.proofs.Closed.{each_push}
use Rattle.bx_cert.proofs.Leading.{with_sections}
use Rattle.bx_cert.proofs.Stopping.{stops_here, stuck_none}
use Rattle.bx_cert.proofs.Readers.{line_split, line_size, sections_stop, sections_split, sections_size, sections_room, handed_on}
use Rattle.bx_cert.proofs.read.read_sections.Goals as goal

pub overflow_add-result : goal.overflow_add-result
overflow_add-result c =
    let room = sections_room c.loop-line.sections.items c.args.text.now c.loop-line.rest.now c.args.before c.loop-line.lines c.loop-line.invariant.spelled c.loop-line.invariant.count in
    let small : c.loop-line.lines + 1 < 2 ^ 64 = omega (arith, room, c.requires) in
    search (rules, small)

pub returns-in_default : goal.returns-in_default
returns-in_default c = λ d.
    let there = at_section (with_sections d c.loop-line.sections.items) in
    sections_stop d c.loop-line.sections.items c.args.text.now c.loop-line.rest.now c.args.before c.loop-line.lines (BadCert (c.loop-line.lines + 1)) c.loop-line.invariant.are c.loop-line.invariant.spelled c.loop-line.invariant.count
    (stops_here there c.loop-line.rest.now c.loop-line.lines (stuck_none there c.loop-line.rest.now (λ b to g. g) (λ e. e) c.in_default.ensures.none))

pub read_section-requires-clause-room : goal.read_section-requires-clause-room
read_section-requires-clause-room c =
    let room = sections_room c.loop-line.sections.items c.args.text.now c.loop-line.rest.now c.args.before c.loop-line.lines c.loop-line.invariant.spelled c.loop-line.invariant.count in
    let size = line_size c.loop-line.rest.now c.in-Some.line c.in-Some.behind.now c.in-Some.ensures.found in
    omega (arith, room, size, c.requires)

pub returns-in_err-section : goal.returns-in_err-section
returns-in_err-section c = handed_on _ _ c.from_residual.result c.in_err-section.field-0.0 c.from_residual.ensures.1 (λ d.
    let there = at_section (with_sections d c.loop-line.sections.items) in
    let split = line_split c.loop-line.rest.now c.in-Some.line c.in-Some.behind.now c.in-Some.ensures.found in
    sections_stop d c.loop-line.sections.items c.args.text.now c.loop-line.rest.now c.args.before c.loop-line.lines c.in_err-section.field-0.0 c.loop-line.invariant.are c.loop-line.invariant.spelled c.loop-line.invariant.count
    (subst (λ bs. StopsAt there bs c.loop-line.lines c.in_err-section.field-0.0) (sym split) (c.in_err-section.ensures (with_sections d c.loop-line.sections.items))))

pub loop-line-preserved : goal.loop-line-preserved
loop-line-preserved c =
    let ss = c.loop-line.sections.items in
    let s : Section = c.in-Some-2.section in
    let found = rw c.in-Some-2.is at c.in_ok-section.ensures in
    let items : c.push.new.self.items ≡ ss ++ s ∷ [] = c.in_ok-push.ensures.items in
    let split = line_split c.loop-line.rest.now c.in-Some.line c.in-Some.behind.now c.in-Some.ensures.found in
    let spelled = sections_split ss s c.args.text.now c.loop-line.rest.now c.in-Some-2.next.now c.loop-line.invariant.spelled (split ∙ found.0.spelled) in
    let count = sections_size ss s c.args.before c.loop-line.lines c.in-Some-2.more c.loop-line.invariant.count found.1 in
    record {
      are = subst (AllByRecursion IsSection) (sym items) (each_push IsSection ss s c.loop-line.invariant.are found.0.is);
      spelled = spelled ∙ ap (λ xs. text_of (flat_map section_lines xs) ++ c.in-Some-2.next.now) (sym items);
      count = count ∙ ap (λ xs. c.args.before + length (flat_map section_lines xs)) (sym items);
    }
