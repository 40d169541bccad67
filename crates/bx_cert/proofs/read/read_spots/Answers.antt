use Rattle.std.proofs.Common.{◌≡◌, ◌+◌, ◌<◌, ◌^◌, ◌∷◌, ◌++◌, [], length, sym, ap, subst, ◌∙◌, rules, arith, length-append}
use Rattle.std.specs.List.{AllByRecursion}
use Rattle.bx_lines.specs.Lines.{ended, text_of}
use Rattle.bx_cert.specs.declared.fault.CertFault.TheVariants.{BadCert}
use Rattle.bx_cert.specs.declared.line.Line.{Line}
use Rattle.bx_cert.specs.declared.parts.Spot.{Spot}
use Rattle.bx_cert.specs.Certs.{IsSpot}
use Rattle.bx_cert.specs.Texts.{line_text}
use Rattle.bx_cert.specs.Grammar.{IsSaid, at_place}
use Rattle.bx_proof.proofs.Closed.{each_push}
use Rattle.bx_cert.proofs.Leading.{place_lines}
use Rattle.bx_cert.proofs.Stopping.{stops_here, stuck_none, stuck_other, not_place}
use Rattle.bx_cert.proofs.Readers.{line_split, spots_stop, spots_split, spots_room}
use Rattle.bx_cert.proofs.read.read_spots.Goals as goal

pub overflow_add-result : goal.overflow_add-result
overflow_add-result c =
    let room = spots_room c.loop-line.spots.items c.args.text.now c.loop-line.rest.now c.args.before c.loop-line.lines c.loop-line.invariant.spelled c.loop-line.invariant.count in
    let small : c.loop-line.lines + 1 < 2 ^ 64 = omega (arith, room, c.requires) in
    search (rules, small)

pub returns-in_default : goal.returns-in_default
returns-in_default c = λ d ratio.
    let there = at_place d ratio c.loop-line.spots.items in
    spots_stop d ratio c.loop-line.spots.items c.args.text.now c.loop-line.rest.now c.args.before c.loop-line.lines (BadCert (c.loop-line.lines + 1)) c.loop-line.invariant.are c.loop-line.invariant.spelled c.loop-line.invariant.count
    (stops_here there c.loop-line.rest.now c.loop-line.lines (stuck_none there c.loop-line.rest.now (λ b to g. g) (λ e. e) c.in_default.ensures.none))

pub overflow_add-result-in-End : goal.overflow_add-result-in-End
overflow_add-result-in-End c =
    let room = spots_room c.loop-line.spots.items c.args.text.now c.loop-line.rest.now c.args.before c.loop-line.lines c.loop-line.invariant.spelled c.loop-line.invariant.count in
    let small : c.loop-line.lines + 1 < 2 ^ 64 = omega (arith, room, c.requires) in
    search (rules, small)

pub overflow_add-result-in_default-line : goal.overflow_add-result-in_default-line
overflow_add-result-in_default-line c =
    let room = spots_room c.loop-line.spots.items c.args.text.now c.loop-line.rest.now c.args.before c.loop-line.lines c.loop-line.invariant.spelled c.loop-line.invariant.count in
    let small : c.loop-line.lines + 1 < 2 ^ 64 = omega (arith, room, c.requires) in
    search (rules, small)

pub returns-in_default-line : goal.returns-in_default-line
returns-in_default-line c = λ d ratio.
    let there = at_place d ratio c.loop-line.spots.items in
    spots_stop d ratio c.loop-line.spots.items c.args.text.now c.loop-line.rest.now c.args.before c.loop-line.lines (BadCert (c.loop-line.lines + 1)) c.loop-line.invariant.are c.loop-line.invariant.spelled c.loop-line.invariant.count
    (stops_here there c.loop-line.rest.now c.loop-line.lines (stuck_other there c.loop-line.rest.now c.in-Some.line c.in-Some.behind.now (λ b to g. g) (λ e. e) c.in-Some.ensures.found
    (λ to. not_place d ratio c.loop-line.spots.items c.in-Some.line to c.in_default-line.not-Place c.in_default-line.not-End)))

pub overflow_add-lines : goal.overflow_add-lines
overflow_add-lines c =
    let room = spots_room c.loop-line.spots.items c.args.text.now c.loop-line.rest.now c.args.before c.loop-line.lines c.loop-line.invariant.spelled c.loop-line.invariant.count in
    let small : c.loop-line.lines + 1 < 2 ^ 64 = omega (arith, room, c.requires) in
    search (rules, small)

pub loop-line-preserved : goal.loop-line-preserved
loop-line-preserved c =
    let ss = c.loop-line.spots.items in
    let s : Spot = c.in-Place.spot in
    let items : c.push.new.self.items ≡ ss ++ s ∷ [] = c.in_ok-push.ensures.items in
    let said = subst IsSaid c.in-Place.is c.in-Some.ensures.found.said in
    let split = line_split c.loop-line.rest.now c.in-Some.line c.in-Some.behind.now c.in-Some.ensures.found ∙ ap (λ (l : Line). ended (line_text l) ++ c.in-Some.behind.now) c.in-Place.is in
    let spelled = spots_split ss s c.args.text.now c.loop-line.rest.now c.in-Some.behind.now c.loop-line.invariant.spelled split in
    record {
      are = subst (AllByRecursion IsSpot) (sym items) (each_push IsSpot ss s c.loop-line.invariant.are said);
      spelled = spelled ∙ ap (λ xs. text_of (place_lines xs) ++ c.in-Some.behind.now) (sym items);
      count = omega (arith, c.loop-line.invariant.count, ap length items, length-append ss (s ∷ []));
    }
