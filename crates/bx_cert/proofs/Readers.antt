-- What the readers of a certificate's parts answer, from what they found and where they stopped.
use Rattle.std.proofs.Common.{◌≡◌, ℕ, suc, ◌+◌, ◌<◌, ◌≤◌, List, [], ◌∷◌, ◌++◌, length, Bool, true, false, Result, Ok, Err, refl, sym, ◌∙◌, ap, subst, arith, append_assoc, length-append}
use Rattle.std.proofs.lemmas.Bool.{eq-eqb}
use Rattle.std.proofs.lemmas.Grind.{flat_map-append}
use Rattle.std.proofs.lemmas.List.{append-nil}
use Rattle.std.specs.Prelude.{MatchResult, IsErrAnd, ◌==◌}
use Rattle.std.specs.List.{AllByRecursion, flat_map}
use Rattle.bx_grid.specs.declared.ratio.Ratio.{Ratio}
use Rattle.bx_grid.specs.declared.ratio.Limits.{Limits}
use Rattle.bx_grid.specs.declared.count.CountProof.{CountProof}
use Rattle.bx_lines.specs.Lines.{ended, text_of}
use Rattle.bx_lines.specs.Grammars.{Lead}
use Rattle.bx_proof.specs.Steps.{StepList}
use Rattle.bx_proof.specs.Texts.{step_lines}
use Rattle.bx_proof.specs.declared.refutation.Refutation.{Refutation}
use Rattle.bx_proof.specs.declared.refutation.Refutation.TheVariants.{Count, Clauses}
use Rattle.bx_proof.proofs.StepLines.{length-step_lines}
use Rattle.bx_cert.specs.declared.fault.CertFault.{CertFault}
use Rattle.bx_cert.specs.declared.fault.CertFault.TheVariants.{BadCert, NoMemory}
use Rattle.bx_cert.specs.declared.line.Line.{Line}
use Rattle.bx_cert.specs.declared.line.Line.TheVariants.{Head, Bounds, Counted, Run, FoundAt, GaveUp, NoRatio, Place, End}
use Rattle.bx_cert.specs.declared.parts.Spot.{Spot}
use Rattle.bx_cert.specs.declared.parts.Section.{Section}
use Rattle.bx_cert.specs.declared.parts.CertLast.{CertLast}
use Rattle.bx_cert.specs.declared.parts.CertLast.TheVariants.{Found, Undecided, NoneWithin}
use Rattle.bx_cert.specs.Certs.{Certificate, IsSpot, IsSection, IsCert}
use Rattle.bx_cert.specs.Texts.{line_text, section_lines, refutation_lines, last_lines, IsTextOf, Reads}
use Rattle.bx_cert.specs.Grammar.{IsSaid, Draft, ended_by, State, at_head, at_limits, at_section, at_first_step, at_place, at_end, at_nothing, Leads, GoesByLine, Goes, cert_grammar, Stops}
use Rattle.bx_cert.specs.Readings.{IsLineAt, IsRunAt, IsSectionAt, AreSectionsAt, AreSpotsAt, IsLastAt, IsFrontAt, StopsAt}
use Rattle.bx_cert.proofs.Leading.{with_sections, place_lines, sections_lead, spots_lead, last_lead}
use Rattle.bx_cert.proofs.Stopping.{stops_behind, stops_here, stops_bad, stuck_other, stuck_nothing, lines_fit}

-- a line and what is behind it
pub line_split : (rest : List ℕ) (line : Line) (behind : List ℕ) → IsLineAt rest line behind → rest ≡ ended (line_text line) ++ behind
line_split rest line behind at = at.spelled ∙ sym (append_assoc (line_text line) (10 ∷ []) behind)

pub line_size : (rest : List ℕ) (line : Line) (behind : List ℕ) → IsLineAt rest line behind → length (ended (line_text line) ++ behind) ≡ length rest
line_size rest line behind at = sym (ap length (line_split rest line behind at))

pub behind_shorter : (line behind : List ℕ) → length behind + 1 ≤ length (ended line ++ behind)
behind_shorter line behind = omega (arith, length-append (ended line) behind, length-append line (10 ∷ []))

-- behind a line that leads on
pub line_stops : (s t : State) (line : Line) (text : List ℕ) (before : ℕ) (fault : CertFault) → Goes s (line_text line) t → StopsAt t text (before + 1) fault → StopsAt s (ended (line_text line) ++ text) before fault
line_stops s t line text before fault goes x =
    stops_behind (line_text line ∷ []) s t (ended (line_text line) ++ text) text before (before + 1) fault (t, goes, refl) (ap (λ bs. bs ++ text) (sym (append-nil (ended (line_text line))))) refl x

-- sections

pub counted_section : (line : Line) (r : Ratio) (p : CountProof) (text : List ℕ) → line ≡ Counted r p → IsSaid line → IsSectionAt (ended (line_text line) ++ text) (record { ratio = r; proof = Count p }) text
counted_section line r p text e said =
    let own : IsSaid (Counted r p) = subst IsSaid e said in
    record {
      is = record { ratio = own.0; proof = own.1 };
      spelled = ap (λ l. ended (line_text l) ++ text) e ∙ ap (λ bs. bs ++ text) (sym (append-nil (ended (line_text (Counted r p)))));
    }

pub run_section : (line : Line) (r : Ratio) (k : ℕ) (log : StepList) (text rest : List ℕ) → line ≡ Run r k → IsSaid line → IsRunAt text k log rest → IsSectionAt (ended (line_text line) ++ text) (record { ratio = r; proof = Clauses log }) rest
run_section line r k log text rest e said run =
    let own : IsSaid (Run r k) = subst IsSaid e said in
    let lines = step_lines log.first log.steps in
    let size : k ≡ length log.steps = sym run.whole in
    record {
      is = record { ratio = own.0; proof = record { some = omega (arith, own.1, size); steps = run.steps } };
      spelled = ap (λ l. ended (line_text l) ++ text) e
          ∙ ap (λ n. ended (line_text (Run r n)) ++ text) size
          ∙ ap (λ bs. ended (line_text (Run r (length log.steps))) ++ bs) run.spelled
          ∙ sym (append_assoc (ended (line_text (Run r (length log.steps)))) (text_of lines) rest);
    }

pub run_size : (r : Ratio) (k before : ℕ) (log : StepList) (text rest : List ℕ) → IsRunAt text k log rest → before + 1 + k ≡ before + length (section_lines (record { ratio = r; proof = Clauses log }))
run_size r k before log text rest run = omega (arith, run.whole, length-step_lines log.first log.steps)

pub run_stops : (d : Draft) (line : Line) (r : Ratio) (k : ℕ) (text : List ℕ) (before : ℕ) (fault : CertFault) → line ≡ Run r k → IsSaid line → StopsAt (at_first_step d r k) text (before + 1) fault → StopsAt (at_section d) (ended (line_text line) ++ text) before fault
run_stops d line r k text before fault e said x =
    subst (λ l. StopsAt (at_section d) (ended (line_text l) ++ text) before fault) (sym e)
    (line_stops (at_section d) (at_first_step d r k) (Run r k) text before fault (record { line = Run r k; said = subst IsSaid e said; spelled = refl; leads = refl }) x)

pub sections_stop : (d : Draft) (ss : List Section) (text rest : List ℕ) (before lines : ℕ) (fault : CertFault) → AllByRecursion IsSection ss → text ≡ text_of (flat_map section_lines ss) ++ rest → lines ≡ before + length (flat_map section_lines ss) → StopsAt (at_section (with_sections d ss)) rest lines fault → StopsAt (at_section d) text before fault
sections_stop d ss text rest before lines fault are split count x = stops_behind (flat_map section_lines ss) (at_section d) (at_section (with_sections d ss)) text rest before lines fault (sections_lead ss d are) split count x

pub sections_more : (ss : List Section) (s : Section) → flat_map section_lines (ss ++ s ∷ []) ≡ flat_map section_lines ss ++ section_lines s
sections_more ss s = flat_map-append section_lines ss (s ∷ []) ∙ ap (λ xs. flat_map section_lines ss ++ xs) (append-nil (section_lines s))

pub sections_split : (ss : List Section) (s : Section) (text rest next : List ℕ) → text ≡ text_of (flat_map section_lines ss) ++ rest → rest ≡ text_of (section_lines s) ++ next → text ≡ text_of (flat_map section_lines (ss ++ s ∷ [])) ++ next
sections_split ss s text rest next split own =
    split ∙ ap (λ bs. text_of (flat_map section_lines ss) ++ bs) own
    ∙ sym (append_assoc (text_of (flat_map section_lines ss)) (text_of (section_lines s)) next)
    ∙ ap (λ bs. bs ++ next) (sym (flat_map-append ended (flat_map section_lines ss) (section_lines s)))
    ∙ ap (λ xs. text_of xs ++ next) (sym (sections_more ss s))

pub sections_size : (ss : List Section) (s : Section) (before lines more : ℕ) → lines ≡ before + length (flat_map section_lines ss) → more ≡ lines + length (section_lines s) → more ≡ before + length (flat_map section_lines (ss ++ s ∷ []))
sections_size ss s before lines more count own =
    let whole : length (flat_map section_lines (ss ++ s ∷ [])) ≡ length (flat_map section_lines ss) + length (section_lines s) = ap length (sections_more ss s) ∙ length-append (flat_map section_lines ss) (section_lines s) in
    omega (arith, count, own, whole)

some_lines : (r : Ratio) (p : Refutation) → 0 < length (refutation_lines r p)
some_lines r (Count p) = omega arith
some_lines r (Clauses log) = omega arith

pub section_shorter : (s : Section) (rest next : List ℕ) → rest ≡ text_of (section_lines s) ++ next → length next < length rest
section_shorter s rest next split = omega (arith, lines_fit (section_lines s) next, ap length split, some_lines s.ratio s.proof)

pub sections_room : (ss : List Section) (text rest : List ℕ) (before lines : ℕ) → text ≡ text_of (flat_map section_lines ss) ++ rest → lines ≡ before + length (flat_map section_lines ss) → lines + length rest ≤ before + length text
sections_room ss text rest before lines split count = omega (arith, lines_fit (flat_map section_lines ss) rest, ap length split, count)

-- places

pub spots_stop : (d : Draft) (r : Ratio) (ss : List Spot) (text rest : List ℕ) (before lines : ℕ) (fault : CertFault) → AllByRecursion IsSpot ss → text ≡ text_of (place_lines ss) ++ rest → lines ≡ before + length ss → StopsAt (at_place d r ss) rest lines fault → StopsAt (at_place d r []) text before fault
spots_stop d r ss text rest before lines fault are split count x = stops_behind (place_lines ss) (at_place d r []) (at_place d r ss) text rest before lines fault (spots_lead ss d r [] are) split (omega (arith, count, places_size ss)) x where
  places_size : (ts : List Spot) → length (place_lines ts) ≡ length ts
  places_size [] = refl
  places_size (t ∷ ts) = ap suc (places_size ts)

pub length-place_lines : (ss : List Spot) → length (place_lines ss) ≡ length ss
length-place_lines [] = refl
length-place_lines (s ∷ ss) = ap suc (length-place_lines ss)

pub spots_split : (ss : List Spot) (s : Spot) (text rest next : List ℕ) → text ≡ text_of (place_lines ss) ++ rest → rest ≡ ended (line_text (Place s)) ++ next → text ≡ text_of (place_lines (ss ++ s ∷ [])) ++ next
spots_split [] s text rest next split own = split ∙ own ∙ ap (λ bs. bs ++ next) (sym (append-nil (ended (line_text (Place s)))))
spots_split (t ∷ ts) s text rest next split own =
    let inner : text_of (place_lines ts) ++ rest ≡ text_of (place_lines (ts ++ s ∷ [])) ++ next = spots_split ts s (text_of (place_lines ts) ++ rest) rest next refl own in
    split ∙ append_assoc (ended (line_text (Place t))) (text_of (place_lines ts)) rest ∙ ap (λ bs. ended (line_text (Place t)) ++ bs) inner ∙ sym (append_assoc (ended (line_text (Place t))) (text_of (place_lines (ts ++ s ∷ []))) next)

pub spots_room : (ss : List Spot) (text rest : List ℕ) (before lines : ℕ) → text ≡ text_of (place_lines ss) ++ rest → lines ≡ before + length ss → lines + length rest ≤ before + length text
spots_room ss text rest before lines split count = omega (arith, lines_fit (place_lines ss) rest, ap length split, count, length-place_lines ss)

-- how a search ended

pub found_last : (line : Line) (r : Ratio) (spots : List Spot) (text rest : List ℕ) → line ≡ FoundAt r → IsSaid line → AreSpotsAt text spots rest → IsLastAt (ended (line_text line) ++ text) (Found r spots) rest
found_last line r spots text rest e said at = record {
  is = (subst IsSaid e said, at.are);
  spelled = ap (λ l. ended (line_text l) ++ text) e
      ∙ ap (λ bs. ended (line_text (FoundAt r)) ++ bs) at.spelled
      ∙ sym (append_assoc (ended (line_text (FoundAt r))) (text_of (place_lines spots)) (ended (line_text End) ++ rest));
}

pub gave_up_last : (line : Line) (r : Ratio) (n : ℕ) (text rest : List ℕ) → line ≡ GaveUp r n → IsSaid line → text ≡ ended (line_text End) ++ rest → IsLastAt (ended (line_text line) ++ text) (Undecided r n) rest
gave_up_last line r n text rest e said split = record {
  is = subst IsSaid e said;
  spelled = ap (λ l. ended (line_text l) ++ text) e ∙ ap (λ bs. ended (line_text (GaveUp r n)) ++ bs) split ∙ ap (λ bs. bs ++ (ended (line_text End) ++ rest)) (sym (append-nil (ended (line_text (GaveUp r n)))));
}

pub none_last : (line : Line) (text rest : List ℕ) → line ≡ NoRatio → text ≡ ended (line_text End) ++ rest → IsLastAt (ended (line_text line) ++ text) NoneWithin rest
none_last line text rest e split = record {
  is = tt;
  spelled = ap (λ l. ended (line_text l) ++ text) e ∙ ap (λ bs. ended (line_text NoRatio) ++ bs) split ∙ ap (λ bs. bs ++ (ended (line_text End) ++ rest)) (sym (append-nil (ended (line_text NoRatio))));
}

pub found_stops : (d : Draft) (line : Line) (r : Ratio) (text : List ℕ) (before : ℕ) (fault : CertFault) → line ≡ FoundAt r → IsSaid line → StopsAt (at_place d r []) text (before + 1) fault → StopsAt (at_section d) (ended (line_text line) ++ text) before fault
found_stops d line r text before fault e said x =
    subst (λ l. StopsAt (at_section d) (ended (line_text l) ++ text) before fault) (sym e)
    (line_stops (at_section d) (at_place d r []) (FoundAt r) text before fault (record { line = FoundAt r; said = subst IsSaid e said; spelled = refl; leads = refl }) x)

pub gave_up_stops : (d : Draft) (line : Line) (r : Ratio) (n : ℕ) (text : List ℕ) (before : ℕ) (fault : CertFault) → line ≡ GaveUp r n → IsSaid line → StopsAt (at_end (ended_by d (Undecided r n))) text (before + 1) fault → StopsAt (at_section d) (ended (line_text line) ++ text) before fault
gave_up_stops d line r n text before fault e said x =
    subst (λ l. StopsAt (at_section d) (ended (line_text l) ++ text) before fault) (sym e)
    (line_stops (at_section d) (at_end (ended_by d (Undecided r n))) (GaveUp r n) text before fault (record { line = GaveUp r n; said = subst IsSaid e said; spelled = refl; leads = refl }) x)

pub none_stops : (d : Draft) (line : Line) (text : List ℕ) (before : ℕ) (fault : CertFault) → line ≡ NoRatio → StopsAt (at_end (ended_by d NoneWithin)) text (before + 1) fault → StopsAt (at_section d) (ended (line_text line) ++ text) before fault
none_stops d line text before fault e x =
    subst (λ l. StopsAt (at_section d) (ended (line_text l) ++ text) before fault) (sym e)
    (line_stops (at_section d) (at_end (ended_by d NoneWithin)) NoRatio text before fault (record { line = NoRatio; said = tt; spelled = refl; leads = refl }) x)

-- a line that leads nowhere
pub other_stops : (s : State) (line : Line) (text : List ℕ) (before : ℕ) → ((bytes : List ℕ) (to : State) → Goes s bytes to → GoesByLine s bytes to) → (cert_grammar.ends s → ⊥) → IsSaid line → ((to : State) → Leads s line to → ⊥) → StopsAt s (ended (line_text line) ++ text) before (BadCert (before + 1))
other_stops s line text before by ends said other =
    stops_here s (ended (line_text line) ++ text) before (stuck_other s (ended (line_text line) ++ text) line text by ends (record { said = said; spelled = append_assoc (line_text line) (10 ∷ []) text }) other)

-- the whole

abbrev pub front_lines : Limits → ℕ → List (List ℕ)
front_lines limits budget = line_text Head ∷ line_text (Bounds limits budget) ∷ []

abbrev pub first_draft : Limits → ℕ → Draft
first_draft limits budget = record { limits = limits; budget = budget; sections = [] }

front_lead : (limits : Limits) (budget : ℕ) → IsSaid (Bounds limits budget) → Lead Goes at_head (front_lines limits budget) (at_section (first_draft limits budget))
front_lead limits budget said =
    let second : Lead Goes at_limits (line_text (Bounds limits budget) ∷ []) (at_section (first_draft limits budget)) = (at_section (first_draft limits budget), record { line = Bounds limits budget; said = said; spelled = refl; leads = refl }, refl) in
    (at_limits, record { line = Head; said = tt; spelled = refl; leads = refl }, second)

pub reads_stop : (bytes : List ℕ) (fault : CertFault) → StopsAt at_head bytes 0 fault → Reads bytes (Err fault)
reads_stop bytes NoMemory x = tt
reads_stop bytes (BadCert k) x =
    let same : x.0 ≡ k = omega (arith, x.1) in
    stops_bad bytes k (subst (Stops at_head bytes) same x.2)

pub front_stop : (bytes text : List ℕ) (limits : Limits) (budget : ℕ) (fault : CertFault) → IsFrontAt bytes limits budget text → StopsAt (at_section (first_draft limits budget)) text 2 fault → StopsAt at_head bytes 0 fault
front_stop bytes text limits budget fault front x = stops_behind (front_lines limits budget) at_head (at_section (first_draft limits budget)) bytes text 0 2 fault (front_lead limits budget front.said) front.spelled refl x

pub behind_sections_stop : (text rest : List ℕ) (limits : Limits) (budget : ℕ) (ss : List Section) (line : Line) (lines : ℕ) (fault : CertFault) → AreSectionsAt text ss line rest → lines ≡ 2 + length (flat_map section_lines ss) → StopsAt (at_section (with_sections (first_draft limits budget) ss)) (ended (line_text line) ++ rest) lines fault → StopsAt (at_section (first_draft limits budget)) text 2 fault
behind_sections_stop text rest limits budget ss line lines fault at count x = sections_stop (first_draft limits budget) ss text (ended (line_text line) ++ rest) 2 lines fault at.are at.spelled count x

-- bytes behind the last line
pub behind_last_stop : (d : Draft) (whole rest : List ℕ) (last : CertLast) (before lines : ℕ) → IsLastAt whole last rest → lines ≡ before + length (last_lines last) + 1 → (rest ≡ [] → ⊥) → StopsAt (at_section d) whole before (BadCert (lines + 1))
behind_last_stop d whole rest last before lines at count some =
    let all = last_lines last ++ line_text End ∷ [] in
    let split : whole ≡ text_of all ++ rest = at.spelled
    ∙ sym (append_assoc (text_of (last_lines last)) (ended (line_text End)) rest)
    ∙ ap (λ bs. (text_of (last_lines last) ++ bs) ++ rest) (sym (append-nil (ended (line_text End))))
    ∙ ap (λ bs. bs ++ rest) (sym (flat_map-append ended (last_lines last) (line_text End ∷ []))) in
    let size : lines ≡ before + length all = omega (arith, count, length-append (last_lines last) (line_text End ∷ [])) in
    stops_behind all (at_section d) (at_nothing (ended_by d last)) whole rest before lines (BadCert (lines + 1)) (last_lead d last at.is) split size (stops_here (at_nothing (ended_by d last)) rest lines (stuck_nothing (ended_by d last) rest some))

abbrev cert_of : Limits → ℕ → List Section → CertLast → Certificate
cert_of limits budget sections last = record { limits = limits; budget = budget; sections = sections; last = last }

pub whole_is : (bytes text rest : List ℕ) (limits : Limits) (budget : ℕ) (ss : List Section) (line : Line) (behind : List ℕ) (last : CertLast) → IsFrontAt bytes limits budget text → AreSectionsAt text ss line behind → IsLastAt (ended (line_text line) ++ behind) last rest → IsCert (cert_of limits budget ss last)
whole_is bytes text rest limits budget ss line behind last front sections ends = record { limits = front.said.0; budget = front.said.1; sections = sections.are; last = ends.is }

pub whole_text : (bytes text rest : List ℕ) (limits : Limits) (budget : ℕ) (ss : List Section) (line : Line) (behind : List ℕ) (last : CertLast) → IsFrontAt bytes limits budget text → AreSectionsAt text ss line behind → IsLastAt (ended (line_text line) ++ behind) last rest → rest ≡ [] → IsTextOf (cert_of limits budget ss last) bytes
whole_text bytes text rest limits budget ss line behind last front sections ends empty =
    let lines = flat_map section_lines ss in
    let tail : ended (line_text End) ++ rest ≡ text_of (line_text End ∷ []) = ap (λ bs. ended (line_text End) ++ bs) empty in
    let last_text : ended (line_text line) ++ behind ≡ text_of (last_lines last ++ line_text End ∷ []) = ends.spelled ∙ ap (λ bs. text_of (last_lines last) ++ bs) tail ∙ sym (flat_map-append ended (last_lines last) (line_text End ∷ [])) in
    let text_is : text ≡ text_of (lines ++ (last_lines last ++ line_text End ∷ [])) = sections.spelled ∙ ap (λ bs. text_of lines ++ bs) last_text ∙ sym (flat_map-append ended lines (last_lines last ++ line_text End ∷ [])) in
    record {
      is = whole_is bytes text rest limits budget ss line behind last front sections ends;
      spelled = front.spelled ∙ ap (λ bs. text_of (front_lines limits budget) ++ bs) text_is ∙ sym (flat_map-append ended (front_lines limits budget) (lines ++ (last_lines last ++ line_text End ∷ [])));
    }

pub front_room : (bytes text : List ℕ) (limits : Limits) (budget : ℕ) → IsFrontAt bytes limits budget text → length text + 10 ≤ length bytes
front_room bytes text limits budget front =
    let tail = text_of (line_text (Bounds limits budget) ∷ []) in
    let head : text_of (front_lines limits budget) ++ text ≡ ended (line_text Head) ++ (tail ++ text) = append_assoc (ended (line_text Head)) tail text in
    let size : length (ended (line_text Head) ++ (tail ++ text)) ≡ 16 + length (tail ++ text) = length-append (ended (line_text Head)) (tail ++ text) in
    omega (arith, ap length (front.spelled ∙ head), size, length-append tail text)

pub last_room : (text behind : List ℕ) (ss : List Section) (line : Line) (lines : ℕ) → AreSectionsAt text ss line behind → lines ≡ 2 + length (flat_map section_lines ss) → lines + length (ended (line_text line) ++ behind) ≤ 2 + length text
last_room text behind ss line lines at count = sections_room ss text (ended (line_text line) ++ behind) 2 lines at.spelled count

-- the first two lines

pub front_here : (bytes text rest : List ℕ) (line : Line) (l : Limits) (b : ℕ) → line ≡ Head → IsLineAt bytes line text → IsLineAt text (Bounds l b) rest → IsFrontAt bytes l b rest
front_here bytes text rest line l b e at next =
    let head = ended (line_text Head) in
    let second = ended (line_text (Bounds l b)) in
    record {
      said = next.said;
      spelled = line_split bytes line text at
          ∙ ap (λ x. ended (line_text x) ++ text) e
          ∙ ap (λ bs. head ++ bs) (line_split text (Bounds l b) rest next ∙ ap (λ bs. bs ++ rest) (sym (append-nil second)))
          ∙ sym (append_assoc head (text_of (line_text (Bounds l b) ∷ [])) rest);
    }

pub bounds_stop : (bytes text : List ℕ) (line : Line) (fault : CertFault) → line ≡ Head → IsLineAt bytes line text → StopsAt at_limits text 1 fault → StopsAt at_head bytes 0 fault
bounds_stop bytes text line fault e at x =
    let split : bytes ≡ ended (line_text Head) ++ text = line_split bytes line text at ∙ ap (λ l. ended (line_text l) ++ text) e in
    subst (λ bs. StopsAt at_head bs 0 fault) (sym split) (line_stops at_head at_limits Head text 0 fault (record { line = Head; said = tt; spelled = refl; leads = refl }) x)

-- an answer in each case, and an error that is handed on

pub map_result : {T : Type 0} (P P' : T → Type 0) (Q Q' : CertFault → Type 0) (r : Result T CertFault) → MatchResult r P Q → ((x : T) → P x → P' x) → ((e : CertFault) → Q e → Q' e) → MatchResult r P' Q'
map_result P P' Q Q' (Ok x) is ok err = ok x is
map_result P P' Q Q' (Err e) is ok err = err e is

pub handed_on : {T : Type 0} (P : T → Type 0) (Q : CertFault → Type 0) (r : Result T CertFault) (e : CertFault) → IsErrAnd r (λ f. f ≡ e) → Q e → MatchResult r P Q
handed_on P Q (Ok x) e is q = absurd is
handed_on P Q (Err f) e is q = subst Q (sym is) q

pub last_fits : (whole rest : List ℕ) (last : CertLast) → IsLastAt whole last rest → length (last_lines last) + 1 ≤ length whole
last_fits whole rest last at = omega (arith, lines_fit (last_lines last) (ended (line_text End) ++ rest), ap length at.spelled, length-append (ended (line_text End)) rest)

pub reads_handed_on : (bytes : List ℕ) (r : Result Certificate CertFault) (e : CertFault) → IsErrAnd r (λ f. f ≡ e) → Reads bytes (Err e) → Reads bytes r
reads_handed_on bytes (Ok x) e is reads = absurd is
reads_handed_on bytes (Err f) e is reads = subst (λ g. Reads bytes (Err g)) (sym is) reads

-- bytes that aren't empty
pub some_bytes : (rest : List ℕ) (empty : Bool) → empty ≡ false → empty ≡ (length rest == 0) → rest ≡ [] → ⊥
some_bytes rest empty no_end is nothing =
    let clash : false ≡ true = sym no_end ∙ is ∙ eq-eqb (length rest) 0 (ap length nothing) in
    cc
