-- Where a reader of a certificate stops, and that it is the first bad line.
use Rattle.std.proofs.Common.{◌≡◌, ℕ, suc, ◌+◌, ◌≤◌, List, [], ◌∷◌, ◌++◌, length, refl, sym, ◌∙◌, ap, subst, arith, append_assoc, length-append}
use Rattle.std.proofs.lemmas.Grind.{flat_map-append}
use Rattle.std.proofs.lemmas.List.{append-nil}
use Rattle.bx_grid.specs.declared.ratio.Ratio.{Ratio}
use Rattle.bx_grid.specs.declared.ratio.Limits.{Limits}
use Rattle.bx_grid.specs.declared.count.CountProof.{CountProof}
use Rattle.bx_lines.specs.Lines.{ended, text_of, IsFirstBadLine}
use Rattle.bx_lines.specs.Grammars.{Lead, IsText, IsStuck}
use Rattle.bx_lines.proofs.BadLines.{stuck_at}
use Rattle.bx_cert.specs.declared.fault.CertFault.{CertFault}
use Rattle.bx_cert.specs.declared.fault.CertFault.TheVariants.{BadCert, NoMemory}
use Rattle.bx_cert.specs.declared.line.Line.{Line}
use Rattle.bx_cert.specs.declared.line.Line.TheVariants.{Head, Bounds, Counted, Run, FoundAt, GaveUp, NoRatio, Place, End}
use Rattle.bx_cert.specs.declared.parts.Spot.{Spot}
use Rattle.bx_cert.specs.Certs.{Certificate}
use Rattle.bx_cert.specs.Texts.{IsCertText}
use Rattle.bx_cert.specs.Grammar.{Draft, State, at_head, at_limits, at_section, at_place, at_end, at_nothing, Leads, GoesByLine, Goes, Ends, cert_grammar, Stops}
use Rattle.bx_cert.specs.Readings.{IsLineAt, IsNoSection, StopsAt}
use Rattle.bx_cert.proofs.OneLine.{one_line}
use Rattle.bx_cert.proofs.CertGrammar.{cert_is_line_grammar}
use Rattle.bx_cert.proofs.Leading.{lead_append, first_bad}

pub stop_here : (s : State) (bytes : List ℕ) → IsStuck cert_grammar s bytes → Stops s bytes 1
stop_here s bytes stuck = record { front = []; state = s; rest = bytes; lead = refl; split = refl; stuck = stuck; count = omega arith }

-- behind lines that lead on
pub stop_behind : (front : List (List ℕ)) (s t : State) (bytes rest : List ℕ) (k : ℕ) → Lead Goes s front t → bytes ≡ text_of front ++ rest → Stops t rest k → Stops s bytes (length front + k)
stop_behind front s t bytes rest k lead split x = record {
  front = front ++ x.front;
  state = x.state;
  rest = x.rest;
  lead = lead_append front x.front s t x.state lead x.lead;
  split = split ∙ ap (λ bs. text_of front ++ bs) x.split ∙ sym (append_assoc (text_of front) (text_of x.front) x.rest) ∙ ap (λ bs. bs ++ x.rest) (sym (flat_map-append ended front x.front));
  stuck = x.stuck;
  count = omega (arith, x.count, length-append front x.front);
}

-- so it is where many lines stand before
pub stops_behind : (front : List (List ℕ)) (s t : State) (bytes rest : List ℕ) (before lines : ℕ) (fault : CertFault) → Lead Goes s front t → bytes ≡ text_of front ++ rest → lines ≡ before + length front → StopsAt t rest lines fault → StopsAt s bytes before fault
stops_behind front s t bytes rest before lines NoMemory lead split count x = tt
stops_behind front s t bytes rest before lines (BadCert k) lead split count x = (length front + x.0, (omega (arith, x.1, count)), stop_behind front s t bytes rest x.0 lead split x.2)

pub stops_here : (s : State) (bytes : List ℕ) (before : ℕ) → IsStuck cert_grammar s bytes → StopsAt s bytes before (BadCert (before + 1))
stops_here s bytes before stuck = (1, refl, stop_here s bytes stuck)

-- from the start it is the first bad line
pub stops_bad : (bytes : List ℕ) (k : ℕ) → Stops at_head bytes k → IsFirstBadLine IsCertText bytes k
stops_bad bytes k x =
    let same : suc (length x.front) ≡ k = omega (arith, x.count) in
    first_bad bytes k (subst (λ n. IsFirstBadLine (IsText cert_grammar) bytes n) same (stuck_at cert_grammar cert_is_line_grammar x.front x.state x.rest bytes x.lead x.split x.stuck))

-- a line at the front of a rest
pub line_front : (rest line behind : List ℕ) → rest ≡ text_of (line ∷ []) ++ behind → rest ≡ line ++ 10 ∷ behind
line_front rest line behind split = split ∙ ap (λ bs. bs ++ behind) (append-nil (ended line)) ∙ append_assoc line (10 ∷ []) behind

abbrev ByLine : State → Type 0
ByLine s = (bytes : List ℕ) (to : State) → Goes s bytes to → GoesByLine s bytes to

line_at : (s : State) (rest bytes behind : List ℕ) (to : State) (g : GoesByLine s bytes to) → rest ≡ text_of (bytes ∷ []) ++ behind → IsLineAt rest g.line behind
line_at s rest bytes behind to g split = record { said = g.said; spelled = line_front rest bytes behind split ∙ ap (λ b. b ++ 10 ∷ behind) g.spelled }

-- where no line stands at the front
pub stuck_none : (s : State) (rest : List ℕ) → ByLine s → (Ends s → ⊥) → ((line : Line) (behind : List ℕ) → IsLineAt rest line behind → ⊥) → IsStuck cert_grammar s rest
stuck_none s rest by ends none = record {
  no_line = λ bytes to behind goes split. (let g = by bytes to goes in none g.line behind (line_at s rest bytes behind to g split));
  no_end = λ empty end. ends end;
}

-- where another one does
pub stuck_other : (s : State) (rest : List ℕ) (found : Line) (behind : List ℕ) → ByLine s → (Ends s → ⊥) → IsLineAt rest found behind → ((to : State) → Leads s found to → ⊥) → IsStuck cert_grammar s rest
stuck_other s rest found behind by ends at other = record {
  no_line = λ bytes to b goes split.
      (let g = by bytes to goes in
      let same = one_line rest found g.line behind b at (line_at s rest bytes b to g split) in
      other to (subst (λ l. Leads s l to) (sym same.0) g.leads));
  no_end = λ empty end. ends end;
}

-- which lines lead on from which state

pub not_head : (line : Line) (to : State) → (line ≡ Head → ⊥) → Leads at_head line to → ⊥
not_head Head to other x = other refl
not_head (Bounds l n) to other x = x
not_head (Counted r p) to other x = x
not_head (Run r k) to other x = x
not_head (FoundAt r) to other x = x
not_head (GaveUp r n) to other x = x
not_head NoRatio to other x = x
not_head (Place s) to other x = x
not_head End to other x = x

pub not_bounds : (line : Line) (to : State) → ((l : Limits) (n : ℕ) → line ≡ Bounds l n → ⊥) → Leads at_limits line to → ⊥
not_bounds Head to other x = x
not_bounds (Bounds l n) to other x = other l n refl
not_bounds (Counted r p) to other x = x
not_bounds (Run r k) to other x = x
not_bounds (FoundAt r) to other x = x
not_bounds (GaveUp r n) to other x = x
not_bounds NoRatio to other x = x
not_bounds (Place s) to other x = x
not_bounds End to other x = x

pub no_section : (line : Line) → ((r : Ratio) (p : CountProof) → line ≡ Counted r p → ⊥) → ((r : Ratio) (k : ℕ) → line ≡ Run r k → ⊥) → IsNoSection line
no_section Head count run = tt
no_section (Bounds l n) count run = tt
no_section (Counted r p) count run = count r p refl
no_section (Run r k) count run = run r k refl
no_section (FoundAt r) count run = tt
no_section (GaveUp r n) count run = tt
no_section NoRatio count run = tt
no_section (Place s) count run = tt
no_section End count run = tt

pub not_last : (d : Draft) (line : Line) (to : State) → IsNoSection line → ((r : Ratio) → line ≡ FoundAt r → ⊥) → ((r : Ratio) (n : ℕ) → line ≡ GaveUp r n → ⊥) → (line ≡ NoRatio → ⊥) → Leads (at_section d) line to → ⊥
not_last d Head to none found gave nothing x = x
not_last d (Bounds l n) to none found gave nothing x = x
not_last d (Counted r p) to none found gave nothing x = none
not_last d (Run r k) to none found gave nothing x = none
not_last d (FoundAt r) to none found gave nothing x = found r refl
not_last d (GaveUp r n) to none found gave nothing x = gave r n refl
not_last d NoRatio to none found gave nothing x = nothing refl
not_last d (Place s) to none found gave nothing x = x
not_last d End to none found gave nothing x = x

pub not_place : (d : Draft) (r : Ratio) (ss : List Spot) (line : Line) (to : State) → ((s : Spot) → line ≡ Place s → ⊥) → (line ≡ End → ⊥) → Leads (at_place d r ss) line to → ⊥
not_place d r ss Head to place end x = x
not_place d r ss (Bounds l n) to place end x = x
not_place d r ss (Counted q p) to place end x = x
not_place d r ss (Run q k) to place end x = x
not_place d r ss (FoundAt q) to place end x = x
not_place d r ss (GaveUp q n) to place end x = x
not_place d r ss NoRatio to place end x = x
not_place d r ss (Place s) to place end x = place s refl
not_place d r ss End to place end x = end refl

pub not_end : (c : Certificate) (line : Line) (to : State) → (line ≡ End → ⊥) → Leads (at_end c) line to → ⊥
not_end c Head to other x = x
not_end c (Bounds l n) to other x = x
not_end c (Counted q p) to other x = x
not_end c (Run q k) to other x = x
not_end c (FoundAt q) to other x = x
not_end c (GaveUp q n) to other x = x
not_end c NoRatio to other x = x
not_end c (Place s) to other x = x
not_end c End to other x = other refl

not_more : (c : Certificate) (line : Line) (to : State) → Leads (at_nothing c) line to → ⊥
not_more c Head to x = x
not_more c (Bounds l n) to x = x
not_more c (Counted q p) to x = x
not_more c (Run q k) to x = x
not_more c (FoundAt q) to x = x
not_more c (GaveUp q n) to x = x
not_more c NoRatio to x = x
not_more c (Place s) to x = x
not_more c End to x = x

-- bytes behind the last line
pub stuck_nothing : (c : Certificate) (rest : List ℕ) → (rest ≡ [] → ⊥) → IsStuck cert_grammar (at_nothing c) rest
stuck_nothing c rest some = record {
  no_line = λ bytes to behind goes split. not_more c goes.line to goes.leads;
  no_end = λ empty ends. some empty;
}

-- lines are no longer than bytes
pub lines_fit : (ls : List (List ℕ)) (rest : List ℕ) → length ls + length rest ≤ length (text_of ls ++ rest)
lines_fit [] rest = omega arith
lines_fit (l ∷ ls) rest =
    let inner = lines_fit ls rest in
    let whole : length ((ended l ++ text_of ls) ++ rest) ≡ length (ended l) + length (text_of ls ++ rest) = ap length (append_assoc (ended l) (text_of ls) rest) ∙ length-append (ended l) (text_of ls ++ rest) in
    omega (arith, inner, whole, length-append l (10 ∷ []))
