-- Where a reader stops is the first bad line.
use Rattle.std.proofs.Common.{◌≡◌, ℕ, zero, suc, ◌+◌, ◌<◌, ◌≤◌, Bool, true, false, List, Bor, [], ◌∷◌, ◌++◌, length, take, drop, get_or, map, Result, Ok, Err, refl, sym, ◌∙◌, ap, subst, subst₂, arith, append_assoc, length-append, length-take-le, take-append-drop}
use Rattle.std.proofs.lemmas.Bool.{eq-eqb, eqb-true}
use Rattle.std.proofs.lemmas.Grind.{flat_map-append}
use Rattle.std.proofs.lemmas.List.{append-nil, append_cancel_left, get_or_append_left, take_more}
use Rattle.std.specs.Prelude.{AllPairs, IsErrAnd, ◌==◌}
use Rattle.std.specs.List.{AllByRecursion}
use Rattle.bx_grid.specs.declared.ratio.Ratio.{Ratio}
use Rattle.bx_library.specs.declared.dot.Dot.{Dot}
use Rattle.bx_library.specs.Dots.{IsBefore, IsAscending}
use Rattle.bx_lines.specs.Lines.{ended, text_of, IsFirstBadLine}
use Rattle.bx_lines.proofs.FirstLines.{same_line}
use Rattle.bx_siqad.specs.Designs.{Drawing, IsDot, IsDrawing}
use Rattle.bx_grid.specs.Orders.{IsRatio}
use Rattle.bx_siqad.specs.Texts.{front_lines, middle_lines, back_lines, ratio_line, dot_line, head_lines, design_lines, IsTextOf, IsDesignText, Reads}
use Rattle.bx_siqad.specs.Readings.{IsRatioAt, IsDotAt, StopsWithin, IsLineFault, IsDisorderAt, IsDotFault}
use Rattle.bx_siqad.specs.declared.fault.DesignFault.{DesignFault}
use Rattle.bx_siqad.specs.declared.fault.DesignFault.TheVariants.{BadDesign, NoMemory}
use Rattle.bx_siqad.proofs.OneLine.{dot_is_line, dot_ends_none}
use Rattle.bx_lines.proofs.Above.{all_append}
use Rattle.bx_siqad.proofs.OneDesign.{dots_front, head_front, no_bytes}
use Rattle.bx_siqad.proofs.Fronts.{Begins, NoneGoesOn, first_bad, line_within, all_mid}

abbrev pub drawing_of : Ratio → List Dot → Drawing
drawing_of ratio dots = record { ratio = ratio; dots = dots }

no_pairs : {X : Type 0} (R : X → X → Type 0) → AllPairs R []
no_pairs R = λ i j d lt within. absurd (omega (arith, within))

some_ratio : Ratio
some_ratio = record { w = 1; h = 1 }

some_ratio_is : IsRatio some_ratio
unfolding some_ratio
some_ratio_is = record { some_width = omega arith; some_height = omega arith; width = omega arith; height = omega arith }

-- the lines of these sides and dots begin those of a design
pub begins_dots : (r : Ratio) (ds : List Dot) → IsRatio r → AllByRecursion IsDot ds → IsAscending ds → Begins (head_lines r ++ map dot_line ds)
begins_dots r ds ratio are ascending = record {
  drawing = drawing_of r ds;
  is = record { ratio = ratio; dots = are; ascending = ascending };
  more = back_lines;
  whole = sym (append_assoc (head_lines r) (map dot_line ds) back_lines);
}

-- so do fewer
begins_front : (front lines : List (List ℕ)) → Begins (front ++ lines) → Begins front
begins_front front lines b = record { drawing = b.drawing; is = b.is; more = lines ++ b.more; whole = b.whole ∙ append_assoc front lines b.more }

begins_head : (r : Ratio) → IsRatio r → Begins (head_lines r)
begins_head r is = begins_front (head_lines r) [] (begins_dots r [] is tt (no_pairs IsBefore))

pub begins_nothing : Begins []
begins_nothing = begins_front [] (head_lines some_ratio) (begins_head some_ratio some_ratio_is)

-- bytes in two parts, of which the second is in two parts
split_more : (front lines : List (List ℕ)) (bytes text rest : List ℕ) → bytes ≡ text_of front ++ text → text ≡ text_of lines ++ rest → bytes ≡ text_of (front ++ lines) ++ rest
split_more front lines bytes text rest split more =
    split ∙ ap (λ bs. text_of front ++ bs) more ∙ sym (append_assoc (text_of front) (text_of lines) rest) ∙ ap (λ bs. bs ++ rest) (sym (flat_map-append ended front lines))

-- ---- lines that have to come

-- lines of a design behind others: these, or one that doesn't stand at the front of a text
pub data NextLines (lines z : List (List ℕ)) (text : List ℕ) : Type 0 where
  these : (w : List (List ℕ)) → z ≡ lines ++ w → NextLines lines z text
  another : (l : List ℕ) (zs : List (List ℕ)) → z ≡ l ∷ zs → length lines ≤ length z → ((behind : List ℕ) → text ≡ ended l ++ behind → ⊥) → NextLines lines z text

abbrev pub HaveNext : (front lines : List (List ℕ)) (text : List ℕ) → Type 0
HaveNext front lines text = (d : Drawing) (z : List (List ℕ)) → IsDrawing d → design_lines d ≡ front ++ z → NextLines lines z text

next_is : {X : Type 0} (k : ℕ) (xs ys w : List X) (x d : X) → k < length xs → take k xs ++ x ∷ ys ≡ xs ++ w → x ≡ get_or xs k d
next_is zero [] ys w x d lt e = absurd (omega (arith, lt))
next_is zero (y ∷ xs) ys w x d lt e = cc
next_is (suc k) [] ys w x d lt e = absurd (omega (arith, lt))
next_is (suc k) (y ∷ xs) ys w x d lt e =
    let tail : take k xs ++ x ∷ ys ≡ xs ++ w = cc in
    next_is k xs ys w x d (omega (arith, lt)) tail

another_here : (taken more zs : List (List ℕ)) (line l text rest behind : List ℕ) → taken ++ line ∷ more ≡ l ∷ zs → text ≡ text_of taken ++ rest → rest ≡ ended line ++ behind → (b : List ℕ) × (text ≡ ended l ++ b)
another_here [] more zs line l text rest behind e split at =
    let same : line ≡ l = cc in
    (behind, split ∙ at ∙ ap (λ x. ended x ++ behind) same)
another_here (t ∷ ts) more zs line l text rest behind e split at =
    let same : t ≡ l = cc in
    (text_of ts ++ rest, split ∙ append_assoc (ended t) (text_of ts) rest ∙ ap (λ x. ended x ++ (text_of ts ++ rest)) same)

module _ (front lines : List (List ℕ)) (text : List ℕ) (count : ℕ) (stop : StopsWithin lines text count) (next : HaveNext front lines text) where
  no_line_goes_on : (line behind : List ℕ) (more : List (List ℕ)) → NextLines lines (take count lines ++ line ∷ more) text → stop.rest ≡ ended line ++ behind → ⊥
  no_line_goes_on line behind more (these w e) at = stop.no_next behind (at ∙ ap (λ l. ended l ++ behind) (next_is count lines more w line [] stop.within e))
  no_line_goes_on line behind more (another l zs e le none) at =
      let here = another_here (take count lines) more zs line l text stop.rest behind e stop.spelled at in
      none here.0 here.1

  too_few : NextLines lines (take count lines) text → ⊥
  too_few (these w e) = omega (arith, stop.within, ap length e, length-append lines w, length-take-le count lines (omega (arith, stop.within)))
  too_few (another l zs e le none) = omega (arith, stop.within, le, length-take-le count lines (omega (arith, stop.within)))

  none_goes_on : NoneGoesOn (front ++ take count lines) stop.rest
  none_goes_on = record {
    no_line = λ d line behind more is whole at. no_line_goes_on line behind more (next d (take count lines ++ line ∷ more) is (whole ∙ append_assoc front (take count lines) (line ∷ more))) at;
    no_end = λ d is whole empty. too_few (next d (take count lines) is whole);
  }

stops_within : (front lines : List (List ℕ)) (bytes text : List ℕ) (count : ℕ) → Begins (front ++ lines) → bytes ≡ text_of front ++ text → StopsWithin lines text count → HaveNext front lines text → IsFirstBadLine IsDesignText bytes (length front + count + 1)
stops_within front lines bytes text count b split stop next =
    let taken = take count lines in
    let size : suc (length (front ++ taken)) ≡ length front + count + 1 = omega (arith, length-append front taken, length-take-le count lines (omega (arith, stop.within))) in
    let whole : front ++ lines ≡ (front ++ taken) ++ drop count lines = ap (λ ls. front ++ ls) (sym (take-append-drop count lines)) ∙ sym (append_assoc front taken (drop count lines)) in
    let begins = begins_front (front ++ taken) (drop count lines) (subst Begins whole b) in
    let bad = first_bad begins_nothing (front ++ taken) stop.rest bytes begins (split_more front taken bytes text stop.rest split stop.spelled) (none_goes_on front lines text count stop next) in
    subst (IsFirstBadLine IsDesignText bytes) size bad

line_fault_reads : (front lines : List (List ℕ)) (bytes text : List ℕ) (before : ℕ) (fault : DesignFault) → length front ≡ before → Begins (front ++ lines) → bytes ≡ text_of front ++ text → HaveNext front lines text → IsLineFault lines text before fault → Reads bytes (Err fault)
line_fault_reads front lines bytes text before NoMemory size b split next is = tt
line_fault_reads front lines bytes text before (BadDesign k) size b split next is =
    let (count, at, stop) = is in
    let same : length front + count + 1 ≡ k = omega (arith, at, size) in
    subst (IsFirstBadLine IsDesignText bytes) same (stops_within front lines bytes text count b split stop next)

-- those before the sides
pub front_reads : (bytes : List ℕ) (fault : DesignFault) → IsLineFault front_lines bytes 0 fault → Reads bytes (Err fault)
front_reads bytes fault is = line_fault_reads [] front_lines bytes bytes 0 fault refl (begins_front front_lines (ratio_line some_ratio ∷ middle_lines) (begins_head some_ratio some_ratio_is)) refl (λ d z drawn whole. these (ratio_line d.ratio ∷ (middle_lines ++ (map dot_line d.dots ++ back_lines))) (sym whole)) is

-- those behind them
abbrev pub ratio_front : Ratio → List (List ℕ)
ratio_front r = front_lines ++ ratio_line r ∷ []

pub middle_reads : (r : Ratio) (bytes text : List ℕ) (fault : DesignFault) → IsRatio r → bytes ≡ text_of (ratio_front r) ++ text → IsLineFault middle_lines text 5 fault → Reads bytes (Err fault)
middle_reads r bytes text fault ratio split is =
    line_fault_reads (ratio_front r) middle_lines bytes text 5 fault refl (begins_head r ratio) split next is where
      next : HaveNext (ratio_front r) middle_lines text
      next d z drawn whole =
          let tail : middle_lines ++ (map dot_line d.dots ++ back_lines) ≡ z = cc in
          these (map dot_line d.dots ++ back_lines) (sym tail)

-- those behind the dots
module _ (r : Ratio) (ds : List Dot) (text : List ℕ) (ratio : IsRatio r) (are : AllByRecursion IsDot ds) (none : (dot : Dot) (behind : List ℕ) → IsDotAt text dot behind → ⊥) where
  back_next : (d : Drawing) (more : List Dot) (z : List (List ℕ)) → AllByRecursion IsDot d.dots → d.dots ≡ ds ++ more → map dot_line more ++ back_lines ≡ z → NextLines back_lines z text
  back_next d [] z drawn dots e = these [] (sym e)
  back_next d (y ∷ ys) z drawn dots e =
      let dot : IsDot y = all_mid IsDot ds y ys (subst (AllByRecursion IsDot) dots drawn) in
      let long : length z ≡ suc (length (map dot_line ys) + 3) = ap length (sym e) ∙ ap suc (length-append (map dot_line ys) back_lines) in
      another (dot_line y) (map dot_line ys ++ back_lines) (sym e) (omega (arith, long)) (λ behind at. none y behind (record { is = dot; spelled = at }))

  back_have_next : HaveNext (head_lines r ++ map dot_line ds) back_lines text
  back_have_next d z is whole =
      let head = head_front d r (map dot_line ds ++ z) is.ratio ratio (whole ∙ append_assoc (head_lines r) (map dot_line ds) z) in
      let dots = dots_front ds d.dots z are is.dots head.1 in
      back_next d dots.0 z is.dots dots.1 dots.2

length-dot_lines : (ds : List Dot) → length (map dot_line ds) ≡ length ds
length-dot_lines [] = refl
length-dot_lines (d ∷ ds) = ap suc (length-dot_lines ds)

pub back_reads : (r : Ratio) (ds : List Dot) (bytes text : List ℕ) (before : ℕ) (fault : DesignFault) → IsRatio r → AllByRecursion IsDot ds → IsAscending ds → bytes ≡ text_of (head_lines r ++ map dot_line ds) ++ text → before ≡ 11 + length ds → ((dot : Dot) (behind : List ℕ) → IsDotAt text dot behind → ⊥) → IsLineFault back_lines text before fault → Reads bytes (Err fault)
back_reads r ds bytes text before fault ratio are ascending split count none is =
    let front = head_lines r ++ map dot_line ds in
    let size : length front ≡ before = omega (arith, count, length-append (head_lines r) (map dot_line ds), length-dot_lines ds) in
    let whole : Begins (front ++ back_lines) = record { drawing = drawing_of r ds; is = record { ratio = ratio; dots = are; ascending = ascending }; more = []; whole = sym (append_assoc (head_lines r) (map dot_line ds) back_lines) ∙ sym (append-nil (front ++ back_lines)) } in
    line_fault_reads front back_lines bytes text before fault size whole split (back_have_next r ds text ratio are none) is

-- ---- the line of the sides

abbrev behind_front : Drawing → List (List ℕ)
behind_front d = ratio_line d.ratio ∷ (middle_lines ++ (map dot_line d.dots ++ back_lines))

ratio_next : (d : Drawing) (line : List ℕ) (more : List (List ℕ)) → design_lines d ≡ front_lines ++ line ∷ more → line ≡ ratio_line d.ratio
ratio_next d line more whole =
    let lines = append_cancel_left front_lines (behind_front d) (line ∷ more) whole in
    cc

ratio_comes : (d : Drawing) → design_lines d ≡ front_lines → ⊥
ratio_comes d whole =
    let lines = append_cancel_left front_lines (behind_front d) [] whole in
    cc

pub no_ratio_reads : (bytes text : List ℕ) → bytes ≡ text_of front_lines ++ text → ((ratio : Ratio) (rest : List ℕ) → IsRatioAt text ratio rest → ⊥) → Reads bytes (Err (BadDesign 5))
no_ratio_reads bytes text split none = first_bad begins_nothing front_lines text bytes (begins_front front_lines (ratio_line some_ratio ∷ middle_lines) (begins_head some_ratio some_ratio_is)) split (record {
  no_line = λ d line behind more is whole at. none d.ratio behind (record { is = is.ratio; spelled = at ∙ ap (λ l. ended l ++ behind) (ratio_next d line more whole) });
  no_end = λ d is whole empty. ratio_comes d whole;
})

-- ---- dots out of order

front_pairs : {X : Type 0} (R : X → X → Type 0) (xs ys : List X) → AllPairs R (xs ++ ys) → AllPairs R xs
front_pairs R xs ys pairs = λ i j d lt within.
    subst₂ R (get_or_append_left xs ys d i (omega (arith, lt, within))) (get_or_append_left xs ys d j within)
    (pairs i j d lt (omega (arith, within, length-append xs ys)))

more_dots : (ds : List Dot) (x : Dot) (more : List (List ℕ)) → map dot_line (ds ++ x ∷ []) ++ more ≡ map dot_line ds ++ dot_line x ∷ more
more_dots [] x more = refl
more_dots (d ∷ ds) x more = ap (λ ls. dot_line d ∷ ls) (more_dots ds x more)

module _ (r : Ratio) (ds : List Dot) (text : List ℕ) (ratio : IsRatio r) (x : IsDisorderAt text ds) where
  no_dot_goes_on : (d : Drawing) (line behind : List ℕ) (more : List (List ℕ)) → IsDrawing d → design_lines d ≡ (head_lines r ++ map dot_line ds) ++ line ∷ more → x.rest ≡ ended line ++ behind → ⊥
  no_dot_goes_on d line behind more is whole at =
      let own = line_within d (head_lines r ++ map dot_line ds) line more is whole in
      let same = same_line line (dot_line x.dot) behind x.behind own (dot_is_line x.dot x.stands.is) (sym at ∙ x.stands.spelled) in
      let head = head_front d r (map dot_line ds ++ line ∷ more) is.ratio ratio (whole ∙ append_assoc (head_lines r) (map dot_line ds) (line ∷ more)) in
      let lines : map dot_line d.dots ++ back_lines ≡ map dot_line (ds ++ x.dot ∷ []) ++ more = head.1 ∙ ap (λ l. map dot_line ds ++ l ∷ more) same.0 ∙ sym (more_dots ds x.dot more) in
      let dots = dots_front (ds ++ x.dot ∷ []) d.dots more (all_append IsDot ds (x.dot ∷ []) x.are (x.stands.is, tt)) is.dots lines in
      x.out_of_order (front_pairs IsBefore (ds ++ x.dot ∷ []) dots.0 (subst IsAscending dots.1 is.ascending))

pub disorder_reads : (r : Ratio) (bytes text : List ℕ) (fault : DesignFault) → IsRatio r → bytes ≡ text_of (head_lines r) ++ text → IsDotFault text 11 fault → Reads bytes (Err fault)
disorder_reads r bytes text NoMemory ratio split is = tt
disorder_reads r bytes text (BadDesign k) ratio split is =
    let (ds, at, x) = is in
    let front = head_lines r ++ map dot_line ds in
    let size : suc (length front) ≡ k = omega (arith, at, length-append (head_lines r) (map dot_line ds), length-dot_lines ds) in
    let bad = first_bad begins_nothing front x.rest bytes (begins_dots r ds ratio x.are x.ascending) (split_more (head_lines r) (map dot_line ds) bytes text x.rest split x.spelled) (record {
      no_line = λ d line behind more drawn whole here. no_dot_goes_on r ds text ratio x d line behind more drawn whole here;
      no_end = λ d drawn whole empty. no_bytes (dot_line x.dot) x.behind (sym empty ∙ x.stands.spelled);
    }) in
    subst (IsFirstBadLine IsDesignText bytes) size bad

-- ---- bytes behind the last line

no_more_lines : (more : List Dot) (line : List ℕ) (ls : List (List ℕ)) → map dot_line more ++ back_lines ≡ back_lines ++ line ∷ ls → ⊥
no_more_lines [] line ls e = cc
no_more_lines (y ∷ ys) line ls e = dot_ends_none y (cc)

nothing_behind : (d0 d : Drawing) (line : List ℕ) (more : List (List ℕ)) → IsDrawing d0 → IsDrawing d → design_lines d ≡ design_lines d0 ++ line ∷ more → ⊥
nothing_behind d0 d line more is drawn whole =
    let dots = map dot_line d0.dots in
    let head = head_front d d0.ratio ((dots ++ back_lines) ++ line ∷ more) drawn.ratio is.ratio (whole ∙ append_assoc (head_lines d0.ratio) (dots ++ back_lines) (line ∷ more)) in
    let tail = dots_front d0.dots d.dots (back_lines ++ line ∷ more) is.dots drawn.dots (head.1 ∙ append_assoc dots back_lines (line ∷ more)) in
    no_more_lines tail.0 line more tail.2

pub behind_last_reads : (d0 : Drawing) (bytes rest : List ℕ) (k : ℕ) → IsDrawing d0 → bytes ≡ text_of (design_lines d0) ++ rest → k ≡ 15 + length d0.dots → (rest ≡ [] → ⊥) → Reads bytes (Err (BadDesign k))
behind_last_reads d0 bytes rest k is split at some =
    let lines = design_lines d0 in
    let size : suc (length lines) ≡ k = omega (arith, at, length-append (head_lines d0.ratio) (map dot_line d0.dots ++ back_lines), length-append (map dot_line d0.dots) back_lines, length-dot_lines d0.dots) in
    let bad = first_bad begins_nothing lines rest bytes (record { drawing = d0; is = is; more = []; whole = sym (append-nil lines) }) split (record {
      no_line = λ d line behind more drawn whole here. nothing_behind d0 d line more is drawn whole;
      no_end = λ d drawn whole empty. some empty;
    }) in
    subst (IsFirstBadLine IsDesignText bytes) size bad

-- ---- what is handed on, and bytes that aren't empty

pub reads_handed_on : (bytes : List ℕ) (r : Result Drawing DesignFault) (e : DesignFault) → IsErrAnd r (λ f. f ≡ e) → Reads bytes (Err e) → Reads bytes r
reads_handed_on bytes (Ok x) e is reads = absurd is
reads_handed_on bytes (Err f) e is reads = subst (λ g. Reads bytes (Err g)) (sym is) reads

pub some_bytes : (rest : List ℕ) (empty : Bool) → empty ≡ false → empty ≡ (length rest == 0) → rest ≡ [] → ⊥
some_bytes rest empty no_end is nothing =
    let clash : false ≡ true = sym no_end ∙ is ∙ eq-eqb (length rest) 0 (ap length nothing) in
    cc

-- ---- bytes in parts

pub ratio_split : (bytes text : List ℕ) (r : Ratio) (rest : List ℕ) → bytes ≡ text_of front_lines ++ text → IsRatioAt text r rest → bytes ≡ text_of (ratio_front r) ++ rest
ratio_split bytes text r rest split at = split_more front_lines (ratio_line r ∷ []) bytes text rest split (at.spelled ∙ ap (λ bs. bs ++ rest) (sym (append-nil (ended (ratio_line r)))))

pub head_split : (bytes text rest : List ℕ) (r : Ratio) → bytes ≡ text_of (ratio_front r) ++ text → text ≡ text_of middle_lines ++ rest → bytes ≡ text_of (head_lines r) ++ rest
head_split bytes text rest r split at = split_more (ratio_front r) middle_lines bytes text rest split at

pub dots_split : (bytes text rest : List ℕ) (r : Ratio) (ds : List Dot) → bytes ≡ text_of (head_lines r) ++ text → text ≡ text_of (map dot_line ds) ++ rest → bytes ≡ text_of (head_lines r ++ map dot_line ds) ++ rest
dots_split bytes text rest r ds split at = split_more (head_lines r) (map dot_line ds) bytes text rest split at

pub design_split : (bytes text rest : List ℕ) (r : Ratio) (ds : List Dot) → bytes ≡ text_of (head_lines r ++ map dot_line ds) ++ text → text ≡ text_of back_lines ++ rest → bytes ≡ text_of (design_lines (drawing_of r ds)) ++ rest
design_split bytes text rest r ds split at =
    split_more (head_lines r ++ map dot_line ds) back_lines bytes text rest split at ∙ ap (λ ls. text_of ls ++ rest) (append_assoc (head_lines r) (map dot_line ds) back_lines)

-- a line more, of those that were wanted
get_or-now : (lines : List (Bor (List ℕ))) (i : ℕ) (d : Bor (List ℕ)) → i < length lines → get_or (map (λ line. line.now) lines) i [] ≡ (get_or lines i d).now
get_or-now [] i d lt = absurd (omega (arith, lt))
get_or-now (l ∷ ls) zero d lt = refl
get_or-now (l ∷ ls) (suc i) d lt = get_or-now ls i d (omega (arith, lt))

length-now : (lines : List (Bor (List ℕ))) → length (map (λ line. line.now) lines) ≡ length lines
length-now [] = refl
length-now (l ∷ ls) = ap suc (length-now ls)

pub lines_more : (lines : List (Bor (List ℕ))) (i : ℕ) (d : Bor (List ℕ)) (text rest next : List ℕ) → i < length lines → text ≡ text_of (take i (map (λ line. line.now) lines)) ++ rest → rest ≡ ended (get_or lines i d).now ++ next → text ≡ text_of (take (i + 1) (map (λ line. line.now) lines)) ++ next
lines_more lines i d text rest next lt split at =
    let words = map (λ (line : Bor (List ℕ)). line.now) lines in
    let word = (get_or lines i d).now in
    let one : rest ≡ text_of (word ∷ []) ++ next = at ∙ ap (λ bs. bs ++ next) (sym (append-nil (ended word))) in
    let long : i < length words = omega (arith, lt, length-now lines) in
    let taken : take i words ++ word ∷ [] ≡ take (i + 1) words = ap (λ w. take i words ++ w ∷ []) (sym (get_or-now lines i d lt)) ∙ sym (take_more words i [] long) in
    split_more (take i words) (word ∷ []) text rest next split one ∙ ap (λ ls. text_of ls ++ next) taken

-- a dot more
pub dots_more : (ds : List Dot) (x : Dot) (text rest next : List ℕ) → text ≡ text_of (map dot_line ds) ++ rest → IsDotAt rest x next → text ≡ text_of (map dot_line (ds ++ x ∷ [])) ++ next
dots_more ds x text rest next split at =
    let one : rest ≡ text_of (dot_line x ∷ []) ++ next = at.spelled ∙ ap (λ bs. bs ++ next) (sym (append-nil (ended (dot_line x)))) in
    let lines : map dot_line ds ++ dot_line x ∷ [] ≡ map dot_line (ds ++ x ∷ []) = sym (more_dots ds x []) ∙ append-nil (map dot_line (ds ++ x ∷ [])) in
    split_more (map dot_line ds) (dot_line x ∷ []) text rest next split one ∙ ap (λ ls. text_of ls ++ next) lines

-- the whole
pub whole_reads : (bytes rest : List ℕ) (r : Ratio) (ds : List Dot) (empty : Bool) → IsRatio r → AllByRecursion IsDot ds → IsAscending ds → bytes ≡ text_of (design_lines (drawing_of r ds)) ++ rest → empty ≡ true → empty ≡ (length rest == 0) → IsTextOf (drawing_of r ds) bytes
whole_reads bytes rest r ds empty ratio are ascending split all is = record {
  is = record { ratio = ratio; dots = are; ascending = ascending };
  spelled = split ∙ ap (λ bs. text_of (design_lines (drawing_of r ds)) ++ bs) (nothing rest (sym is ∙ all)) ∙ append-nil (text_of (design_lines (drawing_of r ds)));
} where
  nothing : (bs : List ℕ) → (length bs == 0) ≡ true → bs ≡ []
  nothing [] e = refl
  nothing (b ∷ bs) e = absurd (omega (arith, eqb-true (length (b ∷ bs)) 0 e))
