-- Bytes are the text of a design, or they have a first bad line: each step of reading is decided.
use Rattle.std.proofs.Common.{◌≡◌, ◌⊎◌, ℕ, zero, suc, ◌+◌, ◌≤◌, true, List, [], ◌∷◌, ◌++◌, length, map, Ordering, Less, Equal, Greater, inl, inr, refl, sym, ap, ◌∙◌, arith, append_assoc}
use Rattle.std.specs.List.{AllByRecursion}
use Rattle.std.specs.List.Sorted.{IsStrictlySortedBy}
use Rattle.bx_grid.specs.declared.ratio.Ratio.{Ratio}
use Rattle.bx_grid.specs.Orders.{IsRatio}
use Rattle.bx_grid.proofs.Decided.{Decided, both, same, at-most, some-number, is-ratio, some-ratio}
use Rattle.bx_library.specs.declared.dot.Dot.{Dot}
use Rattle.bx_library.specs.Dots.{IsAscending, dot_cmp}
use Rattle.bx_library.proofs.DotSets.{ascending_from_sorted, sorted_from_ascending}
use Rattle.bx_lines.specs.Lines.{ended, text_of, IsFirstBadLine}
use Rattle.bx_lines.proofs.Above.{all_append}
use Rattle.bx_lines.proofs.Deciding.{Behind, behind-decided, shorter}
use Rattle.bx_siqad.specs.Designs.{IsDot}
use Rattle.bx_siqad.specs.Texts.{front_lines, middle_lines, back_lines, ratio_line, dot_line, head_lines, design_lines, IsDesignText}
use Rattle.bx_siqad.specs.Readings.{IsRatioAt, IsDotAt, StopsWithin, AreDotsAt, IsDisorderAt}
use Rattle.bx_siqad.specs.declared.fault.DesignFault.TheVariants.{BadDesign}
use Rattle.bx_siqad.proofs.Stops.{drawing_of, ratio_front, front_reads, no_ratio_reads, middle_reads, disorder_reads, back_reads, behind_last_reads, whole_reads, ratio_split, head_split, dots_split, design_split, dots_more}

-- these lines stand at the front, or so many of them
lines-decided : (lines : List (List ℕ)) (bytes : List ℕ) → ((rest : List ℕ) × (bytes ≡ text_of lines ++ rest)) ⊎ ((count : ℕ) × StopsWithin lines bytes count)
lines-decided [] bytes = inl (bytes, refl)
lines-decided (l ∷ ls) bytes = elim (behind-decided (ended l) bytes) [
  | inl (rest, e) ↦ elim (lines-decided ls rest) [
    | inl (last, is) ↦ inl (last, e ∙ ap (λ bs. ended l ++ bs) is ∙ sym (append_assoc (ended l) (text_of ls) last))
    | inr (count, stop) ↦ inr (
      suc count,
      record {
        within = omega (arith, stop.within);
        rest = stop.rest;
        spelled = e ∙ ap (λ bs. ended l ++ bs) stop.spelled ∙ sym (append_assoc (ended l) _ stop.rest);
        no_next = stop.no_next;
      },
    )
  ]
  | inr never ↦ inr (0, record { within = omega arith; rest = bytes; spelled = refl; no_next = λ behind e. never (behind, e) })
]

-- a line of a sort stands at the front, or it doesn't
line-decided : (Said : Type 0) (line bytes : List ℕ) → Decided Said → Decided (Said × Behind (ended line) bytes)
line-decided Said line bytes said = both _ _ said (behind-decided (ended line) bytes)

abbrev SidesAt : List ℕ → Type 0
SidesAt bytes = (ratio : Ratio) × ((rest : List ℕ) × IsRatioAt bytes ratio rest)

sides-decided : (bytes : List ℕ) → Decided (SidesAt bytes)
sides-decided bytes =
    some-ratio (λ r. (rest : List ℕ) × IsRatioAt bytes r rest)
    (λ r. same (IsRatio r × Behind (ended (ratio_line r)) bytes) ((rest : List ℕ) × IsRatioAt bytes r rest)
    ((λ (is, (rest, e)). (rest, record { is = is; spelled = e })), (λ (rest, at). (at.is, (rest, at.spelled))))
    (line-decided (IsRatio r) (ratio_line r) bytes (is-ratio r)))
    (λ r (rest, at). at.is)

-- ---- the dots

abbrev DotAt : List ℕ → Type 0
DotAt bytes = (dot : Dot) × ((rest : List ℕ) × IsDotAt bytes dot rest)

abbrev dot_of : ℕ → ℕ → ℕ → Dot
dot_of n m l = record { m = m; l = l; n = n }

in-range : (dot : Dot) → Decided (IsDot dot)
in-range dot =
    same ((dot.n ≤ 99999) × ((dot.m ≤ 99999) × (dot.l ≤ 1))) (IsDot dot)
    ((λ h. record { n = h.0; m = h.1.0; l = h.1.1 }), (λ is. (is.n, (is.m, is.l))))
    (both _ _ (at-most dot.n 99999) (both _ _ (at-most dot.m 99999) (at-most dot.l 1)))

dot-decided : (bytes : List ℕ) → Decided (DotAt bytes)
dot-decided bytes =
    same ((n : ℕ) × ((m : ℕ) × ((l : ℕ) × There n m l))) (DotAt bytes) (
      (λ (n, (m, (l, (is, (rest, e))))). (dot_of n m l, (rest, record { is = is; spelled = e }))),
      (λ (dot, (rest, at)). (dot.n, (dot.m, (dot.l, (at.is, (rest, at.spelled)))))),
    )
    (some-number 100000 (λ n. (m : ℕ) × ((l : ℕ) × There n m l))
    (λ n. some-number 100000 (λ m. (l : ℕ) × There n m l)
    (λ m. some-number 2 (There n m) (there n m) (λ l (is, at). let most : l ≤ 1 = is.l in omega arith))
    (λ m (l, (is, at)). let most : m ≤ 99999 = is.m in omega arith))
    (λ n (m, (l, (is, at))). let most : n ≤ 99999 = is.n in omega arith))
  where
    There : ℕ → ℕ → ℕ → Type 0
    There n m l = IsDot (dot_of n m l) × Behind (ended (dot_line (dot_of n m l))) bytes

    there : (n m l : ℕ) → Decided (There n m l)
    there n m l = line-decided (IsDot (dot_of n m l)) (dot_line (dot_of n m l)) bytes (in-range (dot_of n m l))

before-decided : (a b : Dot) → Decided (dot_cmp a b ≡ Less)
before-decided a b = by (dot_cmp a b)
  where
    by : (o : Ordering) → Decided (o ≡ Less)
    by Less = inl refl
    by Equal = inr (λ e. cc)
    by Greater = inr (λ e. cc)

all-before : (a : Dot) (dots : List Dot) → Decided (AllByRecursion (λ b. dot_cmp a b ≡ Less) dots)
all-before a [] = inl tt
all-before a (b ∷ dots) = both _ _ (before-decided a b) (all-before a dots)

sorted-decided : (dots : List Dot) → Decided (IsStrictlySortedBy dot_cmp dots)
unfolding IsStrictlySortedBy
sorted-decided [] = inl tt
sorted-decided (a ∷ dots) = both _ _ (all-before a dots) (sorted-decided dots)

order-decided : (dots : List Dot) → Decided (IsAscending dots)
order-decided dots = same (IsStrictlySortedBy dot_cmp dots) (IsAscending dots) (ascending_from_sorted dots, sorted_from_ascending dots) (sorted-decided dots)

-- the lines of dots in order stand at the front, or there is disorder
abbrev Dots : List ℕ → Type 0
Dots text = ((dots : List Dot) × ((rest : List ℕ) × AreDotsAt text dots rest)) ⊎ ((dots : List Dot) × IsDisorderAt text dots)

no_more : (text : List ℕ) (dots : List Dot) (rest : List ℕ) → AllByRecursion IsDot dots → IsAscending dots → text ≡ text_of (map dot_line dots) ++ rest → (DotAt rest → ⊥) → Dots text
no_more text dots rest are up spelled never = inl (dots, (rest, record { are = are; ascending = up; spelled = spelled; no_more = λ dot behind at. never (dot, (behind, at)) }))

-- the line of a further dot, which may follow or not
one_more : (text : List ℕ) (dots : List Dot) (rest : List ℕ) (dot : Dot) (behind : List ℕ) → AllByRecursion IsDot dots → IsAscending dots → text ≡ text_of (map dot_line dots) ++ rest → IsDotAt rest dot behind
    → (AllByRecursion IsDot (dots ++ dot ∷ []) → IsAscending (dots ++ dot ∷ []) → text ≡ text_of (map dot_line (dots ++ dot ∷ [])) ++ behind → Dots text) → Dots text
one_more text dots rest dot behind are up spelled at on = elim (order-decided (dots ++ dot ∷ [])) [
  | inl follows ↦ on (all_append IsDot dots (dot ∷ []) are (at.is, tt)) follows (dots_more dots dot text rest behind spelled at)
  | inr never ↦ inr (dots, record { are = are; ascending = up; rest = rest; spelled = spelled; dot = dot; behind = behind; stands = at; out_of_order = never })
]

-- behind these dots, where so many bytes are left at most
dots_from : (text : List ℕ) (most : ℕ) (dots : List Dot) (rest : List ℕ) → length rest ≤ most → AllByRecursion IsDot dots → IsAscending dots → text ≡ text_of (map dot_line dots) ++ rest → Dots text
dots_from text zero dots rest few are up spelled = elim (dot-decided rest) [
  | inl (dot, (behind, at)) ↦ (let less = shorter (dot_line dot) rest behind at.spelled in absurd (omega arith))
  | inr never ↦ no_more text dots rest are up spelled never
]
dots_from text (suc most) dots rest few are up spelled = elim (dot-decided rest) [
  | inl (dot, (behind, at)) ↦
      (let less = shorter (dot_line dot) rest behind at.spelled in
      one_more text dots rest dot behind are up spelled at (λ all follows is. dots_from text most (dots ++ dot ∷ []) behind (omega arith) all follows is))
  | inr never ↦ no_more text dots rest are up spelled never
]

dots_of : (text : List ℕ) → Dots text
unfolding IsStrictlySortedBy
dots_of text = dots_from text (length text) [] text (omega arith) tt (ascending_from_sorted [] tt) refl

-- ---- all of it, part by part

abbrev Read : List ℕ → Type 0
Read bytes = IsDesignText bytes ⊎ ((k : ℕ) × IsFirstBadLine IsDesignText bytes k)

read_last : (bytes rest : List ℕ) (r : Ratio) (dots : List Dot) → IsRatio r → AllByRecursion IsDot dots → IsAscending dots → bytes ≡ text_of (design_lines (drawing_of r dots)) ++ rest → Read bytes
read_last bytes [] r dots ratio are up whole = inl (drawing_of r dots, whole_reads bytes [] r dots true ratio are up whole refl refl)
read_last bytes (b ∷ bs) r dots ratio are up whole =
    inr (15 + length dots, behind_last_reads (drawing_of r dots) bytes (b ∷ bs) (15 + length dots) (record { ratio = ratio; dots = are; ascending = up }) whole refl (λ e. cc))

read_back : (bytes text : List ℕ) (r : Ratio) (dots : List Dot) → IsRatio r → AllByRecursion IsDot dots → IsAscending dots → ((dot : Dot) (rest : List ℕ) → IsDotAt text dot rest → ⊥)
    → bytes ≡ text_of (head_lines r ++ map dot_line dots) ++ text → Read bytes
read_back bytes text r dots ratio are up none split = elim (lines-decided back_lines text) [
  | inl (rest, e) ↦ read_last bytes rest r dots ratio are up (design_split bytes text rest r dots split e)
  | inr (count, stop) ↦
      (let k = 11 + length dots + count + 1 in
      inr (k, back_reads r dots bytes text (11 + length dots) (BadDesign k) ratio are up split refl none (count, refl, stop)))
]

read_dots : (bytes text : List ℕ) (r : Ratio) → IsRatio r → bytes ≡ text_of (head_lines r) ++ text → Read bytes
read_dots bytes text r ratio split = elim (dots_of text) [
  | inl (dots, (rest, at)) ↦ read_back bytes rest r dots ratio at.are at.ascending at.no_more (dots_split bytes text rest r dots split at.spelled)
  | inr (dots, at) ↦
      (let k = 11 + length dots + 1 in
      inr (k, disorder_reads r bytes text (BadDesign k) ratio split (dots, refl, at)))
]

read_middle : (bytes text : List ℕ) (r : Ratio) → IsRatio r → bytes ≡ text_of (ratio_front r) ++ text → Read bytes
read_middle bytes text r ratio split = elim (lines-decided middle_lines text) [
  | inl (rest, e) ↦ read_dots bytes rest r ratio (head_split bytes text rest r split e)
  | inr (count, stop) ↦ (let k = 5 + count + 1 in inr (k, middle_reads r bytes text (BadDesign k) ratio split (count, refl, stop)))
]

read_sides : (bytes text : List ℕ) → bytes ≡ text_of front_lines ++ text → Read bytes
read_sides bytes text split = elim (sides-decided text) [
  | inl (r, (rest, at)) ↦ read_middle bytes rest r at.is (ratio_split bytes text r rest split at)
  | inr never ↦ inr (5, no_ratio_reads bytes text split (λ r rest at. never (r, (rest, at))))
]

pub some_reading : (bytes : List ℕ) → Read bytes
some_reading bytes = elim (lines-decided front_lines bytes) [
  | inl (text, e) ↦ read_sides bytes text e
  | inr (count, stop) ↦ (let k = 0 + count + 1 in inr (k, front_reads bytes (BadDesign k) (count, refl, stop)))
]
