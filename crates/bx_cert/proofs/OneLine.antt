-- One line at most stands at the front of bytes, and no byte of a line is a line feed.
use Rattle.std.proofs.Common.{◌≡◌, ℕ, ◌+◌, ◌*◌, ◌<◌, ◌≤◌, true, List, [], ◌∷◌, ◌++◌, get_or, refl, sym, ◌∙◌, ap, arith}
use Rattle.std.proofs.lemmas.List.{append_cancel_left}
use Rattle.std.specs.Prelude.{codes, decimal}
use Rattle.std.specs.List.{AllByRecursion}
use Rattle.bx_grid.specs.declared.count.CountProof.{CountProof}
use Rattle.bx_grid.specs.declared.count.CountProof.TheVariants.{Late, Crowd, Cut, Pair}
use Rattle.bx_lines.specs.Lines.{IsLine}
use Rattle.bx_lines.proofs.Above.{Above, above, above_are, all_append, decimal_above, above_is_line}
use Rattle.bx_cert.specs.declared.line.Line.{Line}
use Rattle.bx_cert.specs.declared.line.Line.TheVariants.{Head, Bounds, Counted, Run, FoundAt, GaveUp, NoRatio, Place, End}
use Rattle.bx_cert.specs.Certs.{IsNumber, IsCount}
use Rattle.bx_cert.specs.Texts.{numbers, count_text, line_text}
use Rattle.bx_cert.specs.Grammar.{IsSaid}
use Rattle.bx_cert.specs.Readings.{IsCountAt, IsLineAt}
use Rattle.bx_cert.proofs.Words.{one_worded}
use Rattle.bx_cert.proofs.Lines.{ratio_of, limits_of, spot_of, ratio_numbers, sized_numbers, limit_numbers, bounds_there, run_there, found_there, gave_up_there, place_there, count_there, counted_text, counted_there, counted_same}

-- the first two bytes as a number, which tell a line's kind
tag : List ℕ → ℕ
tag [] = 0
tag (a ∷ []) = 0
tag (a ∷ b ∷ bs) = 256 * a + b

abbrev tag_of : Line → ℕ
tag_of Head = 25189
tag_of (Bounds limits budget) = 27753
tag_of (Counted ratio proof) = 25455
tag_of (Run ratio count) = 25452
tag_of (FoundAt ratio) = 26223
tag_of (GaveUp ratio spent) = 30062
tag_of NoRatio = 28271
tag_of (Place spot) = 28780
tag_of End = 25966

tag_is : (line : Line) (rest : List ℕ) → tag (line_text line ++ 10 ∷ rest) ≡ tag_of line
unfolding tag
tag_is Head rest = refl
tag_is (Bounds limits budget) rest = refl
tag_is (Counted ratio proof) rest = refl
tag_is (Run ratio count) rest = refl
tag_is (FoundAt ratio) rest = refl
tag_is (GaveUp ratio spent) rest = refl
tag_is NoRatio rest = refl
tag_is (Place spot) rest = refl
tag_is End rest = refl

behind_first : List ℕ → List ℕ
behind_first [] = []
behind_first (b ∷ bs) = bs

abbrev count_tag : CountProof → ℕ
count_tag (Late node) = 27745
count_tag (Crowd first last) = 25458
count_tag (Cut row) = 25461
count_tag (Pair one two) = 28769

count_tag_is : (p : CountProof) (rest : List ℕ) → tag (behind_first (count_text p ++ 10 ∷ rest)) ≡ count_tag p
unfolding tag behind_first
count_tag_is (Late node) rest = refl
count_tag_is (Crowd first last) rest = refl
count_tag_is (Cut row) rest = refl
count_tag_is (Pair one two) rest = refl

count_tags : (bytes : List ℕ) (p q : CountProof) (r s : List ℕ) → IsCountAt bytes p r → IsCountAt bytes q s → count_tag p ≡ count_tag q
count_tags bytes p q r s x y = sym (count_tag_is p r) ∙ ap (λ bs. tag (behind_first bs)) (sym x.spelled ∙ y.spelled) ∙ count_tag_is q s

one_count : (bytes : List ℕ) (p q : CountProof) (r s : List ℕ) → IsCountAt bytes p r → IsCountAt bytes q s → (p ≡ q) × (r ≡ s)
one_count bytes (Late u) (Late v) r s x y =
    let same = one_worded bytes (codes " late") (u ∷ []) (v ∷ []) r s refl (count_there bytes (codes " late") (u ∷ []) r (Late u) refl (x.count, tt) x) (count_there bytes (codes " late") (v ∷ []) s (Late v) refl (y.count, tt) y) in
    (ap (λ ns. Late (get_or ns 0 0)) same.0, same.1)
one_count bytes (Cut u) (Cut v) r s x y =
    let same = one_worded bytes (codes " cut") (u ∷ []) (v ∷ []) r s refl (count_there bytes (codes " cut") (u ∷ []) r (Cut u) refl (x.count, tt) x) (count_there bytes (codes " cut") (v ∷ []) s (Cut v) refl (y.count, tt) y) in
    (ap (λ ns. Cut (get_or ns 0 0)) same.0, same.1)
one_count bytes (Crowd a b) (Crowd c d) r s x y =
    let same = one_worded bytes (codes " crowd") (a ∷ b ∷ []) (c ∷ d ∷ []) r s refl (count_there bytes (codes " crowd") (a ∷ b ∷ []) r (Crowd a b) refl (x.count.0, (x.count.1, tt)) x) (count_there bytes (codes " crowd") (c ∷ d ∷ []) s (Crowd c d) refl (y.count.0, (y.count.1, tt)) y) in
    (ap (λ ns. Crowd (get_or ns 0 0) (get_or ns 1 0)) same.0, same.1)
one_count bytes (Pair a b) (Pair c d) r s x y =
    let same = one_worded bytes (codes " pair") (a ∷ b ∷ []) (c ∷ d ∷ []) r s refl (count_there bytes (codes " pair") (a ∷ b ∷ []) r (Pair a b) refl (x.count.0, (x.count.1, tt)) x) (count_there bytes (codes " pair") (c ∷ d ∷ []) s (Pair c d) refl (y.count.0, (y.count.1, tt)) y) in
    (ap (λ ns. Pair (get_or ns 0 0) (get_or ns 1 0)) same.0, same.1)
one_count bytes p q r s x y = absurd (let e : count_tag p ≡ count_tag q = count_tags bytes p q r s x y in omega (arith, e))

tags : (bytes : List ℕ) (a b : Line) (r s : List ℕ) → IsLineAt bytes a r → IsLineAt bytes b s → tag_of a ≡ tag_of b
tags bytes a b r s x y = sym (tag_is a r) ∙ ap tag (sym x.spelled ∙ y.spelled) ∙ tag_is b s

same_rest : (word r s : List ℕ) → word ++ 10 ∷ r ≡ word ++ 10 ∷ s → r ≡ s
same_rest word r s e = let lines : 10 ∷ r ≡ 10 ∷ s = append_cancel_left word (10 ∷ r) (10 ∷ s) e in cc

-- one line at most stands at the front of bytes
pub one_line : (bytes : List ℕ) (a b : Line) (r s : List ℕ) → IsLineAt bytes a r → IsLineAt bytes b s → (a ≡ b) × (r ≡ s)
one_line bytes Head Head r s x y = (refl, same_rest (codes "bestagon cert 1") r s (sym x.spelled ∙ y.spelled))
one_line bytes NoRatio NoRatio r s x y = (refl, same_rest (codes "none") r s (sym x.spelled ∙ y.spelled))
one_line bytes End End r s x y = (refl, same_rest (codes "end") r s (sym x.spelled ∙ y.spelled))
one_line bytes (Bounds l b) (Bounds m c) r s x y =
    let same = one_worded bytes (codes "limits") _ _ r s refl (bounds_there bytes l b r x) (bounds_there bytes m c s y) in
    (ap (λ ns. Bounds (limits_of ns) (get_or ns 3 0)) same.0, same.1)
one_line bytes (Run p k) (Run q m) r s x y =
    let same = one_worded bytes (codes "clauses") _ _ r s refl (run_there bytes p k r x) (run_there bytes q m s y) in
    (ap (λ ns. Run (ratio_of ns) (get_or ns 2 0)) same.0, same.1)
one_line bytes (FoundAt p) (FoundAt q) r s x y =
    let same = one_worded bytes (codes "found") _ _ r s refl (found_there bytes p r x) (found_there bytes q s y) in
    (ap (λ ns. FoundAt (ratio_of ns)) same.0, same.1)
one_line bytes (GaveUp p k) (GaveUp q m) r s x y =
    let same = one_worded bytes (codes "undecided") _ _ r s refl (gave_up_there bytes p k r x) (gave_up_there bytes q m s y) in
    (ap (λ ns. GaveUp (ratio_of ns) (get_or ns 2 0)) same.0, same.1)
one_line bytes (Place p) (Place q) r s x y =
    let same = one_worded bytes (codes "place") _ _ r s refl (place_there bytes p r x) (place_there bytes q s y) in
    (ap (λ ns. Place (spot_of ns)) same.0, same.1)
one_line bytes (Counted p c) (Counted q d) r s x y =
    let behind : List ℕ = numbers (p.w ∷ p.h ∷ []) ++ (count_text c ++ 10 ∷ r) in
    let split : bytes ≡ codes "count" ++ behind = x.spelled ∙ counted_text p c r in
    let found = counted_there bytes behind p c r split x in
    let same = counted_same bytes behind (p.w ∷ p.h ∷ []) (count_text c ++ 10 ∷ r) q d s split refl found y in
    let counts = one_count (count_text c ++ 10 ∷ r) c d r s (record { count = x.said.1; spelled = refl }) same.1 in
    (ap (λ ns. Counted (ratio_of ns) c) same.0 ∙ ap (λ z. Counted q z) counts.0, counts.1)
one_line bytes a b r s x y = absurd (let e : tag_of a ≡ tag_of b = tags bytes a b r s x y in omega (arith, e))

-- no line feed

numbers_above : (ns : List ℕ) → AllByRecursion IsNumber ns → AllByRecursion Above (numbers ns)
numbers_above [] are = tt
numbers_above (n ∷ ns) are =
    let digits : AllByRecursion Above (decimal n) = decimal_above n (omega (arith, are.0)) in
    ((omega arith), all_append Above (decimal n) (numbers ns) digits (numbers_above ns are.1))

worded_above : (word ns : List ℕ) → above word ≡ true → AllByRecursion IsNumber ns → AllByRecursion Above (word ++ numbers ns)
worded_above word ns is are = all_append Above word (numbers ns) (above_are word is) (numbers_above ns are)

count_above : (p : CountProof) → IsCount p → AllByRecursion Above (count_text p)
unfolding above
count_above (Late v) is = worded_above (codes " late") (v ∷ []) refl (is, tt)
count_above (Crowd a b) is = worded_above (codes " crowd") (a ∷ b ∷ []) refl (is.0, (is.1, tt))
count_above (Cut v) is = worded_above (codes " cut") (v ∷ []) refl (is, tt)
count_above (Pair a b) is = worded_above (codes " pair") (a ∷ b ∷ []) refl (is.0, (is.1, tt))

line_above : (line : Line) → IsSaid line → AllByRecursion Above (line_text line)
unfolding above
line_above Head said = above_are (codes "bestagon cert 1") refl
line_above (Bounds l b) said = worded_above (codes "limits") (l.area ∷ l.width ∷ l.height ∷ b ∷ []) refl (limit_numbers l b said.0 said.1)
line_above (Counted r p) said = all_append Above (codes "count") (numbers (r.w ∷ r.h ∷ []) ++ count_text p) (above_are (codes "count") refl) (all_append Above (numbers (r.w ∷ r.h ∷ [])) (count_text p) (numbers_above (r.w ∷ r.h ∷ []) (ratio_numbers r said.0)) (count_above p said.1))
line_above (Run r k) said = worded_above (codes "clauses") (r.w ∷ r.h ∷ k ∷ []) refl (sized_numbers r k said.0 (omega (arith, said.2)))
line_above (FoundAt r) said = worded_above (codes "found") (r.w ∷ r.h ∷ []) refl (ratio_numbers r said)
line_above (GaveUp r n) said = worded_above (codes "undecided") (r.w ∷ r.h ∷ n ∷ []) refl (sized_numbers r n said.0 said.1)
line_above NoRatio said = above_are (codes "none") refl
line_above (Place s) said = worded_above (codes "place") (s.x ∷ s.y ∷ []) refl (said.x, (said.y, tt))
line_above End said = above_are (codes "end") refl

pub line_is_line : (line : Line) → IsSaid line → IsLine (line_text line)
line_is_line line said = above_is_line (line_text line) (line_above line said)
