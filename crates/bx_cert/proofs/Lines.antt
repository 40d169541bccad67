-- The lines of a certificate: from words and numbers to what a line says, and back.
use Rattle.std.proofs.Common.{◌≡◌, ℕ, ◌+◌, ◌<◌, ◌≤◌, List, [], ◌∷◌, ◌++◌, length, get_or, refl, sym, ◌∙◌, ap, inl, arith, append_assoc}
use Rattle.std.proofs.lemmas.List.{append_cancel_left}
use Rattle.std.specs.Prelude.{codes}
use Rattle.std.specs.List.{AllByRecursion}
use Rattle.bx_grid.specs.Orders.{AreLimits, IsRatio}
use Rattle.bx_grid.specs.declared.ratio.Ratio.{Ratio}
use Rattle.bx_grid.specs.declared.ratio.Limits.{Limits}
use Rattle.bx_grid.specs.declared.count.CountProof.{CountProof}
use Rattle.bx_grid.specs.declared.count.CountProof.TheVariants.{Late, Crowd, Cut, Pair}
use Rattle.bx_lines.specs.Decimals.{EndsNumber}
use Rattle.bx_cert.specs.declared.line.Line.{Line}
use Rattle.bx_cert.specs.declared.line.Line.TheVariants.{Head, Bounds, Counted, Run, FoundAt, GaveUp, NoRatio, Place, End}
use Rattle.bx_cert.specs.declared.parts.Spot.{Spot}
use Rattle.bx_cert.specs.Certs.{IsNumber}
use Rattle.bx_cert.specs.Texts.{numbers, count_text, line_text}
use Rattle.bx_cert.specs.Readings.{AreNumbersAt, IsWordedAt, IsCountAt, IsLineAt, IsRareLine}
use Rattle.bx_cert.proofs.Words.{one_numbers, worded_here, worded_from, one_of, two_of, three_of, four_of}

-- the numbers that a line says are small

pub ratio_numbers : (r : Ratio) → IsRatio r → AllByRecursion IsNumber (r.w ∷ r.h ∷ [])
ratio_numbers r is = ((omega (arith, is.width)), ((omega (arith, is.height)), tt))

pub sized_numbers : (r : Ratio) (n : ℕ) → IsRatio r → IsNumber n → AllByRecursion IsNumber (r.w ∷ r.h ∷ n ∷ [])
sized_numbers r n is small = ((omega (arith, is.width)), ((omega (arith, is.height)), (small, tt)))

pub limit_numbers : (l : Limits) (b : ℕ) → AreLimits l → b ≤ 67108864 → AllByRecursion IsNumber (l.area ∷ l.width ∷ l.height ∷ b ∷ [])
limit_numbers l b is le = ((omega (arith, is.area)), ((omega (arith, is.width)), ((omega (arith, is.height)), ((omega (arith, le)), tt))))

-- from a line to its numbers

pub bounds_there : (bytes : List ℕ) (l : Limits) (b : ℕ) (rest : List ℕ) → IsLineAt bytes (Bounds l b) rest → IsWordedAt bytes (codes "limits") (l.area ∷ l.width ∷ l.height ∷ b ∷ []) rest
bounds_there bytes l b rest at = worded_from bytes (codes "limits") (l.area ∷ l.width ∷ l.height ∷ b ∷ []) rest (limit_numbers l b at.said.0 at.said.1) at.spelled

pub run_there : (bytes : List ℕ) (r : Ratio) (k : ℕ) (rest : List ℕ) → IsLineAt bytes (Run r k) rest → IsWordedAt bytes (codes "clauses") (r.w ∷ r.h ∷ k ∷ []) rest
run_there bytes r k rest at = worded_from bytes (codes "clauses") (r.w ∷ r.h ∷ k ∷ []) rest (sized_numbers r k at.said.0 (omega (arith, at.said.2))) at.spelled

pub found_there : (bytes : List ℕ) (r : Ratio) (rest : List ℕ) → IsLineAt bytes (FoundAt r) rest → IsWordedAt bytes (codes "found") (r.w ∷ r.h ∷ []) rest
found_there bytes r rest at = worded_from bytes (codes "found") (r.w ∷ r.h ∷ []) rest (ratio_numbers r at.said) at.spelled

pub gave_up_there : (bytes : List ℕ) (r : Ratio) (n : ℕ) (rest : List ℕ) → IsLineAt bytes (GaveUp r n) rest → IsWordedAt bytes (codes "undecided") (r.w ∷ r.h ∷ n ∷ []) rest
gave_up_there bytes r n rest at = worded_from bytes (codes "undecided") (r.w ∷ r.h ∷ n ∷ []) rest (sized_numbers r n at.said.0 at.said.1) at.spelled

pub place_there : (bytes : List ℕ) (s : Spot) (rest : List ℕ) → IsLineAt bytes (Place s) rest → IsWordedAt bytes (codes "place") (s.x ∷ s.y ∷ []) rest
place_there bytes s rest at = worded_from bytes (codes "place") (s.x ∷ s.y ∷ []) rest (at.said.x, (at.said.y, tt)) at.spelled

-- from its numbers to a line

abbrev pub ratio_of : List ℕ → Ratio
ratio_of ns = record { w = get_or ns 0 0; h = get_or ns 1 0 }

abbrev pub limits_of : List ℕ → Limits
limits_of ns = record { area = get_or ns 0 0; width = get_or ns 1 0; height = get_or ns 2 0 }

abbrev pub spot_of : List ℕ → Spot
spot_of ns = record { x = get_or ns 0 0; y = get_or ns 1 0 }

pub bounds_here : (bytes ns rest : List ℕ) → length ns ≡ 4 → IsWordedAt bytes (codes "limits") ns rest → AreLimits (limits_of ns) → get_or ns 3 0 ≤ 67108864 → IsLineAt bytes (Bounds (limits_of ns) (get_or ns 3 0)) rest
bounds_here bytes ns rest size at is le = record { said = (is, le); spelled = worded_here bytes (codes "limits") ns _ rest at (four_of ns size) }

pub run_here : (bytes ns rest : List ℕ) → length ns ≡ 3 → IsWordedAt bytes (codes "clauses") ns rest → IsRatio (ratio_of ns) → 1 ≤ get_or ns 2 0 → get_or ns 2 0 ≤ 4294967294 → IsLineAt bytes (Run (ratio_of ns) (get_or ns 2 0)) rest
run_here bytes ns rest size at is some most = record { said = (is, some, most); spelled = worded_here bytes (codes "clauses") ns _ rest at (three_of ns size) }

pub found_here : (bytes ns rest : List ℕ) → length ns ≡ 2 → IsWordedAt bytes (codes "found") ns rest → IsRatio (ratio_of ns) → IsLineAt bytes (FoundAt (ratio_of ns)) rest
found_here bytes ns rest size at is = record { said = is; spelled = worded_here bytes (codes "found") ns _ rest at (two_of ns size) }

third : (ns : List ℕ) → length ns ≡ 3 → AllByRecursion IsNumber ns → IsNumber (get_or ns 2 0)
third [] size are = absurd (omega (arith, size))
third (a ∷ []) size are = absurd (omega (arith, size))
third (a ∷ b ∷ []) size are = absurd (omega (arith, size))
third (a ∷ b ∷ c ∷ ns) size are = are.1.1.0

pub gave_up_here : (bytes ns rest : List ℕ) → length ns ≡ 3 → IsWordedAt bytes (codes "undecided") ns rest → IsRatio (ratio_of ns) → IsLineAt bytes (GaveUp (ratio_of ns) (get_or ns 2 0)) rest
gave_up_here bytes ns rest size at is = record { said = (is, third ns size at.are); spelled = worded_here bytes (codes "undecided") ns _ rest at (three_of ns size) }

first : (ns : List ℕ) → 0 < length ns → AllByRecursion IsNumber ns → IsNumber (get_or ns 0 0)
first [] size are = absurd (omega (arith, size))
first (a ∷ ns) size are = are.0

second : (ns : List ℕ) → 1 < length ns → AllByRecursion IsNumber ns → IsNumber (get_or ns 1 0)
second [] size are = absurd (omega (arith, size))
second (a ∷ ns) size are = first ns (omega (arith, size)) are.1

pub place_here : (bytes ns rest : List ℕ) → length ns ≡ 2 → IsWordedAt bytes (codes "place") ns rest → IsLineAt bytes (Place (spot_of ns)) rest
place_here bytes ns rest size at = record {
  said = record { x = first ns (omega (arith, size)) at.are; y = second ns (omega (arith, size)) at.are };
  spelled = worded_here bytes (codes "place") ns _ rest at (two_of ns size);
}

-- where such a line stands there, the numbers that were read are its own

pub same_ratio : (ns : List ℕ) (r : Ratio) (more : List ℕ) → ns ≡ r.w ∷ r.h ∷ more → IsRatio r → IsRatio (ratio_of ns)
same_ratio ns r more e is =
    let w : get_or ns 0 0 ≡ r.w = ap (λ xs. get_or xs 0 0) e in
    let h : get_or ns 1 0 ≡ r.h = ap (λ xs. get_or xs 1 0) e in
    record { some_width = omega (arith, w, is.some_width); some_height = omega (arith, h, is.some_height); width = omega (arith, w, is.width); height = omega (arith, h, is.height) }

pub same_limits : (ns : List ℕ) (l : Limits) (more : List ℕ) → ns ≡ l.area ∷ l.width ∷ l.height ∷ more → AreLimits l → AreLimits (limits_of ns)
same_limits ns l more e is =
    let a : get_or ns 0 0 ≡ l.area = ap (λ xs. get_or xs 0 0) e in
    let w : get_or ns 1 0 ≡ l.width = ap (λ xs. get_or xs 1 0) e in
    let h : get_or ns 2 0 ≡ l.height = ap (λ xs. get_or xs 2 0) e in
    record {
      some_area = omega (arith, a, is.some_area);
      some_width = omega (arith, w, is.some_width);
      some_height = omega (arith, h, is.some_height);
      area = omega (arith, a, is.area);
      width = omega (arith, w, is.width);
      height = omega (arith, h, is.height);
    }

-- the rest of a line that says which count

pub count_there : (bytes : List ℕ) (word ns rest : List ℕ) (p : CountProof) → count_text p ≡ word ++ numbers ns → AllByRecursion IsNumber ns → IsCountAt bytes p rest → IsWordedAt bytes word ns rest
count_there bytes word ns rest p e are at = worded_from bytes word ns rest are (at.spelled ∙ ap (λ bs. bs ++ 10 ∷ rest) e)

pub late_here : (bytes ns rest : List ℕ) → length ns ≡ 1 → IsWordedAt bytes (codes " late") ns rest → IsCountAt bytes (Late (get_or ns 0 0)) rest
late_here bytes ns rest size at = record { count = first ns (omega (arith, size)) at.are; spelled = worded_here bytes (codes " late") ns _ rest at (one_of ns size) }

pub cut_here : (bytes ns rest : List ℕ) → length ns ≡ 1 → IsWordedAt bytes (codes " cut") ns rest → IsCountAt bytes (Cut (get_or ns 0 0)) rest
cut_here bytes ns rest size at = record { count = first ns (omega (arith, size)) at.are; spelled = worded_here bytes (codes " cut") ns _ rest at (one_of ns size) }

pub crowd_here : (bytes ns rest : List ℕ) → length ns ≡ 2 → IsWordedAt bytes (codes " crowd") ns rest → IsCountAt bytes (Crowd (get_or ns 0 0) (get_or ns 1 0)) rest
crowd_here bytes ns rest size at = record { count = (first ns (omega (arith, size)) at.are, second ns (omega (arith, size)) at.are); spelled = worded_here bytes (codes " crowd") ns _ rest at (two_of ns size) }

pub pair_here : (bytes ns rest : List ℕ) → length ns ≡ 2 → IsWordedAt bytes (codes " pair") ns rest → IsCountAt bytes (Pair (get_or ns 0 0) (get_or ns 1 0)) rest
pair_here bytes ns rest size at = record { count = (first ns (omega (arith, size)) at.are, second ns (omega (arith, size)) at.are); spelled = worded_here bytes (codes " pair") ns _ rest at (two_of ns size) }

-- where no words of any count stand there, no count does
pub no_count : (bytes : List ℕ) → ((ns rest : List ℕ) → length ns ≡ 1 → IsWordedAt bytes (codes " late") ns rest → ⊥) → ((ns rest : List ℕ) → length ns ≡ 1 → IsWordedAt bytes (codes " cut") ns rest → ⊥) → ((ns rest : List ℕ) → length ns ≡ 2 → IsWordedAt bytes (codes " crowd") ns rest → ⊥) → ((ns rest : List ℕ) → length ns ≡ 2 → IsWordedAt bytes (codes " pair") ns rest → ⊥) → (p : CountProof) (rest : List ℕ) → IsCountAt bytes p rest → ⊥
no_count bytes late cut crowd pair (Late v) rest at = late (v ∷ []) rest refl (count_there bytes (codes " late") (v ∷ []) rest (Late v) refl (at.count, tt) at)
no_count bytes late cut crowd pair (Crowd a b) rest at = crowd (a ∷ b ∷ []) rest refl (count_there bytes (codes " crowd") (a ∷ b ∷ []) rest (Crowd a b) refl (at.count.0, (at.count.1, tt)) at)
no_count bytes late cut crowd pair (Cut r) rest at = cut (r ∷ []) rest refl (count_there bytes (codes " cut") (r ∷ []) rest (Cut r) refl (at.count, tt) at)
no_count bytes late cut crowd pair (Pair u v) rest at = pair (u ∷ v ∷ []) rest refl (count_there bytes (codes " pair") (u ∷ v ∷ []) rest (Pair u v) refl (at.count.0, (at.count.1, tt)) at)

-- a line of a count, from its parts

pub counted_text : (r : Ratio) (p : CountProof) (rest : List ℕ) → line_text (Counted r p) ++ 10 ∷ rest ≡ codes "count" ++ (numbers (r.w ∷ r.h ∷ []) ++ (count_text p ++ 10 ∷ rest))
counted_text r p rest = append_assoc (codes "count") (numbers (r.w ∷ r.h ∷ []) ++ count_text p) (10 ∷ rest) ∙ ap (λ bs. codes "count" ++ bs) (append_assoc (numbers (r.w ∷ r.h ∷ [])) (count_text p) (10 ∷ rest))

count_stops : (p : CountProof) (r : List ℕ) → EndsNumber (count_text p ++ r)
count_stops (Late v) r = inl (omega arith)
count_stops (Crowd a b) r = inl (omega arith)
count_stops (Cut v) r = inl (omega arith)
count_stops (Pair a b) r = inl (omega arith)

-- the sides and what is behind them, in a text that begins with such a line
pub counted_there : (bytes behind : List ℕ) (r : Ratio) (p : CountProof) (rest : List ℕ) → bytes ≡ codes "count" ++ behind → IsLineAt bytes (Counted r p) rest → AreNumbersAt behind (r.w ∷ r.h ∷ []) (count_text p ++ 10 ∷ rest)
counted_there bytes behind r p rest split at = record {
  are = ratio_numbers r at.said.0;
  spelled = append_cancel_left (codes "count") behind _ (sym split ∙ at.spelled ∙ counted_text r p rest);
  stops = count_stops p (10 ∷ rest);
}

pub counted_same : (bytes behind ns more : List ℕ) (r : Ratio) (p : CountProof) (rest : List ℕ) → bytes ≡ codes "count" ++ behind → length ns ≡ 2 → AreNumbersAt behind ns more → IsLineAt bytes (Counted r p) rest → (ns ≡ r.w ∷ r.h ∷ []) × IsCountAt more p rest
counted_same bytes behind ns more r p rest split size found at =
    let there = counted_there bytes behind r p rest split at in
    let same = one_numbers ns (r.w ∷ r.h ∷ []) more (count_text p ++ 10 ∷ rest) found.are there.are size found.stops there.stops (sym found.spelled ∙ there.spelled) in
    (same.0, record { count = at.said.1; spelled = same.1 })

pub counted_here : (bytes behind ns more : List ℕ) (p : CountProof) (rest : List ℕ) → bytes ≡ codes "count" ++ behind → length ns ≡ 2 → AreNumbersAt behind ns more → IsRatio (ratio_of ns) → IsCountAt more p rest → IsLineAt bytes (Counted (ratio_of ns) p) rest
counted_here bytes behind ns more p rest split size found is count = record {
  said = (is, count.count);
  spelled = split ∙ ap (λ bs. codes "count" ++ bs) (found.spelled ∙ ap (λ xs. numbers xs ++ more) (two_of ns size) ∙ ap (λ bs. numbers (get_or ns 0 0 ∷ get_or ns 1 0 ∷ []) ++ bs) count.spelled) ∙ sym (counted_text (ratio_of ns) p rest);
}

-- where none of the lines stands there that stand once at most
pub no_rare : (bytes : List ℕ) → ((l : Limits) (b : ℕ) (rest : List ℕ) → IsLineAt bytes (Bounds l b) rest → ⊥) → ((r : Ratio) (rest : List ℕ) → IsLineAt bytes (FoundAt r) rest → ⊥) → ((r : Ratio) (n : ℕ) (rest : List ℕ) → IsLineAt bytes (GaveUp r n) rest → ⊥) → ((rest : List ℕ) → bytes ≡ codes "bestagon cert 1" ++ 10 ∷ rest → ⊥) → ((rest : List ℕ) → bytes ≡ codes "none" ++ 10 ∷ rest → ⊥) → ((rest : List ℕ) → bytes ≡ codes "end" ++ 10 ∷ rest → ⊥) → (line : Line) (rest : List ℕ) → IsRareLine line → IsLineAt bytes line rest → ⊥
no_rare bytes bounds found gave head nothing end Head rest rare at = head rest at.spelled
no_rare bytes bounds found gave head nothing end (Bounds l b) rest rare at = bounds l b rest at
no_rare bytes bounds found gave head nothing end (Counted r p) rest rare at = rare
no_rare bytes bounds found gave head nothing end (Run r k) rest rare at = rare
no_rare bytes bounds found gave head nothing end (FoundAt r) rest rare at = found r rest at
no_rare bytes bounds found gave head nothing end (GaveUp r n) rest rare at = gave r n rest at
no_rare bytes bounds found gave head nothing end NoRatio rest rare at = nothing rest at.spelled
no_rare bytes bounds found gave head nothing end (Place s) rest rare at = rare
no_rare bytes bounds found gave head nothing end End rest rare at = end rest at.spelled

-- where none of any kind does
pub no_line : (bytes : List ℕ) → ((r : Ratio) (p : CountProof) (rest : List ℕ) → IsLineAt bytes (Counted r p) rest → ⊥) → ((r : Ratio) (k : ℕ) (rest : List ℕ) → IsLineAt bytes (Run r k) rest → ⊥) → ((s : Spot) (rest : List ℕ) → IsLineAt bytes (Place s) rest → ⊥) → ((line : Line) (rest : List ℕ) → IsRareLine line → IsLineAt bytes line rest → ⊥) → (line : Line) (rest : List ℕ) → IsLineAt bytes line rest → ⊥
no_line bytes count run place rare (Counted r p) rest at = count r p rest at
no_line bytes count run place rare (Run r k) rest at = run r k rest at
no_line bytes count run place rare (Place s) rest at = place s rest at
no_line bytes count run place rare Head rest at = rare Head rest tt at
no_line bytes count run place rare (Bounds l b) rest at = rare (Bounds l b) rest tt at
no_line bytes count run place rare (FoundAt r) rest at = rare (FoundAt r) rest tt at
no_line bytes count run place rare (GaveUp r n) rest at = rare (GaveUp r n) rest tt at
no_line bytes count run place rare NoRatio rest at = rare NoRatio rest tt at
no_line bytes count run place rare End rest at = rare End rest tt at
