-- Which lines begin those of which design, and that a text is that of one.
use Rattle.std.proofs.Common.{◌≡◌, ℕ, List, [], ◌∷◌, ◌++◌, map, refl, sym, ◌∙◌, ap, subst}
use Rattle.std.proofs.lemmas.List.{append-nil}
use Rattle.std.specs.Prelude.{MatchResult, Result, Ok, Err}
use Rattle.std.specs.List.{AllByRecursion}
use Rattle.bx_grid.specs.declared.ratio.Ratio.{Ratio}
use Rattle.bx_library.specs.declared.dot.Dot.{Dot}
use Rattle.bx_lines.specs.Lines.{IsLine, ended, text_of, IsFirstBadLine}
use Rattle.bx_lines.proofs.FirstLines.{same_line}
use Rattle.bx_lines.proofs.BadLines.{one_bad_line, no_bad_line}
use Rattle.bx_siqad.specs.Designs.{Drawing, IsDot}
use Rattle.bx_grid.specs.Orders.{IsRatio}
use Rattle.bx_siqad.specs.Texts.{back_lines, ratio_line, dot_line, head_lines, design_lines, IsTextOf, IsDesignText, Reads}
use Rattle.bx_siqad.specs.declared.fault.DesignFault.{DesignFault}
use Rattle.bx_siqad.specs.declared.fault.DesignFault.TheVariants.{BadDesign, NoMemory}
use Rattle.bx_siqad.proofs.Fields.{one_dot, one_ratio}
use Rattle.bx_siqad.proofs.OneLine.{design_are_lines, dot_ends_none}

same_dots : (d e : Dot) → IsDot d → IsDot e → dot_line d ≡ dot_line e → d ≡ e
same_dots d e a b same =
    let both = one_dot (ended (dot_line d) ++ []) d e [] [] (record { is = a; spelled = refl }) (record { is = b; spelled = ap (λ l. ended l ++ []) same }) in
    both.0

same_ratios : (p q : Ratio) → IsRatio p → IsRatio q → ratio_line p ≡ ratio_line q → p ≡ q
same_ratios p q a b same = one_ratio (ended (ratio_line p) ++ []) p q [] [] (record { is = a; spelled = refl }) (record { is = b; spelled = ap (λ l. ended l ++ []) same })

-- where lines of dots begin those behind a design's head, its dots begin with these
pub dots_front : (ds es : List Dot) (z : List (List ℕ)) → AllByRecursion IsDot ds → AllByRecursion IsDot es → map dot_line es ++ back_lines ≡ map dot_line ds ++ z → (more : List Dot) × (es ≡ ds ++ more) × (map dot_line more ++ back_lines ≡ z)
dots_front [] es z a b e = (es, refl, e)
dots_front (d ∷ ds) [] z a b e = absurd (dot_ends_none d (cc))
dots_front (d ∷ ds) (x ∷ es) z a b e =
    let head : d ≡ x = same_dots d x a.0 b.0 (cc) in
    let tail : map dot_line es ++ back_lines ≡ map dot_line ds ++ z = cc in
    let (more, whole, rest) = dots_front ds es z a.1 b.1 tail in
    let all : x ∷ es ≡ d ∷ (ds ++ more) = cc in
    (more, all, rest)

-- the head of a design's lines tells its sides
pub head_front : (d : Drawing) (r : Ratio) (z : List (List ℕ)) → IsRatio d.ratio → IsRatio r → design_lines d ≡ head_lines r ++ z → (d.ratio ≡ r) × (map dot_line d.dots ++ back_lines ≡ z)
head_front d r z a b e = (same_ratios d.ratio r a b (cc), (cc))

pub no_bytes : (line more : List ℕ) → [] ≡ ended line ++ more → ⊥
no_bytes [] more e = cc
no_bytes (b ∷ bs) more e = cc

same_lines : (ls ms : List (List ℕ)) → AllByRecursion IsLine ls → AllByRecursion IsLine ms → text_of ls ≡ text_of ms → ls ≡ ms
same_lines [] [] a b e = refl
same_lines [] (m ∷ ms) a b e = absurd (no_bytes m (text_of ms) e)
same_lines (l ∷ ls) [] a b e = absurd (no_bytes l (text_of ls) (sym e))
same_lines (l ∷ ls) (m ∷ ms) a b e =
    let same = same_line l m (text_of ls) (text_of ms) a.0 b.0 e in
    ap (λ x. x ∷ ls) same.0 ∙ ap (λ xs. m ∷ xs) (same_lines ls ms a.1 b.1 same.1)

-- the lines of no further dot stand before the last lines
pub no_further : (more : List Dot) → map dot_line more ++ back_lines ≡ back_lines → more ≡ []
no_further [] e = refl
no_further (d ∷ ds) e = absurd (dot_ends_none d (cc))

pub one_design : (bytes : List ℕ) (a b : Drawing) → IsTextOf a bytes → IsTextOf b bytes → a ≡ b
one_design bytes a b x y =
    let lines = same_lines (design_lines a) (design_lines b) (design_are_lines a x.is) (design_are_lines b y.is) (sym x.spelled ∙ y.spelled) in
    let head = head_front a b.ratio (map dot_line b.dots ++ back_lines) x.is.ratio y.is.ratio lines in
    let dots = dots_front b.dots a.dots back_lines y.is.dots x.is.dots head.1 in
    let all : a.dots ≡ b.dots = dots.1 ∙ ap (λ xs. b.dots ++ xs) (no_further dots.0 dots.2) ∙ append-nil b.dots in
    ap (λ r. record { ratio = r; dots = a.dots }) head.0 ∙ ap (λ ds. record { ratio = b.ratio; dots = ds }) all

-- what is answered, where bytes are the text of a design, and where they have a first bad line

pub answers_only : (bytes : List ℕ) (r : Result Drawing DesignFault) → Reads bytes r → (d : Drawing) → IsTextOf d bytes → MatchResult r (λ design. design ≡ d) (λ fault. fault ≡ NoMemory)
answers_only bytes (Ok design) reads d is = one_design bytes design d reads is
answers_only bytes (Err (BadDesign k)) reads d is = absurd (no_bad_line IsDesignText bytes k (d, is) reads)
answers_only bytes (Err NoMemory) reads d is = refl

pub answers_exact : (bytes : List ℕ) (r : Result Drawing DesignFault) → Reads bytes r → (k : ℕ) → IsFirstBadLine IsDesignText bytes k → (r ≡ Err NoMemory → ⊥) → r ≡ Err (BadDesign k)
answers_exact bytes (Ok design) reads k is some = absurd (no_bad_line IsDesignText bytes k (design, reads) is)
answers_exact bytes (Err (BadDesign j)) reads k is some = ap (λ n. Err (BadDesign n)) (one_bad_line IsDesignText bytes j k reads is)
answers_exact bytes (Err NoMemory) reads k is some = absurd (some refl)

pub answers_bad : (bytes : List ℕ) (r : Result Drawing DesignFault) → Reads bytes r → (k : ℕ) → r ≡ Err (BadDesign k) → IsFirstBadLine IsDesignText bytes k
answers_bad bytes r reads k e = subst (Reads bytes) e reads

pub answers_found : (bytes : List ℕ) (r : Result Drawing DesignFault) → Reads bytes r → MatchResult r (λ design. IsTextOf design bytes) (λ fault. Unit {0})
answers_found bytes (Ok design) reads = reads
answers_found bytes (Err fault) reads = tt
