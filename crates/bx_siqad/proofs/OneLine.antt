-- No byte of a design's line is a line feed, and no line of a dot ends the dots.
use Rattle.std.proofs.Common.{◌≡◌, ℕ, ◌<◌, ◌^◌, true, List, [], ◌∷◌, ◌++◌, map, refl, ap, arith}
use Rattle.std.specs.Prelude.{codes, decimal}
use Rattle.std.specs.List.{AllByRecursion}
use Rattle.bx_grid.specs.declared.ratio.Ratio.{Ratio}
use Rattle.bx_library.specs.declared.dot.Dot.{Dot}
use Rattle.bx_lines.specs.Lines.{IsLine}
use Rattle.bx_lines.proofs.Above.{Above, above, above_are, all_append, decimal_above, above_is_line}
use Rattle.bx_siqad.specs.Designs.{Drawing, IsDot, IsDrawing}
use Rattle.bx_grid.specs.Orders.{IsRatio}
use Rattle.bx_siqad.specs.Texts.{front_lines, middle_lines, back_lines, ratio_line, dot_line, head_lines, design_lines}

-- a word, a number and more
field_above : (word : List ℕ) (n : ℕ) (more : List ℕ) → above word ≡ true → n < 2 ^ 64 → AllByRecursion Above more → AllByRecursion Above (word ++ (decimal n ++ more))
field_above word n more is small are = all_append Above word (decimal n ++ more) (above_are word is) (all_append Above (decimal n) more (decimal_above n small) are)

word_is_line : (word : List ℕ) → above word ≡ true → IsLine word
word_is_line word is = above_is_line word (above_are word is)

pub ratio_is_line : (r : Ratio) → IsRatio r → IsLine (ratio_line r)
unfolding above
ratio_is_line r is =
    above_is_line (ratio_line r)
    (field_above (codes "<created_by>bestagon ") r.w _ refl (omega (arith, is.width))
    (field_above (codes " ") r.h _ refl (omega (arith, is.height)) (above_are (codes "</created_by>") refl)))

pub dot_is_line : (d : Dot) → IsDot d → IsLine (dot_line d)
unfolding above
dot_is_line d is =
    above_is_line (dot_line d)
    (field_above (codes "<dbdot><latcoord n=\"") d.n _ refl (omega (arith, is.n))
    (field_above (codes "\" m=\"") d.m _ refl (omega (arith, is.m))
    (field_above (codes "\" l=\"") d.l _ refl (omega (arith, is.l)) (above_are (codes "\"/></dbdot>") refl))))

words_are_lines : (words : List (List ℕ)) → AllByRecursion (λ word. above word ≡ true) words → AllByRecursion IsLine words
words_are_lines [] are = tt
words_are_lines (w ∷ ws) are = (word_is_line w are.0, words_are_lines ws are.1)

dots_are_lines : (ds : List Dot) → AllByRecursion IsDot ds → AllByRecursion IsLine (map dot_line ds)
dots_are_lines [] are = tt
dots_are_lines (d ∷ ds) are = (dot_is_line d are.0, dots_are_lines ds are.1)

front_are_lines : AllByRecursion IsLine front_lines
unfolding above
front_are_lines = words_are_lines front_lines (refl, (refl, (refl, (refl, tt))))

middle_are_lines : AllByRecursion IsLine middle_lines
unfolding above
middle_are_lines = words_are_lines middle_lines (refl, (refl, (refl, (refl, (refl, (refl, tt))))))

back_are_lines : AllByRecursion IsLine back_lines
unfolding above
back_are_lines = words_are_lines back_lines (refl, (refl, (refl, tt)))

pub design_are_lines : (d : Drawing) → IsDrawing d → AllByRecursion IsLine (design_lines d)
design_are_lines d is =
    all_append IsLine (head_lines d.ratio) (map dot_line d.dots ++ back_lines)
    (all_append IsLine front_lines (ratio_line d.ratio ∷ middle_lines) front_are_lines (ratio_is_line d.ratio is.ratio, middle_are_lines))
    (all_append IsLine (map dot_line d.dots) back_lines (dots_are_lines d.dots is.dots) back_are_lines)

second_byte : List ℕ → ℕ
second_byte [] = 0
second_byte (a ∷ []) = 0
second_byte (a ∷ b ∷ bs) = b

pub dot_ends_none : (d : Dot) → dot_line d ≡ codes "</layer>" → ⊥
unfolding second_byte
dot_ends_none d e =
    let same : 100 ≡ 47 = ap second_byte e in
    omega (arith, same)
