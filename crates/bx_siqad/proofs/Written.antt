-- The text of a design from its parts, as they are put out.
use Rattle.std.proofs.Common.{◌≡◌, ℕ, List, [], ◌∷◌, ◌++◌, map, sym, ◌∙◌, ap, append_assoc}
use Rattle.std.proofs.lemmas.Grind.{flat_map-append}
use Rattle.std.proofs.lemmas.List.Folds.{flat_map-map}
use Rattle.std.specs.Prelude.{codes, decimal}
use Rattle.std.specs.List.{flat_map}
use Rattle.bx_grid.specs.declared.ratio.Ratio.{Ratio}
use Rattle.bx_library.specs.declared.dot.Dot.{Dot}
use Rattle.bx_lines.specs.Lines.{ended, text_of}
use Rattle.bx_siqad.specs.Texts.{front_lines, middle_lines, back_lines, ratio_line, dot_line, design_text}
use Rattle.bx_siqad.proofs.Fields.{before_n, before_m, before_l, before_w, before_h, field_apart}

-- a field, more of them, and what ends their line
fields_more : (word number more end : List ℕ) → ((word ++ number) ++ more) ++ end ≡ word ++ (number ++ (more ++ end))
fields_more word number more end = append_assoc (word ++ number) more end ∙ append_assoc word number (more ++ end)

pub ratio_written : (r : Ratio) (w h : ℕ) → w ≡ r.w → h ≡ r.h → ((before_w ++ decimal w) ++ ((before_h ++ decimal h) ++ [])) ++ ended (codes "</created_by>") ≡ ended (ratio_line r)
ratio_written r w h is_w is_h =
    let end = ended (codes "</created_by>") in
    let tail = before_h ++ (decimal r.h ++ codes "</created_by>") in
    ap (λ n. ((before_w ++ decimal n) ++ ((before_h ++ decimal h) ++ [])) ++ end) is_w
    ∙ ap (λ n. ((before_w ++ decimal r.w) ++ ((before_h ++ decimal n) ++ [])) ++ end) is_h
    ∙ fields_more before_w (decimal r.w) ((before_h ++ decimal r.h) ++ []) end
    ∙ ap (λ bs. before_w ++ (decimal r.w ++ bs)) (fields_more before_h (decimal r.h) [] end)
    ∙ sym (field_apart before_w (decimal r.w) tail (10 ∷ []) ∙ ap (λ bs. before_w ++ (decimal r.w ++ bs)) (field_apart before_h (decimal r.h) (codes "</created_by>") (10 ∷ [])))

pub dot_written : (d : Dot) (n m l : ℕ) → n ≡ d.n → m ≡ d.m → l ≡ d.l → ((before_n ++ decimal n) ++ ((before_m ++ decimal m) ++ ((before_l ++ decimal l) ++ []))) ++ ended (codes "\"/></dbdot>") ≡ ended (dot_line d)
dot_written d n m l is_n is_m is_l =
    let word = codes "\"/></dbdot>" in
    let end = ended word in
    let tail_l = before_l ++ (decimal d.l ++ word) in
    let tail_m = before_m ++ (decimal d.m ++ tail_l) in
    ap (λ x. ((before_n ++ decimal x) ++ ((before_m ++ decimal m) ++ ((before_l ++ decimal l) ++ []))) ++ end) is_n
    ∙ ap (λ x. ((before_n ++ decimal d.n) ++ ((before_m ++ decimal x) ++ ((before_l ++ decimal l) ++ []))) ++ end) is_m
    ∙ ap (λ x. ((before_n ++ decimal d.n) ++ ((before_m ++ decimal d.m) ++ ((before_l ++ decimal x) ++ []))) ++ end) is_l
    ∙ fields_more before_n (decimal d.n) ((before_m ++ decimal d.m) ++ ((before_l ++ decimal d.l) ++ [])) end
    ∙ ap (λ bs. before_n ++ (decimal d.n ++ bs)) (fields_more before_m (decimal d.m) ((before_l ++ decimal d.l) ++ []) end)
    ∙ ap (λ bs. before_n ++ (decimal d.n ++ (before_m ++ (decimal d.m ++ bs)))) (fields_more before_l (decimal d.l) [] end)
    ∙ sym (
    field_apart before_n (decimal d.n) tail_m (10 ∷ [])
    ∙ ap (λ bs. before_n ++ (decimal d.n ++ bs)) (field_apart before_m (decimal d.m) tail_l (10 ∷ []))
    ∙ ap (λ bs. before_n ++ (decimal d.n ++ (before_m ++ (decimal d.m ++ bs)))) (field_apart before_l (decimal d.l) word (10 ∷ []))
    )

pub design_written : (r : Ratio) (ds : List Dot) → text_of front_lines ++ (ended (ratio_line r) ++ (text_of middle_lines ++ (flat_map (λ d. ended (dot_line d)) ds ++ text_of back_lines))) ≡ design_text (record { ratio = r; dots = ds })
design_written r ds =
    let tail = map dot_line ds ++ back_lines in
    let dots : flat_map (λ d. ended (dot_line d)) ds ++ text_of back_lines ≡ text_of tail = ap (λ bs. bs ++ text_of back_lines) (sym (flat_map-map ended dot_line ds)) ∙ sym (flat_map-append ended (map dot_line ds) back_lines) in
    let middle : text_of middle_lines ++ (flat_map (λ d. ended (dot_line d)) ds ++ text_of back_lines) ≡ text_of (middle_lines ++ tail) = ap (λ bs. text_of middle_lines ++ bs) dots ∙ sym (flat_map-append ended middle_lines tail) in
    ap (λ bs. text_of front_lines ++ (ended (ratio_line r) ++ bs)) middle ∙ sym (flat_map-append ended front_lines (ratio_line r ∷ (middle_lines ++ tail)))
