-- The text of a certificate from its parts, as they are put out.
use Rattle.std.proofs.Common.{◌≡◌, ℕ, List, [], ◌∷◌, ◌++◌, map, refl, sym, ◌∙◌, ap}
use Rattle.std.proofs.lemmas.Grind.{flat_map-append}
use Rattle.std.proofs.lemmas.List.{append-nil}
use Rattle.std.proofs.lemmas.List.Folds.{flat_map-map}
use Rattle.std.specs.List.{flat_map}
use Rattle.bx_grid.specs.declared.ratio.Ratio.{Ratio}
use Rattle.bx_grid.specs.declared.ratio.Limits.{Limits}
use Rattle.bx_lines.specs.Lines.{ended, text_of}
use Rattle.bx_cert.specs.declared.line.Line.TheVariants.{Head, Bounds, FoundAt, Place, End}
use Rattle.bx_cert.specs.declared.parts.Spot.{Spot}
use Rattle.bx_cert.specs.declared.parts.Section.{Section}
use Rattle.bx_cert.specs.declared.parts.CertLast.{CertLast}
use Rattle.bx_cert.specs.Certs.{Certificate}
use Rattle.bx_cert.specs.Texts.{line_text, section_lines, last_lines, cert_text}

text_of-flat_map : {X : Type 0} (f : X → List (List ℕ)) (xs : List X) → text_of (flat_map f xs) ≡ flat_map (λ x. text_of (f x)) xs
text_of-flat_map f [] = refl
text_of-flat_map f (x ∷ xs) = flat_map-append ended (f x) (flat_map f xs) ∙ ap (λ bs. text_of (f x) ++ bs) (text_of-flat_map f xs)

cert_is : (c : Certificate) → ended (line_text Head) ++ (ended (line_text (Bounds c.limits c.budget)) ++ (flat_map (λ s. text_of (section_lines s)) c.sections ++ (text_of (last_lines c.last) ++ ended (line_text End)))) ≡ cert_text c
cert_is c =
    let lines = flat_map section_lines c.sections in
    let last : text_of (last_lines c.last ++ line_text End ∷ []) ≡ text_of (last_lines c.last) ++ ended (line_text End) = flat_map-append ended (last_lines c.last) (line_text End ∷ []) ∙ ap (λ bs. text_of (last_lines c.last) ++ bs) (append-nil (ended (line_text End))) in
    let all : text_of (lines ++ (last_lines c.last ++ line_text End ∷ [])) ≡ flat_map (λ s. text_of (section_lines s)) c.sections ++ (text_of (last_lines c.last) ++ ended (line_text End)) =
    flat_map-append ended lines (last_lines c.last ++ line_text End ∷ []) ∙ ap (λ bs. bs ++ text_of (last_lines c.last ++ line_text End ∷ [])) (text_of-flat_map section_lines c.sections) ∙ ap (λ bs. flat_map (λ s. text_of (section_lines s)) c.sections ++ bs) last in
    ap (λ bs. ended (line_text Head) ++ (ended (line_text (Bounds c.limits c.budget)) ++ bs)) (sym all)

pub found_is : (r : Ratio) (spots : List Spot) → ended (line_text (FoundAt r)) ++ flat_map (λ s. ended (line_text (Place s))) spots ≡ text_of (line_text (FoundAt r) ∷ map (λ s. line_text (Place s)) spots)
found_is r spots = ap (λ bs. ended (line_text (FoundAt r)) ++ bs) (sym (flat_map-map ended (λ s. line_text (Place s)) spots))

-- the same from parts that are those of the certificate
abbrev pub parts_text : Limits → ℕ → List Section → CertLast → List ℕ
parts_text limits budget sections last = ended (line_text Head) ++ (ended (line_text (Bounds limits budget)) ++ (flat_map (λ s. text_of (section_lines s)) sections ++ (text_of (last_lines last) ++ ended (line_text End))))

pub parts_are : (c : Certificate) (limits : Limits) (budget : ℕ) (sections : List Section) (last : CertLast) → limits ≡ c.limits → budget ≡ c.budget → sections ≡ c.sections → last ≡ c.last → parts_text limits budget sections last ≡ cert_text c
parts_are c limits budget sections last l b s e =
    ap (λ x. parts_text x budget sections last) l ∙ ap (λ x. parts_text c.limits x sections last) b ∙ ap (λ x. parts_text c.limits c.budget x last) s ∙ ap (λ x. parts_text c.limits c.budget c.sections x) e ∙ cert_is c
