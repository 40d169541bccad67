-- The lines of a report and of a refusal, as they are put out, are those of the definitions.
use Rattle.std.proofs.Common.{◌≡◌, ℕ, List, [], ◌∷◌, ◌++◌, map, length, Option, Some, refl, sym, ◌∙◌, ap, ap₂, append_assoc}
use Rattle.std.specs.Prelude.{Bool, codes}
use Rattle.std.proofs.lemmas.List.{append-nil}
use Rattle.bx_cert.specs.Certs.{Certificate}
use Rattle.bx_cert.specs.declared.parts.CertLast.{CertLast}
use Rattle.bx_cert.specs.declared.parts.CertLast.TheVariants.{Found}
use Rattle.bx_cert.specs.declared.parts.Spot.{Spot}
use Rattle.bx_design.specs.declared.solution.LaidOut.{LaidOut}
use Rattle.bx_logic.specs.Nets.{Netlist}
use Rattle.bx_grid.specs.declared.ratio.Ratio.{Ratio}
use Rattle.bx_layout.specs.Grids.{FormGrid}
use Rattle.bx_network.specs.Networks.{Network}
use Rattle.bx_lines.specs.Lines.{ended, text_of}
use Rattle.bx_desk.specs.declared.printer.Word.{Word}
use Rattle.bx_says.specs.Texts.{Text, spaced}
use Rattle.bx_desk.specs.Words.{word_text, further_text}
use Rattle.bx_says.specs.Ports.{ports_of}
use Rattle.bx_says.specs.Reports.{head_of, report_of, head_lines, nodes_line, found_line, port_lines, row_lines, report_text}
use Rattle.bx_says.proofs.Printed.{line_is, report_is}
use Rattle.bx_engine.specs.declared.sample.Tally.{Tally}
use Rattle.bx_engine.specs.Samples.{sample_line, tally_line, tally_of, summary_text}
use Rattle.bx_engine.specs.Grids.{ratio_line, sound_line, grid_text}
use Rattle.bx_engine.specs.Said.{last_line, layout_lines, found_lines, search_text, refusal_text}

-- texts one behind the other
pub texts-append : (lines more : List Text) → text_of lines ++ text_of more ≡ text_of (lines ++ more)
texts-append [] more = refl
texts-append (line ∷ lines) more = append_assoc (ended line) (text_of lines) (text_of more) ∙ ap (λ (xs : Text). ended line ++ xs) (texts-append lines more)

-- a report is its parts, also where how the search ended is named in another way
pub report-parts : (net : Netlist) (N : Network) (told last : CertLast) (found : Option LaidOut) → told ≡ last
    → text_of (head_lines (head_of net N)) ++ (ended (last_line told) ++ text_of (found_lines net N found)) ≡ search_text net N last found
report-parts net N told last found same = texts-append (head_lines (head_of net N)) (last_line told ∷ found_lines net N found) ∙ ap (λ (l : CertLast). search_text net N l found) same

-- and so are the lines of a layout, where its ratio and its tiles are
pub layout-parts : (net : Netlist) (N : Network) (r : Ratio) (tiles : List ℕ) (laid : LaidOut) → r ≡ laid.grid.ratio → tiles ≡ laid.layout.places
    → text_of (port_lines r (ports_of net N tiles)) ++ text_of (row_lines laid.grid) ≡ text_of (layout_lines net N laid)
layout-parts net N r tiles laid sides places =
    ap₂ (λ (x : Ratio) (ts : List ℕ). text_of (port_lines x (ports_of net N ts)) ++ text_of (row_lines laid.grid)) sides places
    ∙ texts-append (port_lines laid.grid.ratio (ports_of net N laid.layout.places)) (row_lines laid.grid)

-- what is said of a layout that was found is its report
pub found-text : (net : Netlist) (N : Network) (r : Ratio) (spots : List Spot) (laid : LaidOut) → r ≡ laid.grid.ratio
    → search_text net N (Found r spots) (Some laid) ≡ report_text (report_of net N laid.layout.places laid.grid)
found-text net N r spots laid same =
    let head : List Text = head_lines (head_of net N) in
    let ports : List Text = port_lines laid.grid.ratio (ports_of net N laid.layout.places) in
    sym (texts-append head (found_line r ∷ layout_lines net N laid))
    ∙ ap (λ (xs : Text). text_of head ++ (ended (found_line r) ++ xs)) (sym (texts-append ports (row_lines laid.grid)))
    ∙ ap (λ (x : Ratio). text_of head ++ (ended (found_line x) ++ (text_of ports ++ text_of (row_lines laid.grid)))) same
    ∙ report_is (report_of net N laid.layout.places laid.grid)

-- the line of a refusal, word by word
pub refusal_is : (first : Text) (words : List Word) → codes "refused" ++ ((32 ∷ first) ++ (further_text words ++ 10 ∷ [])) ≡ refusal_text (spaced first (map word_text words))
unfolding refusal_text
refusal_is first words =
    let fault : Text = spaced first (map word_text words) in
    ap (λ (xs : Text). codes "refused" ++ 32 ∷ xs) (line_is first words)
    ∙ ap (λ (xs : Text). codes "refused" ++ 32 ∷ xs ++ 10 ∷ []) (sym (append-nil fault))
    ∙ sym (append_assoc (codes "refused") (32 ∷ (fault ++ [])) (10 ∷ []))

-- the lines of a grid, as they are put out
pub grid-parts : (r : Ratio) (grid : FormGrid) (sound : Bool) → r ≡ grid.ratio → ended (ratio_line r) ++ (text_of (row_lines grid) ++ ended (sound_line sound)) ≡ grid_text grid sound
grid-parts r grid sound same =
    ap (λ (q : Ratio). ended (ratio_line q) ++ (text_of (row_lines grid) ++ ended (sound_line sound))) same
    ∙ ap (λ (xs : Text). ended (ratio_line grid.ratio) ++ xs)
    (ap (λ (xs : Text). text_of (row_lines grid) ++ xs) (sym (append-nil (ended (sound_line sound)))) ∙ texts-append (row_lines grid) (sound_line sound ∷ []))

-- four lines one behind the other
pub four-lines : (a b c d : Text) → ended a ++ (ended b ++ (ended c ++ ended d)) ≡ text_of (a ∷ b ∷ c ∷ d ∷ [])
four-lines a b c d = ap (λ (xs : Text). ended a ++ (ended b ++ (ended c ++ xs))) (sym (append-nil (ended d)))

-- the summary of a sample, as it is put out, also where how the search ended and the tally are named in other ways
pub summary-parts : (n g e : ℕ) (N : Network) (cert : Certificate) (l : CertLast) (t : Tally) → l ≡ cert.last → t ≡ tally_of cert.sections
    → ended (sample_line n g e) ++ (ended (nodes_line (length N.nodes) (length N.edges)) ++ (ended (last_line l) ++ ended (tally_line t))) ≡ summary_text n g e N cert
summary-parts n g e N cert l t same tallies =
    ap₂ (λ (x : CertLast) (y : Tally). ended (sample_line n g e) ++ (ended (nodes_line (length N.nodes) (length N.edges)) ++ (ended (last_line x) ++ ended (tally_line y)))) same tallies
    ∙ four-lines (sample_line n g e) (nodes_line (length N.nodes) (length N.edges)) (last_line cert.last) (tally_line (tally_of cert.sections))
