-- The line of a refusal for a fault of a net names one fault.
use Rattle.std.proofs.Common.{◌≡◌, ℕ, List, [], ◌∷◌, ◌++◌, refl, sym, ap, ◌∙◌}
use Rattle.std.specs.Prelude.{◌==◌, if◌then◌else◌, codes, slice_index_or}
use Rattle.std.specs.List.{AllByRecursion}
use Rattle.std.proofs.lemmas.List.{append-nil}
use Rattle.bx_verilog.specs.Formulas.{Text}
use Rattle.bx_verilog.specs.declared.fault.NetFault.{NetFault}
use Rattle.bx_verilog.specs.declared.fault.NetFault.TheVariants.{BadPort, NoOutput, TwoDrivers, NoDriver, Cycle, NoMemory}
use Rattle.bx_lines.specs.Lines.{ended, text_of}
use Rattle.bx_says.specs.Texts.{spaced, IsPlain}
use Rattle.bx_engine.specs.Said.{IsPlainFault, net_fault_text, refusal_text}
use Rattle.bx_says.proofs.Spellings.{Line, line, line_text, lines_once}
use Rattle.bx_says.proofs.PlainTexts.{plain-tested}

-- a fault as words, and back
abbrev fault_words : NetFault → List Text
fault_words (BadPort name) = codes "port" ∷ name ∷ []
fault_words NoOutput = codes "no" ∷ codes "output" ∷ []
fault_words (TwoDrivers name) = codes "drivers" ∷ name ∷ []
fault_words (NoDriver name) = codes "no" ∷ codes "driver" ∷ name ∷ []
fault_words (Cycle name) = codes "cycle" ∷ name ∷ []
fault_words NoMemory = codes "memory" ∷ []

-- by the first letter, which is `p`, `d`, `c` or `n`
abbrev by_letter : ℕ → Text → NetFault
by_letter letter name = if letter == 112 then BadPort name else if letter == 100 then TwoDrivers name else if letter == 99 then Cycle name else NoOutput

abbrev fault_of : List Text → NetFault
fault_of (word ∷ name ∷ []) = by_letter (slice_index_or word 0 0) name
fault_of (word ∷ other ∷ name ∷ []) = NoDriver name
fault_of _ = NoMemory

fault_back : (f : NetFault) → fault_of (fault_words f) ≡ f
fault_back (BadPort name) = refl
fault_back NoOutput = refl
fault_back (TwoDrivers name) = refl
fault_back (NoDriver name) = refl
fault_back (Cycle name) = refl
fault_back NoMemory = refl

fault_plain : (f : NetFault) → IsPlainFault f → AllByRecursion IsPlain (fault_words f)
fault_plain (BadPort name) p = (plain-tested (codes "port") refl, (p, tt))
fault_plain NoOutput p = (plain-tested (codes "no") refl, (plain-tested (codes "output") refl, tt))
fault_plain (TwoDrivers name) p = (plain-tested (codes "drivers") refl, (p, tt))
fault_plain (NoDriver name) p = (plain-tested (codes "no") refl, (plain-tested (codes "driver") refl, (p, tt)))
fault_plain (Cycle name) p = (plain-tested (codes "cycle") refl, (p, tt))
fault_plain NoMemory p = (plain-tested (codes "memory") refl, tt)

abbrev fault_line : NetFault → Line
fault_line f = line (codes "refused") (fault_words f)

-- the line of the refusal is that of the words
behind : (fault : Text) → codes "refused" ++ (32 ∷ fault) ≡ spaced (codes "refused") (fault ∷ [])
behind fault = ap (λ (xs : Text). codes "refused" ++ xs) (sym (append-nil (32 ∷ fault)))

line_is : (f : NetFault) → line_text (fault_line f) ≡ spaced (codes "refused") (net_fault_text f ∷ [])
line_is (BadPort name) = behind (net_fault_text (BadPort name))
line_is NoOutput = behind (net_fault_text NoOutput)
line_is (TwoDrivers name) = behind (net_fault_text (TwoDrivers name))
line_is (NoDriver name) = behind (net_fault_text (NoDriver name))
line_is (Cycle name) = behind (net_fault_text (Cycle name))
line_is NoMemory = behind (net_fault_text NoMemory)

refused_is : (f : NetFault) → text_of (line_text (fault_line f) ∷ []) ≡ refusal_text (net_fault_text f)
unfolding refusal_text
refused_is f = append-nil (ended (line_text (fault_line f))) ∙ ap ended (line_is f)

pub one_fault : (f g : NetFault) → IsPlainFault f → IsPlainFault g → refusal_text (net_fault_text f) ≡ refusal_text (net_fault_text g) → f ≡ g
one_fault f g p q e =
    let refused : IsPlain (codes "refused") = plain-tested (codes "refused") refl in
    let lines : fault_line f ∷ [] ≡ fault_line g ∷ [] = lines_once (fault_line f ∷ []) (fault_line g ∷ []) ((refused, fault_plain f p), tt) ((refused, fault_plain g q), tt) (refused_is f ∙ e ∙ sym (refused_is g)) in
    let words : fault_words f ≡ fault_words g = cc in
    sym (fault_back f) ∙ ap fault_of words ∙ fault_back g
