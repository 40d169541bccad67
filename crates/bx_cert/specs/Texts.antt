-- The text of a certificate: a list of lines, each a function of what it says. The lines of steps are those of
-- a log.
use Rattle.std.specs.Prelude.{◌≡◌, ℕ, List, [], ◌∷◌, ◌++◌, length, map, flat_map, codes, decimal, Result, Ok, Err, ⊤}
use Rattle.bx_grid.specs.declared.ratio.Ratio.{Ratio}
use Rattle.bx_grid.specs.declared.count.CountProof.{CountProof}
use Rattle.bx_grid.specs.declared.count.CountProof.TheVariants.{Late, Crowd, Cut, Pair}
use Rattle.bx_lines.specs.Lines.{text_of, IsFirstBadLine}
use Rattle.bx_proof.specs.Texts.{step_lines}
use Rattle.bx_proof.specs.declared.refutation.Refutation.{Refutation}
use Rattle.bx_proof.specs.declared.refutation.Refutation.TheVariants.{Count, Clauses}
use Rattle.bx_cert.specs.declared.fault.CertFault.{CertFault}
use Rattle.bx_cert.specs.declared.fault.CertFault.TheVariants.{BadCert, NoMemory}
use Rattle.bx_cert.specs.declared.line.Line.{Line}
use Rattle.bx_cert.specs.declared.line.Line.TheVariants.{Head, Bounds, Counted, Run, FoundAt, GaveUp, NoRatio, Place, End}
use Rattle.bx_cert.specs.declared.parts.Section.{Section}
use Rattle.bx_cert.specs.declared.parts.CertLast.{CertLast}
use Rattle.bx_cert.specs.declared.parts.CertLast.TheVariants.{Found, Undecided, NoneWithin}
use Rattle.bx_cert.specs.Certs.{Certificate, IsCert}

-- numbers, each behind a space
abbrev pub numbers : List ℕ → List ℕ
numbers ns = flat_map (λ n. 32 ∷ decimal n) ns

-- which count, with its numbers
abbrev pub count_text : CountProof → List ℕ
count_text (Late node) = codes " late" ++ numbers (node ∷ [])
count_text (Crowd first last) = codes " crowd" ++ numbers (first ∷ last ∷ [])
count_text (Cut row) = codes " cut" ++ numbers (row ∷ [])
count_text (Pair one two) = codes " pair" ++ numbers (one ∷ two ∷ [])

-- a line but for those of steps
abbrev pub line_text : Line → List ℕ
line_text Head = codes "bestagon cert 1"
line_text (Bounds limits budget) = codes "limits" ++ numbers (limits.area ∷ limits.width ∷ limits.height ∷ budget ∷ [])
line_text (Counted ratio proof) = codes "count" ++ (numbers (ratio.w ∷ ratio.h ∷ []) ++ count_text proof)
line_text (Run ratio count) = codes "clauses" ++ numbers (ratio.w ∷ ratio.h ∷ count ∷ [])
line_text (FoundAt ratio) = codes "found" ++ numbers (ratio.w ∷ ratio.h ∷ [])
line_text (GaveUp ratio spent) = codes "undecided" ++ numbers (ratio.w ∷ ratio.h ∷ spent ∷ [])
line_text NoRatio = codes "none"
line_text (Place spot) = codes "place" ++ numbers (spot.x ∷ spot.y ∷ [])
line_text End = codes "end"

-- the lines of a refutation of this ratio
abbrev pub refutation_lines : Ratio → Refutation → List (List ℕ)
refutation_lines ratio (Count proof) = line_text (Counted ratio proof) ∷ []
refutation_lines ratio (Clauses log) = line_text (Run ratio (length log.steps)) ∷ step_lines log.first log.steps

abbrev pub section_lines : Section → List (List ℕ)
section_lines section = refutation_lines section.ratio section.proof

abbrev pub last_lines : CertLast → List (List ℕ)
last_lines (Found ratio spots) = line_text (FoundAt ratio) ∷ map (λ spot. line_text (Place spot)) spots
last_lines (Undecided ratio spent) = line_text (GaveUp ratio spent) ∷ []
last_lines NoneWithin = line_text NoRatio ∷ []

abbrev pub cert_lines : Certificate → List (List ℕ)
cert_lines cert =
    line_text Head ∷ line_text (Bounds cert.limits cert.budget)
    ∷ (flat_map section_lines cert.sections ++ (last_lines cert.last ++ line_text End ∷ []))

abbrev pub cert_text : Certificate → List ℕ
cert_text cert = text_of (cert_lines cert)

-- bytes are the text of this certificate
pub record IsTextOf (cert : Certificate) (bytes : List ℕ) : Type 0 where
  pub is : IsCert cert
  pub spelled : bytes ≡ cert_text cert

-- bytes are the text of some certificate
abbrev pub IsCertText : List ℕ → Type 0
IsCertText bytes = (cert : Certificate) × IsTextOf cert bytes

-- what bytes read as: the certificate whose text they are, or the first line at which they stop being a text
abbrev pub Reads : List ℕ → Result Certificate CertFault → Type 0
Reads bytes (Ok cert) = IsTextOf cert bytes
Reads bytes (Err (BadCert k)) = IsFirstBadLine IsCertText bytes k
Reads bytes (Err NoMemory) = ⊤
